-- `put_header` meets its contract: refused in order with nothing changed, or the whole header. Assumes nothing.
use mathlib.Core.Path.{◌∙◌}
use native.Mathlib.Omega.{arith}
use Rattle.der_write.proofs.Writes.{kept, wrote, handed_on, has_space, no_form, no_number, no_size_lem, header_place, header_fits, header_there}
use Rattle.der_write.proofs.put_header.Goals.{then-form-ge8-via-then-form-ge8, then-form-ge8-via-else-form-ge8+then-number-ge16384}
use Rattle.der_write.proofs.put_header.Goals as goal

pub returns-then-form-ge8-clause-answer : goal.returns-then-form-ge8-clause-answer
returns-then-form-ge8-clause-answer c =
    let a = c.args in
    elim c.then-form-ge8.branch [
      | then-form-ge8-via-then-form-ge8 w ↦ no_form a.out.now a.at a.form a.number a.size w.if-form-ge8.true
      | then-form-ge8-via-else-form-ge8+then-number-ge16384 w ↦ no_number a.out.now a.at a.form a.number a.size w.if-form-ge8.false w.if-number-ge16384.true
    ]

pub returns-then-form-ge8-clause-output : goal.returns-then-form-ge8-clause-output
returns-then-form-ge8-clause-output c = kept _ _ _ c.args.out.now c.args.at _ (returns-then-form-ge8-clause-answer c)

pub returns-then-size-ge65536-clause-answer : goal.returns-then-size-ge65536-clause-answer
returns-then-size-ge65536-clause-answer c =
    let a = c.args in
    no_size_lem a.out.now a.at a.form a.number a.size c.if-form-ge8.false c.if-number-ge16384.false c.if-size-ge65536.true

pub returns-then-size-ge65536-clause-output : goal.returns-then-size-ge65536-clause-output
returns-then-size-ge65536-clause-output c = kept _ _ _ c.args.out.now c.args.at _ (returns-then-size-ge65536-clause-answer c)

pub returns-in_err-end-clause-answer : goal.returns-in_err-end-clause-answer
returns-in_err-end-clause-answer c =
    let a = c.args in
    let e = header_place a.out.now a.at a.form a.number a.size c.if-form-ge8.false c.if-number-ge16384.false c.if-size-ge65536.false _ _ c.identifier_size.ensures.is c.length_size.ensures.is in
    handed_on c.from_residual.result c.in_err-end.field-0.0 _ c.from_residual.ensures (c.in_err-end.ensures ∙ e)

pub returns-in_err-end-clause-output : goal.returns-in_err-end-clause-output
returns-in_err-end-clause-output c =
    let a = c.args in
    let e = header_place a.out.now a.at a.form a.number a.size c.if-form-ge8.false c.if-number-ge16384.false c.if-size-ge65536.false _ _ c.identifier_size.ensures.is c.length_size.ensures.is in
    kept _ _ _ a.out.now a.at _ (c.in_err-end.ensures ∙ e)

pub write_header-requires : goal.write_header-requires
write_header-requires c =
    let a = c.args in
    header_fits a.out.now a.at a.form a.number a.size c.if-form-ge8.false c.if-number-ge16384.false c.if-size-ge65536.false _ _ c.identifier_size.ensures.is c.length_size.ensures.is _ c.in_ok-end.ensures

pub returns-clause-answer : goal.returns-clause-answer
returns-clause-answer c =
    let a = c.args in
    c.in_ok-end.ensures ∙ header_place a.out.now a.at a.form a.number a.size c.if-form-ge8.false c.if-number-ge16384.false c.if-size-ge65536.false _ _ c.identifier_size.ensures.is c.length_size.ensures.is

pub returns-clause-output : goal.returns-clause-output
returns-clause-output c = wrote _ _ c.args.out.now _ c.args.at _ (returns-clause-answer c) (header_there c.args.out.now c.args.at c.args.form c.args.number c.args.size c.if-form-ge8.false c.if-number-ge16384.false c.if-size-ge65536.false _ _ c.identifier_size.ensures.is c.length_size.ensures.is _ c.in_ok-end.ensures _ c.write_header.ensures)

pub slice_bounds-write_header-count : goal.slice_bounds-write_header-count
slice_bounds-write_header-count c = let x = has_space c.args.out.now c.args.at _ _ c.in_ok-end.ensures in omega (arith, x.0, x.1)

pub slice_bounds-write_header-start : goal.slice_bounds-write_header-start
slice_bounds-write_header-start c = let x = has_space c.args.out.now c.args.at _ _ c.in_ok-end.ensures in omega (arith, x.0, x.1)

pub slice_bounds-write_header-end : goal.slice_bounds-write_header-end
slice_bounds-write_header-end c = let x = has_space c.args.out.now c.args.at _ _ c.in_ok-end.ensures in omega (arith, x.0, x.1)
