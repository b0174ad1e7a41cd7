-- `put_integer` meets its contract: refused with nothing changed, or the whole INTEGER. Assumes nothing.
use mathlib.Core.Path.{◌∙◌}
use native.Mathlib.Omega.{arith}
use Rattle.der_write.proofs.Writes.{kept, wrote, handed_on, has_space, integer_place, integer_fits, integer_there}
use Rattle.der_write.proofs.put_integer.Goals as goal

pub returns-in_err-end-clause-answer : goal.returns-in_err-end-clause-answer
returns-in_err-end-clause-answer c =
    let e = integer_place c.args.out.now c.args.at c.args.x c.integer_size-n.result c.ranges.x c.integer_size-n.ensures.is in
    handed_on c.from_residual.result c.in_err-end.field-0.0 _ c.from_residual.ensures (c.in_err-end.ensures ∙ e)

pub returns-in_err-end-clause-output : goal.returns-in_err-end-clause-output
returns-in_err-end-clause-output c =
    let e = integer_place c.args.out.now c.args.at c.args.x c.integer_size-n.result c.ranges.x c.integer_size-n.ensures.is in
    kept _ _ _ c.args.out.now c.args.at _ (c.in_err-end.ensures ∙ e)

pub write_integer-requires : goal.write_integer-requires
write_integer-requires c = (c.integer_size-n.ensures.is, c.integer_size-n.ensures.few, integer_fits c.args.out.now c.args.at c.args.x c.integer_size-n.result c.ranges.x c.integer_size-n.ensures.is _ c.in_ok-end.ensures)

pub returns-clause-answer : goal.returns-clause-answer
returns-clause-answer c =
    c.in_ok-end.ensures ∙ integer_place c.args.out.now c.args.at c.args.x c.integer_size-n.result c.ranges.x c.integer_size-n.ensures.is

pub returns-clause-output : goal.returns-clause-output
returns-clause-output c =
    let e = integer_place c.args.out.now c.args.at c.args.x c.integer_size-n.result c.ranges.x c.integer_size-n.ensures.is in
    wrote _ _ c.args.out.now _ c.args.at _ (c.in_ok-end.ensures ∙ e) (integer_there c.args.out.now c.args.at c.args.x c.integer_size-n.result c.ranges.x c.integer_size-n.ensures.is _ c.in_ok-end.ensures _ c.write_integer.ensures)

pub slice_bounds-write_integer-count : goal.slice_bounds-write_integer-count
slice_bounds-write_integer-count c = let x = has_space c.args.out.now c.args.at _ _ c.in_ok-end.ensures in omega (arith, x.0, x.1)

pub slice_bounds-write_integer-start : goal.slice_bounds-write_integer-start
slice_bounds-write_integer-start c = let x = has_space c.args.out.now c.args.at _ _ c.in_ok-end.ensures in omega (arith, x.0, x.1)

pub slice_bounds-write_integer-end : goal.slice_bounds-write_integer-end
slice_bounds-write_integer-end c = let x = has_space c.args.out.now c.args.at _ _ c.in_ok-end.ensures in omega (arith, x.0, x.1)
