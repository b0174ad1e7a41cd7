-- `read_fields` meets its contract: what was stored up to here is what the fields up to here say. Assumes nothing.
use mathlib.Core.Path.{refl}
use native.Mathlib.Omega.{arith}
use lib.ListN.{length-take}
use Rattle.std.proofs.Common.{rules}
use native.Mathlib.Nat.{le_refl}
use Rattle.answer.proofs.Results.{handed_on}
use Rattle.der.proofs.Elements.{holder_part}
use Rattle.reader.proofs.Bounds.{kept_more}
use Rattle.reader.proofs.FieldReads.{field_next}
use Rattle.reader.proofs.Filling.{filled_none, filled_no, content_no, filled_more, filled_all}
use Rattle.reader.proofs.fields.read_fields.Goals as goal

pub loop-place-init : goal.loop-place-init
loop-place-init c = rw c.requires.1 (filled_none _ _ _ _ (le_refl _) c.requires.0)

pub returns-in_err-field : goal.returns-in_err-field
returns-in_err-field c = rw (handed_on _ _ c.from_residual.ensures.1) (filled_no _ _ _ _ (le_refl _) _ _ _ c.loop-place.invariant c.loop-place-test.true _ _ c.in_err-field.ensures, tt)

pub returns-in_err-store_field : goal.returns-in_err-store_field
returns-in_err-store_field c = rw (handed_on _ _ c.from_residual-in_err-store_field.ensures.1) (content_no _ _ _ _ (le_refl _) _ _ _ c.loop-place.invariant c.loop-place-test.true _ _ _ _ c.in_ok-field.ensures _ _ (rw (holder_part c.args.s.now _ c.in_ok-field.field.stop c.in_ok-field.field.body refl) at (c.in_err-store_field.ensures c.loop-place.place)), tt)

pub overflow_add-low : goal.overflow_add-low
overflow_add-low c = search (rules, field_next)

pub loop-place-preserved : goal.loop-place-preserved
loop-place-preserved c = let t = c.in_ok-store_field.ensures in rw t.3 (filled_more _ _ _ _ (le_refl _) _ _ _ c.loop-place.invariant c.loop-place-test.true _ _ _ _ c.in_ok-field.ensures t.0 (rw (holder_part c.args.s.now _ c.in_ok-field.field.stop c.in_ok-field.field.body refl) at (t.1 c.loop-place.place)) (kept_more _ _ (omega (arith, length-take c.in_ok-field.field.stop c.args.s.now)) _ _ _ t.2))

pub returns : goal.returns
returns c = (filled_all _ _ _ _ (le_refl _) _ _ _ c.loop-place.invariant c.loop-place-test.false, c.loop-place.invariant.bounds)
