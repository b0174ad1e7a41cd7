-- `read_opening` meets its contract: the first pass, the outermost SEQUENCE over the same bytes, and the six in it.
-- Assumes nothing.
use mathlib.Core.Path.{refl}
use lib.Seq.{length-take-le}
use Rattle.answer.proofs.Results.{handed_on}
use Rattle.der.proofs.Elements.{holder_part}
use Rattle.reader.proofs.Eights.{walk_no, outer_no, six_no, opened-to}
use Rattle.reader.proofs.eight.read_opening.Goals as goal

pub returns-in_err-elements : goal.returns-in_err-elements
returns-in_err-elements c = rw (handed_on _ _ c.from_residual.ensures.1) (walk_no _ _ _ (rw c.extension.ensures at c.in_err-elements.ensures))

pub returns-in_err-body : goal.returns-in_err-body
returns-in_err-body c = rw (handed_on _ _ c.from_residual-in_err-body.ensures.1) (outer_no _ _ (rw c.extension.ensures at c.in_ok-elements.ensures) _ _ c.in_err-body.ensures.is)

pub returns-in_err-val : goal.returns-in_err-val
returns-in_err-val c = rw (handed_on _ _ c.from_residual-in_err-val.ensures.1) (six_no _ _ (rw c.extension.ensures at c.in_ok-elements.ensures) _ _ c.in_ok-body.ensures.is _ _ (rw (holder_part c.args.s.now _ c.in_ok-body.field-0.stop _ refl) at c.in_err-val.ensures.is))

pub returns : goal.returns
returns c = opened-to _ _ (rw c.extension.ensures at c.in_ok-elements.ensures) _ _ c.in_ok-body.ensures.is _ _ (rw (holder_part c.args.s.now _ c.in_ok-body.field-0.stop c.in_ok-val.field-0.next refl, holder_part c.args.s.now _ c.in_ok-body.field-0.stop c.in_ok-body.field-0.body refl) at c.in_ok-val.ensures.is) c.in_ok-body.ensures.inside.1.1 (rw (length-take-le c.in_ok-body.field-0.stop c.args.s.now c.in_ok-body.ensures.inside.1.1) at c.in_ok-val.ensures.inside)
