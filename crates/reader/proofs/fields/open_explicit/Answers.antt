-- `open_explicit` meets its contract: a header that lies in its holder, or the header's refusal or 9 at the end. Assumes nothing.
use native.Mathlib.Nat.{le_refl}
use Rattle.answer.proofs.Results.{handed_on}
use Rattle.contents.proofs.Open.{open_missing, open_no, open_is}
use Rattle.reader.proofs.fields.open_explicit.Goals as goal

pub returns-then-s-at-clause-is : goal.returns-then-s-at-clause-is
returns-then-s-at-clause-is c = search open_missing

pub returns-in_err-form-clause-is : goal.returns-in_err-form-clause-is
returns-in_err-form-clause-is c = rw (handed_on _ _ c.from_residual.ensures.1) (open_no _ _ _ (le_refl _) c.if-s-at.false _ _ c.in_err-form.ensures.is)

pub returns-clause-is : goal.returns-clause-is
returns-clause-is c = open_is _ _ _ (le_refl _) c.if-s-at.false _ _ _ _ c.in_ok-form.ensures.is c.in_ok-form.ensures.inside.1
