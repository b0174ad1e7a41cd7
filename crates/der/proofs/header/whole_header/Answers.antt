-- `whole_header` meets its contract: identifier, length and fit, one law of `Headers` for each answer. Assumes nothing.
use native.Mathlib.Nat.{le_refl}
use Rattle.answer.proofs.Results.{handed_on}
use Rattle.der.proofs.Headers.{no_identifier, no_length, no_fit, fits-header}
use Rattle.der.proofs.header.whole_header.Goals as goal

pub returns-in_err-form-clause-is : goal.returns-in_err-form-clause-is
returns-in_err-form-clause-is c = rw (handed_on _ _ c.from_residual.ensures.1) (no_identifier _ _ _ _ _ c.in_err-form.ensures.is)

pub returns-in_err-size-clause-is : goal.returns-in_err-size-clause-is
returns-in_err-size-clause-is c = rw (handed_on _ _ c.from_residual-in_err-size.ensures.1) (no_length _ _ _ _ _ _ c.in_ok-form.ensures.is _ _ c.in_err-size.ensures.is)

pub returns-then-s-body-clause-is : goal.returns-then-s-body-clause-is
returns-then-s-body-clause-is c = no_fit _ _ _ _ _ _ c.in_ok-form.ensures.is _ _ (le_refl _) c.in_ok-size.ensures.is c.if-s-body.true

pub returns-clause-is : goal.returns-clause-is
returns-clause-is c = fits-header _ _ _ _ _ _ c.in_ok-form.ensures.is _ _ (le_refl _) c.in_ok-size.ensures.is c.if-s-body.false
