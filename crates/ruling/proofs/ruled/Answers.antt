-- `ruling::ruled` meets its contract: the first refusal, or the permit. Assumes nothing.
use mathlib.Core.Path.{refl}
use Rattle.std.specs.Prelude.{Ok, Err}
use Rattle.answer.proofs.Results.{handed_on}
use Rattle.ruling.proofs.Answers.{ruled-refused, ruled-permitted}
use Rattle.ruling.proofs.ruled.Goals as goal

pub returns-in_err-first_refusal : goal.returns-in_err-first_refusal
returns-in_err-first_refusal c = rw (handed_on _ _ c.from_residual.ensures.1) (ruled-refused _ _ _ _ _ (Err _) c.in_err-first_refusal.ensures _ refl)

pub returns : goal.returns
returns c = ruled-permitted _ _ _ _ _ (Ok _) c.in_ok-first_refusal.ensures refl _ _ _ c.looked_at-asked.ensures c.held_tags.ensures c.held_tags-2.ensures _ _ c.mark_of-hardware.ensures c.mark_of-software.ensures _ c.permit.ensures
