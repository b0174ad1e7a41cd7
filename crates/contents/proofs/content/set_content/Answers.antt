-- `set_content` meets its contract: one small number, or a set and then the end. Assumes nothing.
use native.Mathlib.Nat.{le_refl}
use Rattle.answer.proofs.Results.{handed_on}
use Rattle.schema.specs.Decode.{read_set}
use Rattle.records.specs.Content.{members_of}
use Rattle.records.specs.Slots.{SetInSlots}
use Rattle.records.specs.Clear.{SpareClear}
use Rattle.contents.proofs.Exact.{exactly_no_taken, exactly_as, exactly_kept}
use Rattle.contents.proofs.content.set_content.Goals as goal

pub returns-in_err-read_set-clause-is : goal.returns-in_err-read_set-clause-is
returns-in_err-read_set-clause-is c = rw (handed_on _ _ c.from_residual.ensures.1) (exactly_no_taken members_of read_set _ _ _ (le_refl _) _ _ c.in_err-read_set.ensures.is)

pub returns-clause-is : goal.returns-clause-is
returns-clause-is c = exactly_as members_of read_set _ _ _ (le_refl _) _ _ c.in_ok-read_set.ensures.is c.in_ok-read_set.ensures.inside.1 c.exactly.ensures

pub returns-clause-slots : goal.returns-clause-slots
returns-clause-slots c = exactly_kept (λ g. SetInSlots g × SpareClear g) _ _ _ c.in_ok-read_set.ensures.slots c.exactly.ensures
