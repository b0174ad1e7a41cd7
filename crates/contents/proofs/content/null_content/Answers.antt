-- `null_content` meets its contract: a NULL, and then the end. Assumes nothing.
use native.Mathlib.Nat.{le_refl}
use Rattle.answer.proofs.Results.{handed_on}
use Rattle.schema.specs.Decode.{read_null}
use Rattle.contents.proofs.Exact.{exactly_no_taken, exactly_as}
use Rattle.contents.proofs.content.null_content.Goals as goal

pub returns-in_err-read_null-clause-is : goal.returns-in_err-read_null-clause-is
returns-in_err-read_null-clause-is c = rw (handed_on _ _ c.from_residual.ensures.1) (exactly_no_taken (λ (u : Unit {0}). u) read_null _ _ _ (le_refl _) _ _ c.in_err-read_null.ensures.is)

pub returns-in_err-exactly-clause-is : goal.returns-in_err-exactly-clause-is
returns-in_err-exactly-clause-is c = rw (handed_on _ _ c.from_residual-in_err-exactly.ensures.1) (exactly_as (λ (u : Unit {0}). u) read_null _ _ _ (le_refl _) _ _ c.in_ok-read_null.ensures.is c.in_ok-read_null.ensures.inside.1 c.in_err-exactly.ensures)

pub returns-clause-is : goal.returns-clause-is
returns-clause-is c = exactly_as (λ (u : Unit {0}). u) read_null _ _ _ (le_refl _) _ _ c.in_ok-read_null.ensures.is c.in_ok-read_null.ensures.inside.1 c.in_ok-exactly.ensures
