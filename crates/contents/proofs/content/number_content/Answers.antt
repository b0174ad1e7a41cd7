-- `number_content` meets its contract: an INTEGER, and then the end. Assumes nothing.
use Rattle.std.specs.Prelude.{ℕ}
use native.Mathlib.Nat.{le_refl}
use Rattle.answer.proofs.Results.{handed_on}
use Rattle.contents.specs.Leaf.{read_number}
use Rattle.contents.proofs.Exact.{exactly_no_taken, exactly_as}
use Rattle.contents.proofs.content.number_content.Goals as goal

pub returns-in_err-long_number-clause-is : goal.returns-in_err-long_number-clause-is
returns-in_err-long_number-clause-is c = rw (handed_on _ _ c.from_residual.ensures.1) (exactly_no_taken (λ (n : ℕ). n) (read_number 2 c.args.top) _ _ _ (le_refl _) _ _ c.in_err-long_number.ensures.is)

pub returns-in_err-value-clause-is : goal.returns-in_err-value-clause-is
returns-in_err-value-clause-is c = rw (handed_on _ _ c.from_residual-in_err-value.ensures.1) (exactly_as (λ (n : ℕ). n) (read_number 2 c.args.top) _ _ _ (le_refl _) _ _ c.in_ok-long_number.ensures.is c.in_ok-long_number.ensures.inside.1 c.in_err-value.ensures)

pub returns-clause-is : goal.returns-clause-is
returns-clause-is c = exactly_as (λ (n : ℕ). n) (read_number 2 c.args.top) _ _ _ (le_refl _) _ _ c.in_ok-long_number.ensures.is c.in_ok-long_number.ensures.inside.1 c.in_ok-value.ensures
