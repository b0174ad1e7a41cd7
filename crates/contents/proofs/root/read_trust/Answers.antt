-- `read_trust` meets its contract: the four, one after the other, and then the end. Assumes nothing.
use mathlib.Core.Path.{ap, ◌∙◌}
use native.Mathlib.Omega.{arith}
use native.Mathlib.Nat.{le_refl}
use Rattle.answer.specs.Answer.{got}
use Rattle.contents.specs.Root.{HashIs}
use Rattle.answer.proofs.Results.{handed_on}
use Rattle.contents.proofs.Exact.{exactly_kept}
use Rattle.contents.proofs.Members.{number_small}
use Rattle.contents.proofs.Roots.{key_no, locked_no, state_no, hash_refused, trust_ends, trust_is, trust_kept}
use Rattle.contents.proofs.root.read_trust.Goals as goal

pub returns-in_err-key-clause-is : goal.returns-in_err-key-clause-is
returns-in_err-key-clause-is c = rw (handed_on _ _ c.from_residual.ensures.1) (key_no _ _ _ _ (le_refl _) _ _ c.in_err-key.ensures.is)

pub returns-in_err-locked-clause-is : goal.returns-in_err-locked-clause-is
returns-in_err-locked-clause-is c = rw (handed_on _ _ c.from_residual-in_err-locked.ensures.1) (locked_no _ _ _ _ (le_refl _) _ _ c.in_ok-key.ensures.is _ _ c.in_err-locked.ensures.is)

pub returns-in_err-state-clause-is : goal.returns-in_err-state-clause-is
returns-in_err-state-clause-is c = rw (handed_on _ _ c.from_residual-in_err-state.ensures.1) (state_no _ _ _ _ (le_refl _) _ _ c.in_ok-key.ensures.is _ _ c.in_ok-locked.ensures.is _ _ c.in_err-state.ensures.is)

pub returns-in_err-read_hash-clause-is : goal.returns-in_err-read_hash-clause-is
returns-in_err-read_hash-clause-is c = rw (handed_on _ _ c.from_residual-in_err-read_hash.ensures.1) (hash_refused _ _ _ _ (le_refl _) _ _ c.in_ok-key.ensures.is _ _ c.in_ok-locked.ensures.is _ _ c.in_ok-state.ensures.is _ _ c.in_err-read_hash.ensures.is)

pub returns-in_err-hash-clause-is : goal.returns-in_err-hash-clause-is
returns-in_err-hash-clause-is c = rw (handed_on _ _ c.from_residual-in_err-hash.ensures.1) (trust_ends _ _ _ _ (le_refl _) _ _ c.in_ok-key.ensures.is _ _ c.in_ok-locked.ensures.is _ _ c.in_ok-state.ensures.is _ _ c.in_ok-read_hash.ensures.is c.in_ok-read_hash.ensures.inside.0 c.in_err-hash.ensures)

pub overflow_cast-result : goal.overflow_cast-result
overflow_cast-result c = omega (arith, number_small _ _ _ _ _ _ _ c.in_ok-state.ensures.is)

pub returns-clause-is : goal.returns-clause-is
returns-clause-is c = rw c.unwrap_or.ensures (ap got (trust_is _ _ _ _ _ _ (exactly_kept (HashIs _ c.args.hashed) _ _ _ c.in_ok-read_hash.ensures.inside.1 c.in_ok-hash.ensures)) ∙ trust_ends _ _ _ _ (le_refl _) _ _ c.in_ok-key.ensures.is _ _ c.in_ok-locked.ensures.is _ _ c.in_ok-state.ensures.is _ _ c.in_ok-read_hash.ensures.is c.in_ok-read_hash.ensures.inside.0 c.in_ok-hash.ensures)

pub returns-clause-inside : goal.returns-clause-inside
returns-clause-inside c = rw c.unwrap_or.ensures (trust_kept _ _ _ _ _ _ c.in_ok-key.ensures.inside.1.1 (exactly_kept (HashIs _ c.args.hashed) _ _ _ c.in_ok-read_hash.ensures.inside.1 c.in_ok-hash.ensures))
