-- `root_content` meets its contract: a root of trust, and then the end. Assumes nothing.
use native.Mathlib.Nat.{le_refl}
use Rattle.answer.proofs.Results.{handed_on}
use Rattle.schema.specs.Decode.{read_root, as_place}
use Rattle.contents.specs.Root.{trust_of, PartsIn, HashedAs}
use Rattle.contents.proofs.Exact.{exactly_no_taken, exactly_as, exactly_kept}
use Rattle.contents.proofs.content.root_content.Goals as goal

pub returns-in_err-read_root-clause-is : goal.returns-in_err-read_root-clause-is
returns-in_err-read_root-clause-is c = rw (handed_on _ _ c.from_residual.ensures.1) (exactly_no_taken trust_of (read_root as_place c.args.hashed) _ _ _ (le_refl _) _ _ c.in_err-read_root.ensures.is)

pub returns-clause-is : goal.returns-clause-is
returns-clause-is c = exactly_as trust_of (read_root as_place c.args.hashed) _ _ _ (le_refl _) _ _ c.in_ok-read_root.ensures.is c.in_ok-read_root.ensures.inside.1.0 c.exactly.ensures

pub returns-clause-bounds : goal.returns-clause-bounds
returns-clause-bounds c = exactly_kept (λ t. PartsIn _ t × HashedAs c.args.hashed t) _ _ _ c.in_ok-read_root.ensures.inside.1.1 c.exactly.ensures
