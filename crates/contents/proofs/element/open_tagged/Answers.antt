-- `open_tagged` meets its contract: the short way, or the long one. Assumes nothing.
use native.Mathlib.Nat.{le_refl}
use Rattle.contents.proofs.Shorts.{tagged-short}
use Rattle.contents.proofs.element.open_tagged.Goals as goal

pub returns-in-Some-clause-is : goal.returns-in-Some-clause-is
returns-in-Some-clause-is c = tagged-short _ _ _ (le_refl _) _ _ _ _ c.in-Some.ensures
