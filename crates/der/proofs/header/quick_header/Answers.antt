-- `quick_header` meets its contract: by the short looks, or by the long one. Assumes nothing.
use native.Mathlib.Nat.{le_refl}
use Rattle.der.proofs.Short.{quick_is}
use Rattle.der.proofs.header.quick_header.Goals as goal

pub returns-in-Some-extent_at-clause-is : goal.returns-in-Some-extent_at-clause-is
returns-in-Some-extent_at-clause-is c = quick_is _ _ _ (le_refl _) _ _ _ _ _ c.in-Some.ensures c.in-Some-extent_at.ensures
