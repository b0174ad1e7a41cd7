-- `quick_step` meets its contract: what is taken whole is what `walk_element` gives. Assumes nothing.
use native.Mathlib.Nat.{le_refl}
use Rattle.der.proofs.Quick.{quick_plain, quick_single}
use Rattle.der.proofs.walk.quick_step.Goals as goal

pub returns-in-Some : goal.returns-in-Some
returns-in-Some c = quick_plain _ _ _ _ _ _ (le_refl _) c.if-most-lt2.false c.if-most-met.false c.if-depth-lt2.false _ c.in-Some.ensures

pub returns : goal.returns
returns c = quick_single _ _ _ _ _ _ (le_refl _) c.if-most-lt2.false c.if-most-met.false c.if-depth-lt2.false _ c.in_ok-next.ensures
