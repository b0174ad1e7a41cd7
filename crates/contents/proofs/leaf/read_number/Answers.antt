-- `read_number` meets its contract: by one octet, or by the long way. Assumes nothing.
use native.Mathlib.Nat.{le_refl}
use Rattle.contents.proofs.Shorts.{number_short}
use Rattle.contents.proofs.leaf.read_number.Goals as goal

pub returns-then-val-top-clause-is : goal.returns-then-val-top-clause-is
returns-then-val-top-clause-is c = rw c.from-val.ensures (number_short _ _ _ (le_refl _) _ _ _ c.in-Some.ensures.1 c.in-Some.ensures.2 c.in-Some.ensures.0 (rw c.from-val.ensures at c.if-val-top.true))
