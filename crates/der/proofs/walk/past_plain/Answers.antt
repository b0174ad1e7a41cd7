-- `past_plain` meets its contract: an identifier of one octet, and its content. Assumes nothing.
use Rattle.std.proofs.Common.{rules}
use native.Mathlib.Nat.{le_refl}
use Rattle.der.proofs.Quick.{plain_to}
use Rattle.der.proofs.walk.past_plain.Goals as goal

pub returns : goal.returns
returns c = plain_to _ _ _ (le_refl _) _ _ _ (search rules) (search rules) c.if-a-ge31.false c.in_ok-stop.ensures
