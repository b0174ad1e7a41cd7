-- `short_at` meets its contract: one octet, or three. Assumes nothing.
use Rattle.std.proofs.Common.{rules}
use native.Mathlib.Nat.{le_refl}
use Rattle.der.proofs.Short.{short_one, short_three}
use Rattle.der.proofs.header.short_at.Goals as goal

pub returns-then-low-ne31 : goal.returns-then-low-ne31
returns-then-low-ne31 c = search (rules, short_one, le_refl)

pub returns : goal.returns
returns c = search (rules, short_three, le_refl)
