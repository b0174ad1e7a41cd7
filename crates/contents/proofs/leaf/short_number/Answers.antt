-- `short_number` meets its contract: one content octet. Assumes nothing.
use native.Mathlib.Nat.{le_refl}
use Rattle.std.proofs.Common.{rules}
use Rattle.contents.proofs.Shorts.{number_one}
use Rattle.contents.proofs.leaf.short_number.Goals as goal

pub returns : goal.returns
returns c = search (rules, number_one, le_refl)
