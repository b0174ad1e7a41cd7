-- `one_member` meets its contract: five octets, the last below 128. Assumes nothing.
use native.Mathlib.Nat.{le_refl}
use Rattle.std.proofs.Common.{rules}
use Rattle.contents.proofs.Shorts.{one_member}
use Rattle.contents.proofs.set.one_member.Goals as goal

pub returns : goal.returns
returns c = search (rules, one_member, le_refl)
