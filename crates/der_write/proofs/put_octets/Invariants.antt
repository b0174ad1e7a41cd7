-- `put_octets` meets its contract. The invariant: k octets are still to come, rest is x without those that are written, and the output
-- is the old one with those spliced in.
use Prim.Native.Nat.{◌-◌, ◌*◌, ◌/◌, ◌^◌}
use mathlib.Core.Path.{◌≡◌}
use lib.ListN.{length}
use Rattle.codec.specs.Octets.{splice}
use Rattle.codec.specs.Shortest.{low_octets}
use Rattle.der_write.proofs.put_octets.Given as goal

abbrev pub invariant-loop-k : goal.invariant-loop-k
invariant-loop-k l = (l.rest ≡ l.x / 2 ^ (8 * (length l.initial.out - l.k)))
    × (l.out ≡ splice l.initial.out l.k (low_octets (length l.initial.out - l.k) l.x))
