-- `copy_octets` meets its contract. The invariant: the first k octets are copied.
use mathlib.Core.Path.{◌≡◌}
use lib.ListN.{take}
use Rattle.codec.specs.Octets.{splice}
use Rattle.der_write.proofs.copy_octets.Given as goal

abbrev pub invariant-loop-k : goal.invariant-loop-k
invariant-loop-k l = l.to ≡ splice l.initial.to 0 (take l.k l.from)
