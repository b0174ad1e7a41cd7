-- The number of the octets up to here.
use Rattle.std.specs.Prelude.{◌≡◌, take}
use Rattle.codec.specs.Shortest.{big_endian}
use Rattle.contents.proofs.leaf.spelled.Given as goal

abbrev pub invariant-loop-x : goal.invariant-loop-x
invariant-loop-x l = l.value ≡ big_endian (take l.x-index l.octets)
