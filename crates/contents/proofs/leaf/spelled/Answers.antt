-- `spelled` meets its contract: the number of the octets up to here, and no wrap-around in eight of them. Assumes nothing.
use native.Mathlib.Omega.{arith}
use Rattle.contents.proofs.Spelled.{spelled_fits, spelled_more}
use Rattle.contents.proofs.leaf.spelled.Goals as goal

pub overflow_mul-value : goal.overflow_mul-value
overflow_mul-value c = omega (arith, spelled_fits c.args.octets.now c.loop-x.x-index c.loop-x.value c.type_inv.octets c.loop-x-test.true c.requires c.loop-x.invariant)

pub overflow_add-value : goal.overflow_add-value
overflow_add-value c = omega (arith, spelled_fits c.args.octets.now c.loop-x.x-index c.loop-x.value c.type_inv.octets c.loop-x-test.true c.requires c.loop-x.invariant, c.type_inv.octets c.loop-x.x-index, c.from.ensures)

pub loop-x-preserved : goal.loop-x-preserved
loop-x-preserved c = rw c.from.ensures (spelled_more _ _ _ c.loop-x-test.true c.loop-x.invariant)
