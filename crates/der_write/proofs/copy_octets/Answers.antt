-- `copy_octets` meets its contract. The invariant: the first k octets are copied. Assumes nothing.
use native.Mathlib.Omega.{arith}
use Rattle.der_write.proofs.Writes.{copied_none, copied_more, copied_all}
use Rattle.der_write.proofs.copy_octets.Goals as goal

pub loop-k-init : goal.loop-k-init
loop-k-init c = copied_none c.args.to.now c.args.from.now

pub loop-k-preserved : goal.loop-k-preserved
loop-k-preserved c = copied_more c.args.to.now c.args.from.now c.loop-k.k (omega (arith, c.loop-k-test.true, c.min-k-end.ensures)) c.loop-k.invariant

pub returns : goal.returns
returns c =
    copied_all c.args.to.now c.args.from.now c.loop-k.k (omega (arith, c.loop-k-test.false, c.loop-k.auto.k-end, c.min-k-end.ensures)) c.loop-k.invariant
