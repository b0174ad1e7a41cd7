-- `put_octets` meets its contract. The invariant: k octets are still to come, rest is x without those that are written, and the output
-- is the old one with those spliced in. Assumes nothing.
use mathlib.Core.Path.{refl}
use lib.ListN.{length}
use native.Mathlib.Nat.{le_refl}
use Rattle.der_write.proofs.Writes.{octets_start, octets_shift, octets_more, octets_all}
use Rattle.der_write.proofs.put_octets.Goals as goal

pub loop-k-init : goal.loop-k-init
loop-k-init c = octets_start c.args.out.now c.args.x (length c.args.out.now)

pub loop-k-preserved : goal.loop-k-preserved
loop-k-preserved c =
    let o = c.args.out.now in
    let l = c.loop-k in
    let v = l.invariant in (
      rw v.0 (octets_shift o c.args.x (length o) l.k c.loop-k-test.true l.auto.k),
      rw (v.0, v.1) (octets_more o c.args.x (length o) l.k c.loop-k-test.true l.auto.k (le_refl _)),
    )

pub returns : goal.returns
returns c = octets_all c.args.out.now c.args.x (length c.args.out.now) c.loop-k.k c.loop-k.out refl c.loop-k-test.false c.loop-k.invariant.1
