-- `put_hex` meets its contract. The invariant: the digits of the octets before this one are put. Assumes nothing.
use borrow.Author.Rules.{rules}
use Rattle.listing.proofs.Writes.{hex_start, hex_more, hex_end, hex_whole}
use Rattle.listing.proofs.put_hex.Goals as goal

pub loop-b-init : goal.loop-b-init
loop-b-init c = search hex_start

pub loop-b-preserved : goal.loop-b-preserved
loop-b-preserved c = search hex_more

pub returns-clause-is : goal.returns-clause-is
returns-clause-is c =
    hex_whole c.args.s.now c.loop-b.b-index _ c.loop-b-test.false c.loop-b.auto.b-index-end c.loop-b.invariant (λ h. search rules)

pub returns-clause-few : goal.returns-clause-few
returns-clause-few c = (hex_end c.args.s.now c.loop-b.b-index c.loop-b-test.false c.loop-b.auto.b-index-end c.loop-b.invariant).few
