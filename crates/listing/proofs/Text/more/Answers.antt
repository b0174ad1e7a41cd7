-- `Text::more` meets its contract. The invariant: the numbers before this one are put. Assumes nothing.
use Rattle.listing.proofs.Writes.{more_start, more_more}
use Rattle.listing.proofs.Text.more.Goals as goal

pub loop-n-init : goal.loop-n-init
loop-n-init c = search more_start

pub loop-n-preserved : goal.loop-n-preserved
loop-n-preserved c = let e = rw c.from.ensures at c.decimal.ensures in search more_more
