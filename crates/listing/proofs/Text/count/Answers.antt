-- `Text::count` meets its contract: the named number and the line's end. Assumes nothing.
use Rattle.listing.proofs.Writes.{count-put}
use Rattle.listing.proofs.Text.count.Goals as goal

pub returns : goal.returns
returns c = search count-put
