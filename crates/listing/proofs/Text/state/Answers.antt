-- `Text::state` meets its contract: its four pieces are put one after the other. Assumes nothing.
use Rattle.listing.proofs.Writes.{state-put}
use Rattle.listing.proofs.Text.state.Goals as goal

pub returns : goal.returns
returns c = let e = rw c.from.ensures at c.decimal.ensures in search state-put
