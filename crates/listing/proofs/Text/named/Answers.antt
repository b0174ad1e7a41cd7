-- `Text::named` meets its contract: the word, and then the number. Assumes nothing.
use Rattle.listing.proofs.Writes.{named_put}
use Rattle.listing.proofs.Text.named.Goals as goal

pub returns : goal.returns
returns c = search named_put
