-- `Text::octets` meets its contract: the word, the part and the line's end. Assumes nothing.
use Rattle.listing.proofs.Writes.{octets_line_lem}
use Rattle.listing.proofs.Text.octets.Goals as goal

pub returns : goal.returns
returns c = search octets_line_lem
