-- `Text::numbers` meets its contract: two named numbers and the line's end. Assumes nothing.
use Rattle.listing.proofs.Writes.{numbers_line_lem}
use Rattle.listing.proofs.Text.numbers.Goals as goal

pub returns : goal.returns
returns c = search numbers_line_lem
