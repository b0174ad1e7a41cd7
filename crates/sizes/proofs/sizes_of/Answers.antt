-- `sizes_of` meets its contract: the head and the two lists are the eight, and with a header the whole. Assumes nothing.
use Rattle.sizes.proofs.Sizing.{eight-sized, whole-sized}
use borrow.Author.Rules.{rules}
use Rattle.sizes.proofs.sizes_of.Goals as goal

pub returns : goal.returns
returns c = record { software = search rules; hardware = search rules; eight = search eight-sized; whole = search whole-sized }
