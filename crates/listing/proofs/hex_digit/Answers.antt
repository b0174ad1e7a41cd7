-- `hex_digit` meets its contract: each of the sixteen is the defined digit. Assumes nothing.
use Rattle.listing.proofs.Texts.{hex_digit_there}
use Rattle.listing.proofs.hex_digit.Goals as goal

pub returns : goal.returns
returns c = rw c.from.ensures (hex_digit_there c.args.n c.requires)
