-- `part_size` meets its contract, by the octets that the part is. Assumes nothing.
use Rattle.sizes.proofs.Sizing.{octets-sized}
use Rattle.sizes.proofs.part_size.Goals as goal

pub returns : goal.returns
returns c = search octets-sized
