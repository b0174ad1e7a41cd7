-- `root_size` meets its contract: header and content. Assumes nothing.
use Rattle.sizes.proofs.Sizing.{root-sized}
use Rattle.sizes.proofs.root_size.Goals as goal

pub returns : goal.returns
returns c = search root-sized
