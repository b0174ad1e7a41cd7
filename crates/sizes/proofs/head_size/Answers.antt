-- `head_size` meets its contract: both versions with their levels, and both parts. Assumes nothing.
use Rattle.sizes.proofs.Sizing.{head-sized}
use Rattle.sizes.proofs.head_size.Goals as goal

pub returns : goal.returns
returns c = search head-sized
