-- `set_size` meets its contract: header and members. Assumes nothing.
use Rattle.sizes.proofs.Sizing.{set-sized}
use Rattle.sizes.proofs.set_size.Goals as goal

pub returns : goal.returns
returns c = search set-sized
