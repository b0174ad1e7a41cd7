-- `element_size` meets its contract: identifier, length and content. Assumes nothing.
use Rattle.sizes.proofs.Sizing.{element-size}
use Rattle.sizes.proofs.element_size.Goals as goal

pub returns : goal.returns
returns c = search element-size
