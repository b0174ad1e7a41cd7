-- `root_from` meets its contract, word by word. Assumes nothing.
use Rattle.image.proofs.Parts.{root-made}
use Rattle.image.proofs.from.root_from.Goals as goal

pub returns : goal.returns
returns c = root-made _ c.part_from.ensures c.low.ensures c.part_from-2.ensures
