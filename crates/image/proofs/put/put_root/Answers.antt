-- `put_root` meets its contract: stores one after the other are one write. Assumes nothing.
use Rattle.image.proofs.Puts.{root_stored_lem}
use Rattle.image.proofs.put.put_root.Goals as goal

pub returns : goal.returns
returns c = root_stored_lem c.args.out.now c.args.t.now c.requires c.word.ensures c.word-2.ensures c.word-3.ensures
