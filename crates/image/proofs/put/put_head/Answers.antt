-- `put_head` meets its contract: stores one after the other are one write. Assumes nothing.
use Rattle.image.proofs.Puts.{head_stored}
use Rattle.image.proofs.put.put_head.Goals as goal

pub returns : goal.returns
returns c = head_stored c.args.out.now c.args.r.now c.requires c.word.ensures c.word-2.ensures c.word-3.ensures c.word-4.ensures
