-- `put_head` meets its contract: its pieces are put one after the other. Assumes nothing.
use Rattle.writer.proofs.Puts.{head-put}
use Rattle.writer.proofs.put.Output.put_head.Goals as goal

pub returns : goal.returns
returns c = search head-put
