-- `put_root` meets its contract: header and content. Assumes nothing.
use Rattle.writer.proofs.Puts.{root-put}
use Rattle.writer.proofs.put.Output.put_root.Goals as goal

pub returns : goal.returns
returns c = search root-put
