-- `put_set` meets its contract: header and members. Assumes nothing.
use Rattle.writer.proofs.Puts.{set-put}
use Rattle.writer.proofs.put.Output.put_set.Goals as goal

pub returns : goal.returns
returns c = search set-put
