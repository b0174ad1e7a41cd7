-- `put_list` meets its contract: header and fields. Assumes nothing.
use Rattle.writer.proofs.Puts.{list_put}
use Rattle.writer.proofs.put.Output.put_list.Goals as goal

pub returns : goal.returns
returns c = search list_put
