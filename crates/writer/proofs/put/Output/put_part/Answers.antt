-- `put_part` meets its contract: header and octets. Assumes nothing.
use Rattle.writer.proofs.Puts.{octets-put}
use Rattle.writer.proofs.put.Output.put_part.Goals as goal

pub returns : goal.returns
returns c = search octets-put
