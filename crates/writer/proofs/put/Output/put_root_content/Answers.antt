-- `put_root_content` meets its contract: key, locked and state, and the hash where there is one. Assumes nothing.
use Rattle.writer.proofs.Puts.{root-hashed, root_plain}
use Rattle.writer.proofs.put.Output.put_root_content.Goals as goal

pub returns-then-t : goal.returns-then-t
returns-then-t c = search root-hashed

pub returns-else-t : goal.returns-else-t
returns-else-t c = search root_plain
