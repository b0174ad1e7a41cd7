-- `put_enumerated` meets its contract: its octets are those of the INTEGER but for the first. Assumes nothing.
use Rattle.writer.proofs.Puts.{enumerated_put, enumerated_not}
use Rattle.writer.proofs.put.Output.put_enumerated.Goals as goal

pub returns-then-first-self : goal.returns-then-first-self
returns-then-first-self c = search enumerated_put

pub returns-else-first-self : goal.returns-else-first-self
returns-else-first-self c = search enumerated_not
