-- `put_security` meets its contract: the version and then the level. Assumes nothing.
use Rattle.writer.proofs.Puts.{security_put}
use Rattle.writer.proofs.put.Output.put_security.Goals as goal

pub returns : goal.returns
returns c = search security_put
