-- `put_bytes` meets its contract: the bytes are copied to their place. Assumes nothing.
use Rattle.writer.proofs.Puts.{bytes_put}
use Rattle.writer.proofs.put.Output.put_bytes.Goals as goal

pub returns-then-end-self : goal.returns-then-end-self
returns-then-end-self c = bytes_put c.args.self.now c.args.t.now c.copy_octets.new.to c.in-Some.end c.in-Some.ensures.1 c.if-end-self.true c.copy_octets.ensures
