-- `put_integer` meets its contract: with room for it, der's leaf refuses no INTEGER. Assumes nothing.
use Rattle.writer.proofs.Puts.{integer_put}
use Rattle.writer.proofs.put.Output.put_integer.Goals as goal

pub returns : goal.returns
returns c = integer_put c.args.self.now c.put_integer.result c.put_integer.new.out c.unwrap_or-self.result c.unwrap_or-self.ensures c.args.x c.put_integer.ensures.answer c.put_integer.ensures.output
