-- `put_header` meets its contract: with room for it, der's leaf refuses no such header. Assumes nothing.
use Rattle.writer.proofs.Puts.{header-put}
use Rattle.writer.proofs.put.Output.put_header.Goals as goal

pub returns : goal.returns
returns c = header-put c.args.self.now c.put_header.result c.put_header.new.out c.unwrap_or-self.result c.unwrap_or-self.ensures c.args.form c.args.number c.args.size c.requires.0 c.requires.1 c.put_header.ensures.answer c.put_header.ensures.output
