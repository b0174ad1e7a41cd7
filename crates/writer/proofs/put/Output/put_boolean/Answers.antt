-- `put_boolean` meets its contract: header and octet. Assumes nothing.
use Rattle.writer.proofs.Puts.{boolean_yes, boolean_no}
use Rattle.writer.proofs.put.Output.put_boolean.Goals.{then-b, else-b}
use Rattle.writer.proofs.put.Output.put_boolean.Goals as goal

pub returns : goal.returns
returns c =
    elim c.if-b.branch [
      | then-b w ↦ boolean_yes c.args.b c.if-b.octet w.if-b.true w.octet-is c.put_header.ensures c.put_bytes.ensures
      | else-b w ↦ boolean_no c.args.b c.if-b.octet w.if-b.false w.octet-is c.put_header.ensures c.put_bytes.ensures
    ]
