-- `put_field` meets its contract, kind by kind: header and value. Assumes nothing.
use Rattle.writer.proofs.Puts.{field-set, field-root, field-plain}
use Rattle.writer.proofs.put.Output.put_field.Goals as goal

pub returns-in-Set : goal.returns-in-Set
returns-in-Set c = λ k d e. search field-set

pub returns-in-Root : goal.returns-in-Root
returns-in-Root c = λ k d e. search field-root

pub returns-in_default : goal.returns-in_default
returns-in_default c = λ k d e. field-plain c.args.l c.args.s.now c.args.row.number k _ _ _ _ c.put_header-in_default.ensures c.args.row.kind c.args.value c.args.size d e c.in_default.not-Set c.in_default.not-Root c.plain_size.ensures c.put_plain.ensures
