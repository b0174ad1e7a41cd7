-- `value_size` meets its contract, kind by kind. Assumes nothing.
use Rattle.sizes.proofs.Sizing.{set_value, root-value, plain_value_lem}
use Rattle.sizes.proofs.value_size.Goals as goal

pub returns-in-Set : goal.returns-in-Set
returns-in-Set c = λ k d e. search set_value

pub returns-in-Root : goal.returns-in-Root
returns-in-Root c = λ k d e. search root-value

pub returns-in_default : goal.returns-in_default
returns-in_default c = λ k d e. plain_value_lem c.args.l c.args.s.now c.args.row.number k c.plain_size.result c.args.row.kind c.args.value c.args.size c.in_default.not-Set c.in_default.not-Root d e c.plain_size.ensures
