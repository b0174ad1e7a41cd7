-- `store_field` meets its contract: by the kind of its row. Assumes nothing.
use mathlib.Core.Path.{ap}
use Rattle.schema.specs.Table.{Row}
use Rattle.contents.proofs.Contents.{is_plain_lem}
use Rattle.reader.proofs.fields.store_field.Goals as goal

pub store_plain_field-requires : goal.store_plain_field-requires
store_plain_field-requires c = (ap (λ (q : Row). q.kind) c.row_at-kind.ensures, is_plain_lem _ c.in_default.not-Set c.in_default.not-Root)

pub returns-in-Set : goal.returns-in-Set
returns-in-Set c = c.store_set_field.ensures _

pub returns-in_default : goal.returns-in_default
returns-in_default c = c.store_plain_field.ensures _
