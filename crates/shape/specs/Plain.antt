-- A row of a list without what has its own place there, the four sets and 704: for the loop over the rows.
use Rattle.std.specs.Prelude.{Bool, true, false, ◌&&◌, ℕ, get_or, leb}
use Rattle.answer.specs.Answer.{pick}
use Rattle.schema.specs.Table.{Kind, set, number32, number64, null, octets, root, row_at, held_in, top32, top64}
use Rattle.records.specs.declared.FieldList.{FieldList}

unfoldable pub plain_shaped : Kind → ℕ → Bool
plain_shaped set n = true
plain_shaped number32 n = leb n top32
plain_shaped number64 n = leb n top64
plain_shaped null n = true
plain_shaped octets n = true
plain_shaped root n = true

unfoldable pub row_plain : ℕ → FieldList → ℕ → Bool
row_plain v l k = pick (get_or l.present k false) (held_in v (row_at k) && plain_shaped (row_at k).kind (get_or l.values k 0)) true
