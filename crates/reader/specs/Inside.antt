-- What the reader keeps of a record while it fills it, absent fields too: sets within their slots, octet parts within n
-- bytes, and all that is absent or spare zero. With a content that is well-shaped, a record so kept is well-shaped, its parts
-- are inside, and it is `record_made` of its places.
use Rattle.std.specs.Prelude.{◌≡◌, ℕ, ◌+◌, ◌<◌, ◌≤◌, get_or}
use Rattle.schema.specs.Table.{octets, row_at, row_count}
use Rattle.records.specs.Slots.{InSlots}
use Rattle.records.specs.Clear.{RowsSized, ListClear}
use Rattle.records.specs.declared.FieldList.{FieldList}
use Rattle.records.specs.declared.Record.{Record}
use Rattle.contents.specs.Root.{PartsIn}

pub record ListIn (n : ℕ) (l : FieldList) : Type 0 where
  pub sized : RowsSized l
  pub sets : InSlots l
  pub root : PartsIn n l.root
  pub octet : (k : ℕ) → k < row_count → (row_at k).kind ≡ octets → get_or l.values k 0 + get_or l.sizes k 0 ≤ n
  pub clear : ListClear l

pub record RecordIn (n : ℕ) (r : Record) : Type 0 where
  pub challenge : r.challenge.start + r.challenge.len ≤ n
  pub unique : r.unique.start + r.unique.len ≤ n
  pub software : ListIn n r.software
  pub hardware : ListIn n r.hardware
