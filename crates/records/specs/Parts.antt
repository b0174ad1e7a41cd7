-- Document 01, "KeyDescription": "Its octet parts are the challenge, the uniqueId and those of present fields; an absent
-- field's or boot hash's are never looked at". A part is inside when its end, over true integers, is.
use Rattle.std.specs.Prelude.{Bool, true, false, ◌&&◌, ℕ, ◌+◌, get_or, leb}
use Rattle.answer.specs.Answer.{pick}
use Rattle.schema.specs.Table.{Kind, set, number32, number64, null, octets, root, row_at, row_count}
use Rattle.records.specs.Rows.{all_below}
use Rattle.records.specs.declared.Part.{Part}
use Rattle.records.specs.declared.RootOfTrust.{RootOfTrust}
use Rattle.records.specs.declared.FieldList.{FieldList}
use Rattle.records.specs.declared.Record.{Record}

-- size octets from start on lie within len
abbrev pub inside : ℕ → ℕ → ℕ → Bool
inside start size len = leb (start + size) len

-- the same of a part
abbrev pub part_inside : Part → ℕ → Bool
part_inside p len = inside p.start p.len len

-- the boot key, and the boot hash where there is one
unfoldable pub root_inside : RootOfTrust → ℕ → Bool
root_inside t len = part_inside t.key len && pick t.hashed (part_inside t.hash len) true

-- the parts of a present field, by its kind
unfoldable pub content_inside : Kind → ℕ → ℕ → RootOfTrust → ℕ → Bool
content_inside set start size t len = true
content_inside number32 start size t len = true
content_inside number64 start size t len = true
content_inside null start size t len = true
content_inside octets start size t len = inside start size len
content_inside root start size t len = root_inside t len

-- "an absent field's .. are never looked at"
unfoldable pub row_inside : FieldList → ℕ → ℕ → Bool
row_inside l len k =
    pick (get_or l.present k false)
    (content_inside (row_at k).kind (get_or l.values k 0) (get_or l.sizes k 0) l.root len)
    true

-- every row of a list
unfoldable pub list_inside : FieldList → ℕ → Bool
list_inside l len = all_below (row_inside l len) row_count

-- "the challenge, the uniqueId and those of present fields"
unfoldable pub parts_inside : Record → ℕ → Bool
parts_inside r len = part_inside r.challenge len && (part_inside r.unique len && (list_inside r.software len && list_inside r.hardware len))
