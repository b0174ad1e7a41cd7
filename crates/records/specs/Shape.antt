-- Document 01, "KeyDescription": a record "is well-shaped when its version is one of the seven, its KeyMint version and
-- levels are within their tops, every present field is one its version holds with its numbers and state within their
-- tops, present sets are as above, and in each present 704 a boot hash stands exactly from version 3".
use Rattle.std.specs.Prelude.{Bool, true, false, not, ◌&&◌, List, ℕ, zero, suc, get_or, leb, ltb}
use Rattle.answer.specs.Answer.{pick}
use Rattle.schema.specs.Table.{Kind, set, number32, number64, null, octets, root, row_at, row_count, known_version, held_in, level_top, hashed, top32, top64}
use Rattle.records.specs.declared.NumberSet.{NumberSet}
use Rattle.records.specs.declared.RootOfTrust.{RootOfTrust}
use Rattle.records.specs.declared.FieldList.{FieldList}
use Rattle.records.specs.declared.Record.{Record}
use Rattle.records.specs.Content.{set_at}
use Rattle.records.specs.Rows.{all_below}

-- "numbers to 2^32-1 .. strictly ascending": a member is above the one before it
abbrev pub member_shaped : List ℕ → ℕ → Bool
member_shaped l zero = leb (get_or l zero 0) top32
member_shaped l (suc i) = leb (get_or l (suc i) 0) top32 && ltb (get_or l i 0) (get_or l (suc i) 0)

-- "A set holds at most 16 numbers .. kept with their count"
unfoldable pub set_shaped : NumberSet → Bool
set_shaped g = leb g.count 16 && all_below (member_shaped g.members) g.count

-- both, or neither
abbrev pub same : Bool → Bool → Bool
same true b = b
same false b = not b

-- "state within [its] top .. a boot hash stands exactly from version 3"
unfoldable pub root_shaped : ℕ → RootOfTrust → Bool
root_shaped v t = leb t.state 3 && same t.hashed (hashed v)

-- what a present field of a kind holds
unfoldable pub value_shaped : ℕ → Kind → ℕ → NumberSet → RootOfTrust → Bool
value_shaped v set n g t = set_shaped g
value_shaped v number32 n g t = leb n top32
value_shaped v number64 n g t = leb n top64
value_shaped v null n g t = true
value_shaped v octets n g t = true
value_shaped v root n g t = root_shaped v t

-- "every present field is one its version holds"
unfoldable pub row_shaped : ℕ → FieldList → ℕ → Bool
row_shaped v l k =
    pick (get_or l.present k false)
    (held_in v (row_at k) && value_shaped v (row_at k).kind (get_or l.values k 0) (set_at l (row_at k).number) l.root)
    true

-- every row of a list
unfoldable pub list_shaped : ℕ → FieldList → Bool
list_shaped v l = all_below (row_shaped v l) row_count

-- "its version is one of the seven, its KeyMint version and levels are within their tops"
unfoldable pub head_shaped : ℕ → ℕ → ℕ → ℕ → Bool
head_shaped version level keymint keymint_level =
    known_version version
    && (leb keymint top32
    && (leb level (level_top version)
    && leb keymint_level (level_top version)))

-- "It is well-shaped when .."
unfoldable pub well_shaped_record : Record → Bool
well_shaped_record r =
    head_shaped r.attestation.version r.attestation.level r.keymint.version r.keymint.level
    && (list_shaped r.attestation.version r.software
    && list_shaped r.attestation.version r.hardware)
