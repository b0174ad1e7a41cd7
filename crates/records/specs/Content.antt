-- What a record says: absent fields, spare slots and the hash that is not there are dropped (document 01, "KeyDescription",
-- the paragraph on records). What becomes of an octet part, given its start and length, is a parameter: `content_of` takes the
-- octets of a buffer there, `places_of` leaves the part as a start and a length.
use Rattle.std.specs.Prelude.{false, List, [], ◌∷◌, ◌++◌, ℕ, zero, suc, take, drop, get_or, eqb}
use Rattle.std.proofs.Math.Option.{none, some}
use Rattle.answer.specs.Answer.{pick}
use Rattle.schema.specs.Table.{Kind, set, number32, number64, null, octets, root, row_at, row_count}
use Rattle.schema.specs.Content.{RootWith, ValueWith, num, nul, oct, nums, trust, FieldWith, field, ContentWith, Content, place_at, Places}
use Rattle.records.specs.declared.Part.{Part}
use Rattle.records.specs.declared.NumberSet.{NumberSet}
use Rattle.records.specs.declared.RootOfTrust.{RootOfTrust}
use Rattle.records.specs.declared.FieldList.{FieldList}
use Rattle.records.specs.declared.Record.{Record}

-- the octets of s from start on, len of them
abbrev pub octets_at : List ℕ → ℕ → ℕ → List ℕ
octets_at s start len = take len (drop start s)

abbrev pub part_of : List ℕ → Part → List ℕ
part_of s p = octets_at s p.start p.len

abbrev pub members_of : NumberSet → List ℕ
members_of g = take g.count g.members

abbrev pub root_of : {O : Type 0} → (ℕ → ℕ → O) → RootOfTrust → RootWith O
root_of part r = record {
  key = part r.key.start r.key.len;
  locked = r.locked;
  state = r.state;
  hash = pick r.hashed (some (part r.hash.start r.hash.len)) none;
}

-- the set of a row, by its number: 1 purpose, 5 digest, 6 padding, 203 mgfDigest
abbrev pub set_of : ℕ → NumberSet → NumberSet → NumberSet → NumberSet → NumberSet
set_of n purpose digest padding mgf = pick (eqb n 1) purpose (pick (eqb n 5) digest (pick (eqb n 6) padding mgf))

abbrev pub set_at : FieldList → ℕ → NumberSet
set_at l n = set_of n l.purpose l.digest l.padding l.mgf

-- the value that row k has, were it present
unfoldable pub value_at : {O : Type 0} → FieldList → (ℕ → ℕ → O) → ℕ → Kind → ℕ → ValueWith O
value_at l part n number32 k = num (get_or l.values k 0)
value_at l part n number64 k = num (get_or l.values k 0)
value_at l part n null k = nul
value_at l part n octets k = oct (part (get_or l.values k 0) (get_or l.sizes k 0))
value_at l part n set k = nums (members_of (set_at l n))
value_at l part n root k = trust (root_of part l.root)

-- no field, or the one of row k
unfoldable pub field_at : {O : Type 0} → FieldList → (ℕ → ℕ → O) → ℕ → List (FieldWith O)
field_at l part k = pick (get_or l.present k false) (field (row_at k).number (value_at l part (row_at k).number (row_at k).kind k) ∷ []) []

unfoldable pub up_to : {A : Type 0} → (ℕ → List A) → ℕ → List A
up_to f zero = []
up_to f (suc n) = up_to f n ++ f n

abbrev pub fields_of : {O : Type 0} → FieldList → (ℕ → ℕ → O) → List (FieldWith O)
fields_of l part = up_to (field_at l part) row_count

abbrev pub content_with : {O : Type 0} → (ℕ → ℕ → O) → Record → ContentWith O
content_with part r = record {
  version = r.attestation.version;
  level = r.attestation.level;
  keymint = r.keymint.version;
  keymint_level = r.keymint.level;
  challenge = part r.challenge.start r.challenge.len;
  unique = part r.unique.start r.unique.len;
  software = fields_of r.software part;
  hardware = fields_of r.hardware part;
}

-- what the record says, its octet parts lying in s
abbrev pub content_of : Record → List ℕ → Content
content_of r s = content_with (octets_at s) r

-- what it says with each octet part as its start and length
abbrev pub places_of : Record → Places
places_of r = content_with place_at r
