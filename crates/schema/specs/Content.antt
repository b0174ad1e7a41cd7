-- What an extension says, free of places and spare slots, and its one encoding (document 01, "KeyDescription").
use Rattle.std.specs.Prelude.{Bool, true, false, ◌&&◌, ◌||◌, List, [], ◌∷◌, ◌++◌, map, ℕ, ◌+◌, take, drop, ltb, leb}
use Rattle.std.proofs.Math.Option.{Option, none, some}
use Rattle.answer.specs.Answer.{pick}
use Rattle.codec.specs.Shortest.{integer_octets}
use Rattle.codec.specs.Integer.{integer_element}
use Rattle.codec.specs.Header.{identifier, element_octets}
use Rattle.codec.specs.Element.{chain_octets, chain_good}
use Rattle.schema.specs.Table.{Kind, is_kind, set, number32, number64, null, octets, root, Row, rows, known_version, held_in, find, level_top, hashed, top32, top64}

-- What an OCTET STRING becomes is a parameter, O: its octets, or where they lie. `Root`, `Value`, `Field` and `Content` are
-- those with octets.

-- "boot key OCTET STRING, locked BOOLEAN, state ENUMERATED 0 to 3, and from version 3 a boot hash OCTET STRING"
pub record RootWith (O : Type 0) : Type 0 where
  pub key : O
  pub locked : Bool
  pub state : ℕ
  pub hash : Option O

pub data ValueWith (O : Type 0) : Type 0 where
  num : ℕ → ValueWith O
  nul : ValueWith O
  oct : O → ValueWith O
  nums : List ℕ → ValueWith O
  trust : RootWith O → ValueWith O

pub record FieldWith (O : Type 0) : Type 0 where
  pub number : ℕ
  pub value : ValueWith O

abbrev pub field : {O : Type 0} → ℕ → ValueWith O → FieldWith O
field n v = record { number = n; value = v }

-- the eight of a KeyDescription; each list has its present fields in ascending number
pub record ContentWith (O : Type 0) : Type 0 where
  pub version : ℕ
  pub level : ℕ
  pub keymint : ℕ
  pub keymint_level : ℕ
  pub challenge : O
  pub unique : O
  pub software : List (FieldWith O)
  pub hardware : List (FieldWith O)

abbrev pub Root : Type 0
Root = RootWith (List ℕ)

abbrev pub Value : Type 0
Value = ValueWith (List ℕ)

abbrev pub Field : Type 0
Field = FieldWith (List ℕ)

abbrev pub Content : Type 0
Content = ContentWith (List ℕ)

-- "each octet part as a start and a length"
pub record Place : Type 0 where
  pub start : ℕ
  pub len : ℕ

abbrev pub place_at : ℕ → ℕ → Place
place_at p n = record { start = p; len = n }

abbrev pub Places : Type 0
Places = ContentWith Place

-- the octets of s that lie there
abbrev pub octets_in : List ℕ → Place → List ℕ
octets_in s p = take p.len (drop p.start s)

-- ---- the same content, each octet part taken through f

unfoldable pub map_hash : {O P : Type 0} → (O → P) → Option O → Option P
map_hash f none = none
map_hash f (some o) = some (f o)

abbrev pub map_root : {O P : Type 0} → (O → P) → RootWith O → RootWith P
map_root f r = record { key = f r.key; locked = r.locked; state = r.state; hash = map_hash f r.hash }

unfoldable pub map_value : {O P : Type 0} → (O → P) → ValueWith O → ValueWith P
map_value f (num n) = num n
map_value f nul = nul
map_value f (oct o) = oct (f o)
map_value f (nums l) = nums l
map_value f (trust r) = trust (map_root f r)

abbrev pub map_field : {O P : Type 0} → (O → P) → FieldWith O → FieldWith P
map_field f x = field x.number (map_value f x.value)

abbrev pub map_content : {O P : Type 0} → (O → P) → ContentWith O → ContentWith P
map_content f c = record {
  version = c.version;
  level = c.level;
  keymint = c.keymint;
  keymint_level = c.keymint_level;
  challenge = f c.challenge;
  unique = f c.unique;
  software = map (map_field f) c.software;
  hardware = map (map_field f) c.hardware;
}

-- ---- the encoding: DER of the schema, with its values and its present fields, no others

unfoldable pub enumerated_element : ℕ → List ℕ
enumerated_element n = element_octets (identifier 0 10) (integer_octets n)

unfoldable pub octets_element : List ℕ → List ℕ
octets_element bs = element_octets (identifier 0 4) bs

-- "BOOLEAN is 00 or FF"
unfoldable pub boolean_element : Bool → List ℕ
boolean_element b = element_octets (identifier 0 1) (pick b (255 ∷ []) (0 ∷ []))

unfoldable pub hash_element : Option (List ℕ) → List ℕ
hash_element none = []
hash_element (some bs) = octets_element bs

unfoldable pub root_content : Root → List ℕ
root_content r = octets_element r.key ++ (boolean_element r.locked ++ (enumerated_element r.state ++ hash_element r.hash))

unfoldable pub value_element : Value → List ℕ
value_element (num n) = integer_element n
value_element nul = element_octets (identifier 0 5) []
value_element (oct bs) = octets_element bs
value_element (nums l) = element_octets (identifier 1 17) (chain_octets integer_element l)
value_element (trust r) = element_octets (identifier 1 16) (root_content r)

-- "an explicit context tag (context class, bit 6 set) around exactly one element"
unfoldable pub field_element : Field → List ℕ
field_element f = element_octets (identifier 5 f.number) (value_element f.value)

unfoldable pub list_element : List Field → List ℕ
list_element fs = element_octets (identifier 1 16) (chain_octets field_element fs)

unfoldable pub key_description : Content → List ℕ
key_description c =
    integer_element c.version
    ++ (enumerated_element c.level
    ++ (integer_element c.keymint
    ++ (enumerated_element c.keymint_level
    ++ (octets_element c.challenge
    ++ (octets_element c.unique
    ++ (list_element c.software
    ++ list_element c.hardware))))))

unfoldable pub encode : Content → List ℕ
encode c = element_octets (identifier 1 16) (key_description c)

-- ---- well-shaped ("It is well-shaped when ..."), of what the record says

-- a set's members, counted from n on, are at most 16, ascend strictly from low and are within their top
abbrev pub member_good : ℕ × ℕ → ℕ → Bool
member_good s n = ltb s.0 16 && (leb n top32 && leb s.1 n)

abbrev pub after_member : ℕ × ℕ → ℕ → ℕ × ℕ
after_member s n = (s.0 + 1, n + 1)

unfoldable pub hash_good : {O : Type 0} → Bool → Option O → Bool
hash_good true none = false
hash_good true (some bs) = true
hash_good false none = true
hash_good false (some bs) = false

-- a value of a kind, within its tops
unfoldable pub value_good : {O : Type 0} → ℕ → Kind → ValueWith O → Bool
value_good v k (num n) = (is_kind number32 k || is_kind number64 k) && leb n (pick (is_kind number32 k) top32 top64)
value_good v k nul = is_kind null k
value_good v k (oct o) = is_kind octets k
value_good v k (nums l) = is_kind set k && chain_good member_good after_member (0, 0) l
value_good v k (trust r) = is_kind root k && (leb r.state 3 && hash_good (hashed v) r.hash)

unfoldable pub row_good : {O : Type 0} → ℕ → Option Row → ValueWith O → Bool
row_good v none x = false
row_good v (some r) x = held_in v r && value_good v r.kind x

-- a field that the version holds, its number not below low
unfoldable pub field_good : {O : Type 0} → ℕ → ℕ → FieldWith O → Bool
field_good v low f = leb low f.number && row_good v (find rows f.number) f.value

abbrev pub after_field : {O : Type 0} → ℕ → FieldWith O → ℕ
after_field low f = f.number + 1

unfoldable pub list_good : {O : Type 0} → ℕ → List (FieldWith O) → Bool
list_good v fs = chain_good (field_good v) after_field 0 fs

unfoldable pub well_shaped : {O : Type 0} → ContentWith O → Bool
well_shaped c =
    known_version c.version
    && (leb c.level (level_top c.version)
    && (leb c.keymint top32
    && (leb c.keymint_level (level_top c.version)
    && (list_good c.version c.software
    && list_good c.version c.hardware))))
