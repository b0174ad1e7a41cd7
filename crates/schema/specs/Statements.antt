-- What is proved of the table, of contents and of reading them. Read OctetsAtPlaces and ReadSound first; that bytes are
-- accepted exactly when they are such an encoding is stated in one_record. proofs/Places.antt, Inside.antt, Refusals.antt,
-- Accepted.antt and Table.antt have the theorem of the same name.
use Rattle.std.specs.Prelude.{◌↔◌, ◌≡◌, List, ℕ, ◌+◌, ◌<◌, ◌≤◌, length, T}
use Rattle.answer.specs.Answer.{got, refused, map_answer}
use Rattle.codec.specs.Limits.{extension_bytes, extension_depth, extension_elements}
use Rattle.codec.specs.Octets.{Octets}
use Rattle.codec.specs.Tree.{Node, first_pass}
use Rattle.schema.specs.Table.{row_at, row_count}
use Rattle.schema.specs.Content.{Content, Places, octets_in, map_content, encode, well_shaped}
use Rattle.schema.specs.Parts.{EachPart, ContentOctets}
use Rattle.schema.specs.Count.{count_of}
use Rattle.schema.specs.Decode.{read_with, read, read_places}

-- ---- the table

-- "in strictly ascending number": rows ascend
abbrev pub Above : Type 0
Above = (i j : ℕ) → i < j → j < row_count → (row_at i).number < (row_at j).number

-- ---- octets and places

-- "handed back as the very part of the caller's extension that holds it": the octets of what is read are those that lie at
-- the places that are read, and both readings refuse alike
abbrev pub OctetsAtPlaces : Type 0
OctetsAtPlaces = (s : List ℕ) → Octets s → read s ≡ map_answer (λ (w : Places × ℕ). (map_content (octets_in s) w.0, w.1)) (read_places s)

-- each of those places lies in the bytes
abbrev pub PlacesInside : Type 0
PlacesInside = (s : List ℕ) (c : Places) (n : ℕ) → Octets s → read_places s ≡ got (c, n) → EachPart (λ p. p.start + p.len ≤ length s) c

-- and what is read is well-shaped
abbrev pub PlacesShaped : Type 0
PlacesShaped = (s : List ℕ) (c : Places) (n : ℕ) → Octets s → read_places s ≡ got (c, n) → T (well_shaped c)

-- ---- refusals: whatever becomes of octets

-- a refused read has a number from 1 to 14
abbrev pub ReadingRefuses : Type 1
ReadingRefuses = (O : Type 0) (keep : ℕ → List ℕ → O) (bs : List ℕ) → Octets bs → (k p : ℕ) → read_with keep bs ≡ refused k p → (1 ≤ k) × (k ≤ 14)

-- where the first pass accepts, from 8 to 14: no header is at fault, and no chain of fields or members runs out of turns
abbrev pub AfterFirstPass : Type 1
AfterFirstPass =
    (O : Type 0) (keep : ℕ → List ℕ → O) (bs : List ℕ) (t : Node) → Octets bs → first_pass extension_bytes extension_depth extension_elements bs ≡ got t
    → (k p : ℕ) → read_with keep bs ≡ refused k p → (8 ≤ k) × (k ≤ 14)

-- ---- content and bytes determine each other

-- a well-shaped content whose encoding is within the limit is read back from it, with its count of elements
abbrev pub ReadEncode : Type 0
ReadEncode = (c : Content) → T (well_shaped c) → ContentOctets c → length (encode c) ≤ extension_bytes → read (encode c) ≡ got (c, count_of c)

-- what is read is well-shaped, its encoding is just the bytes, and the count is that encoding's
abbrev pub ReadSound : Type 0
ReadSound =
    (bs : List ℕ) (c : Content) (k : ℕ) → Octets bs → read bs ≡ got (c, k)
    → T (well_shaped c) × ContentOctets c × (encode c ≡ bs) × (length bs ≤ extension_bytes) × (k ≡ count_of c)

-- contents are equal exactly when their encodings are
abbrev pub EncodeInjective : Type 0
EncodeInjective =
    (c d : Content) → T (well_shaped c) → T (well_shaped d) → ContentOctets c → ContentOctets d → length (encode c) ≤ extension_bytes → length (encode d) ≤ extension_bytes
    → (c ≡ d) ↔ (encode c ≡ encode d)

-- and bytes that are accepted exactly when what they say is
abbrev pub ReadInjective : Type 0
ReadInjective = (xs ys : List ℕ) (c d : Content) (k m : ℕ) → Octets xs → Octets ys → read xs ≡ got (c, k) → read ys ≡ got (d, m) → (c ≡ d) ↔ (xs ≡ ys)
