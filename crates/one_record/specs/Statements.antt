-- One record, one encoding: what is proved of the reader and the writer together (document 01, demands 2 and 3). Each
-- statement stands under the sentence that it renders; proofs/OneRecord.antt has the theorem of the same name. Read first
-- AcceptedExactly, EqualSameBytes and WritesJustThat.
use Rattle.std.specs.Prelude.{◌⊎◌, ◌↔◌, ◌≡◌, List, ◌++◌, ℕ, ◌≤◌, ◌<◌, length, take, drop, T, Result}
use Rattle.answer.specs.Answer.{Answer, got, refused}
use Rattle.answer.specs.declared.Refused.{Refused}
use Rattle.codec.specs.Limits.{extension_bytes, extension_depth, extension_elements}
use Rattle.codec.specs.Octets.{Octets}
use Rattle.codec.specs.Tree.{Node, nodes, first_pass}
use Rattle.schema.specs.Content.{Content, encode, well_shaped}
use Rattle.schema.specs.Parts.{ContentOctets}
use Rattle.schema.specs.Count.{count_of}
use Rattle.schema.specs.Decode.{read}
use Rattle.records.specs.Content.{content_of}
use Rattle.records.specs.Shape.{well_shaped_record}
use Rattle.records.specs.Parts.{parts_inside}
use Rattle.records.specs.Equal.{Equal}
use Rattle.records.specs.declared.Record.{Record}
use Rattle.reader.specs.Reading.{Reads, Answered}
use Rattle.reader.specs.declared.Reading.{Reading}
use Rattle.writer.specs.Written.{encoding_of, Writes}
use Rattle.one_record.specs.Accepting.{ReadsAs}

-- "Any bytes .. get an answer": there is an answer and a record that `Reads` allows, and no other
abbrev pub OneAnswer : Type 0
OneAnswer =
    (s : List ℕ) → Octets s
    → (o : Answer ℕ) × (r : Record) × Reads s o r × ((o' : Answer ℕ) (r' : Record) → Reads s o' r' → (o' ≡ o) × (r' ≡ r))

-- .. and so of the result itself: the contract of `read` allows just one for all bytes
abbrev pub OneResult : Type 0
OneResult =
    (s : List ℕ) → Octets s
    → (a : Result Reading Refused) × Answered s a × ((a' : Result Reading Refused) → Answered s a' → a' ≡ a)

-- "each refusal has the number .. fixed in document 01": a refused read has a number from 1 to 14, and from 8 to 14 where the
-- first pass accepts
abbrev pub ReadRefuses : Type 0
ReadRefuses = (s : List ℕ) (k p : ℕ) (r : Record) → Octets s → Reads s (refused k p) r → (1 ≤ k) × (k ≤ 14)

abbrev pub SchemaRefuses : Type 0
SchemaRefuses =
    (s : List ℕ) (k p : ℕ) (r : Record) (t : Node) → Octets s → first_pass extension_bytes extension_depth extension_elements s ≡ got t
    → Reads s (refused k p) r
    → (8 ≤ k) × (k ≤ 14)

-- "An extension is read exactly when it is DER of the published schema of its version, within document 01's limits": bytes
-- are accepted if and only if they are the encoding of some well-shaped content and at most 8,192 long
abbrev pub AcceptedExactly : Type 0
AcceptedExactly =
    (bs : List ℕ) → Octets bs
    → ((w : Content × ℕ) × (read bs ≡ got w)) ↔ ((c : Content) × T (well_shaped c) × ContentOctets c × (encode c ≡ bs) × (length bs ≤ extension_bytes))

-- "accepted extensions read as equal records exactly when their bytes are the same"
abbrev pub EqualSameBytes : Type 0
EqualSameBytes =
    (xs ys : List ℕ) (r r' : Record) (n m : ℕ) → Octets xs → Octets ys
    → ReadsAs xs r n → ReadsAs ys r' m
    → Equal r xs r' ys ↔ (xs ≡ ys)

-- "a well-shaped record", with its octet parts inside its buffer s, whatever that holds, and an encoding within the limit
pub record Encodable (r : Record) (s : List ℕ) : Type 0 where
  pub shaped : T (well_shaped_record r)
  pub inside : T (parts_inside r (length s))
  pub octets : Octets s
  pub short : length (encoding_of r s) ≤ extension_bytes

-- ".. has exactly one encoding, it is accepted": every read of it accepts, with its count of elements
abbrev pub EncodingAccepted : Type 0
EncodingAccepted =
    (r : Record) (s : List ℕ) → Encodable r s
    → (o : Answer ℕ) (r' : Record) → Reads (encoding_of r s) o r'
    → o ≡ got (count_of (content_of r s))

-- "and reads back equal"
abbrev pub ReadsBackEqual : Type 0
ReadsBackEqual =
    (r : Record) (s : List ℕ) → Encodable r s
    → (o : Answer ℕ) (r' : Record) → Reads (encoding_of r s) o r'
    → Equal r s r' (encoding_of r s)

-- "exactly one": no other accepted extension reads as a record equal to it
abbrev pub OnlyEncoding : Type 0
OnlyEncoding =
    (r : Record) (s : List ℕ) → Encodable r s
    → (bs : List ℕ) (r' : Record) (n : ℕ) → Octets bs → ReadsAs bs r' n → Equal r s r' bs
    → bs ≡ encoding_of r s

-- the limits of depth and elements never stand in its way: five levels and 313 elements are enough
abbrev pub EncodingSmall : Type 0
EncodingSmall =
    (r : Record) (s : List ℕ) → Encodable r s
    → (t : Node) × (nodes t ≡ count_of (content_of r s)) × (first_pass extension_bytes 5 313 (encoding_of r s) ≡ got t)

-- "the writer writes just that at the front of the output and changes nothing else"
abbrev pub WritesJustThat : Type 0
WritesJustThat =
    (r : Record) (s out after : List ℕ) (w : Answer ℕ) → Encodable r s → length (encoding_of r s) ≤ length out
    → Writes r s out w after
    → (w ≡ got (length (encoding_of r s))) × (after ≡ encoding_of r s ++ drop (length (encoding_of r s)) out)

-- "a refused write changes no byte of the output"
abbrev pub RefusedUntouched : Type 0
RefusedUntouched =
    (r : Record) (s out after : List ℕ) (k p : ℕ) → Writes r s out (refused k p) after
    → after ≡ out

-- "Writer: 20, 22, 21": the first of them that applies, at place 0
pub record RefusesInOrder (r : Record) (s out : List ℕ) (w : Answer ℕ) : Type 0 where
  pub unshaped : (T (well_shaped_record r) → ⊥) → w ≡ refused 20 0
  pub outside : (T (parts_inside r (length s)) → ⊥) → w ≡ refused 20 0
  pub long : T (well_shaped_record r) → T (parts_inside r (length s)) → extension_bytes < length (encoding_of r s) → w ≡ refused 22 0
  pub narrow : T (well_shaped_record r) → T (parts_inside r (length s)) → length (encoding_of r s) ≤ extension_bytes → length out < length (encoding_of r s) → w ≡ refused 21 0

-- .. and no other number
abbrev pub WriteNumbers : Type 0
WriteNumbers = (r : Record) (s out after : List ℕ) (k p : ℕ) → Writes r s out (refused k p) after → (p ≡ 0) × ((k ≡ 20) ⊎ ((k ≡ 21) ⊎ (k ≡ 22)))

abbrev pub WriteRefuses : Type 0
WriteRefuses = (r : Record) (s out after : List ℕ) (w : Answer ℕ) → Writes r s out w after → RefusesInOrder r s out w

-- write(read(b)) is b
abbrev pub WriteOfRead : Type 0
WriteOfRead =
    (b out after : List ℕ) (r : Record) (n : ℕ) (w : Answer ℕ) → Octets b → length b ≤ length out
    → ReadsAs b r n → Writes r b out w after
    → (w ≡ got (length b)) × (after ≡ b ++ drop (length b) out)

-- read(write(r)) equals r
abbrev pub ReadOfWrite : Type 0
ReadOfWrite =
    (r r' : Record) (s out after : List ℕ) (k : ℕ) (o : Answer ℕ) → Octets s
    → Writes r s out (got k) after → Reads (take k after) o r'
    → (o ≡ got (count_of (content_of r s))) × Equal r s r' (take k after)
