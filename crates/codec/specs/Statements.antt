-- What is proved of DER's definitions. Read FirstPassExactly first: it says what the first pass takes, without a reader.
-- proofs/Tree.antt, Refusals.antt, Header.antt and Integer.antt have the theorem of the same name.
use Rattle.std.specs.Prelude.{◌↔◌, ◌≡◌, List, ℕ, ◌≤◌, length, leb}
use Rattle.answer.specs.Answer.{got, refused}
use Rattle.codec.specs.Octets.{Octets}
use Rattle.codec.specs.Shortest.{integer_octets, length_octets}
use Rattle.codec.specs.Header.{identifier_octets, identifier_good, read_identifier, length_good, read_length}
use Rattle.codec.specs.Integer.{integer_of}
use Rattle.codec.specs.Codec.{Front, Whole}
use Rattle.codec.specs.Tree.{Node, nodes, run, walk_element, first_pass, Within}

-- ---- the first pass

-- "The first pass walks nested elements": it gives a tree exactly when the bytes are that tree's DER within the limits
abbrev pub FirstPassExactly : Type 0
FirstPassExactly = (bytes depth most : ℕ) (bs : List ℕ) (t : Node) → Octets bs → (first_pass bytes depth most bs ≡ got t) ↔ Within bytes depth most bs t

-- "The walk reports how many elements it met .. with 512 as limit": at most the limit
abbrev pub CountFew : Type 0
CountFew = (bytes depth most : ℕ) (bs : List ℕ) (t : Node) → Octets bs → first_pass bytes depth most bs ≡ got t → nodes t ≤ most

-- "Order: 1; then the whole first pass ..; then 7": no other number is given
abbrev pub FirstPassRefuses : Type 0
FirstPassRefuses = (bytes depth most : ℕ) (bs : List ℕ) (k p : ℕ) → first_pass bytes depth most bs ≡ refused k p → (1 ≤ k) × (k ≤ 7)

-- the fuel of `run` only bounds the turns: it never runs out where there are as many as octets
abbrev pub RunEnough : Type 0
RunEnough =
    (most depth f met p : ℕ) (bs : List ℕ) → Octets bs → length bs ≤ f
    → run (walk_element most depth) f met p bs ≡ run (walk_element most depth) (length bs) met p bs

-- ---- identifiers, lengths and INTEGERs: each is read back from its octets, and nothing else is read

abbrev pub IdentifierLaws : Type 0
IdentifierLaws = Front identifier_octets identifier_good read_identifier

abbrev pub LengthLaws : Type 0
LengthLaws = Front length_octets length_good read_length

-- "INTEGER and ENUMERATED are shortest and not negative", whatever their top and the number of their refusal
abbrev pub IntegerLaws : Type 0
IntegerLaws = (top number : ℕ) → Whole integer_octets (λ n. leb n top) (λ p q bs. integer_of top number p bs)
