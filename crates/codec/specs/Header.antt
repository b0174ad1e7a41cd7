-- Document 01, "DER as walked": the identifier and the length of an element, read at a place and written.
-- A header reader's own refusal names the octet at fault; `reported_place` alone decides which place is reported.
use Rattle.std.specs.Prelude.{Bool, ◌&&◌, List, [], ◌∷◌, ◌++◌, ℕ, ◌+◌, ◌*◌, ◌/◌, ◌%◌, length, ltb, leb, eqb}
use Rattle.answer.specs.Answer.{Answer, got, refused, guard, bind, pick}
use Rattle.answer.specs.Refusal.{runs_out, bad_identifier, bad_length}
use Rattle.codec.specs.Octets.{Taken, taken, octet}
use Rattle.codec.specs.Shortest.{length_octets}

-- the three high bits of the first octet (the class, and bit 6 as the lowest), and the tag number
pub record Identifier : Type 0 where
  pub form : ℕ
  pub number : ℕ

abbrev pub identifier : ℕ → ℕ → Identifier
identifier f n = record { form = f; number = n }

-- "An element holds elements when bit 6 (value 32) of its first octet is set"
unfoldable pub holds : Identifier → Bool
holds i = eqb (i.form % 2) 1

-- "the number follows seven bits to an octet, high bit set on all but the last, shortest form, at most two such octets
-- (16,383)"
unfoldable pub read_high_number : ℕ → ℕ → List ℕ → Answer (Taken Identifier)
read_high_number form p bs =
    octet p bs λ b q r.
    pick (ltb b 128)
    (guard (leb 31 b) bad_identifier p (got (taken (identifier form b) q r)))
    (guard (ltb 128 b) bad_identifier p
    (octet q r λ c q₂ r₂.
    guard (ltb c 128) bad_identifier q (got (taken (identifier form (b % 128 * 128 + c)) q₂ r₂))))

-- "Numbers 0 to 30 take one identifier octet. From 31, the low five bits are all ones"
unfoldable pub read_identifier : ℕ → List ℕ → Answer (Taken Identifier)
read_identifier p bs =
    octet p bs λ a q r.
    pick (eqb (a % 32) 31) (read_high_number (a / 32) q r)
    (got (taken (identifier (a / 32) (a % 32)) q r))

-- "Lengths are definite and shortest. Octets 80 and 83 to FF are refused, and 82 as soon as 00 follows"
unfoldable pub read_length : ℕ → List ℕ → Answer (Taken ℕ)
read_length p bs =
    octet p bs λ a q r.
    pick (ltb a 128) (got (taken a q r))
    (pick (eqb a 129)
    (octet q r λ b q₂ r₂. guard (leb 128 b) bad_length p (got (taken b q₂ r₂)))
    (pick (eqb a 130)
    (octet q r λ b q₂ r₂.
    guard (leb 1 b) bad_length p
    (octet q₂ r₂ λ c q₃ r₃. got (taken (b * 256 + c) q₃ r₃)))
    (refused bad_length p)))

pub record Header : Type 0 where
  pub id : Identifier
  pub size : ℕ

abbrev pub header : Identifier → ℕ → Header
header i n = record { id = i; size = n }

-- the place that a refusal of this number reports, for an element that starts at `start` and a fault at `octet`:
-- refusals 2, 3 and 4 are placed at the "element start"
unfoldable pub reported_place : ℕ → ℕ → ℕ → ℕ
reported_place start number octet = start

unfoldable pub reported : {A : Type 0} → ℕ → Answer A → Answer A
reported start (got a) = got a
reported start (refused number octet) = refused number (reported_place start number octet)

-- "identifier, length, fit": the header of the element at p, whose content the octets after it hold whole
unfoldable pub read_header : ℕ → List ℕ → Answer (Taken Header)
read_header p bs =
    reported p
    (bind (read_identifier p bs) λ i.
    bind (read_length i.next i.rest) λ l.
    guard (leb l.val (length l.rest)) runs_out l.next
    (got (taken (header i.val l.val) l.next l.rest)))

-- ---- written

-- "[400] is BF 83 10; [704] is BF 85 40"
unfoldable pub identifier_octets : Identifier → List ℕ
identifier_octets i =
    pick (ltb i.number 31) ((i.form * 32 + i.number) ∷ [])
    (pick (ltb i.number 128) ((i.form * 32 + 31) ∷ i.number ∷ [])
    ((i.form * 32 + 31) ∷ (128 + i.number / 128) ∷ i.number % 128 ∷ []))

-- what can be written so that it is read: three bits of form, "at most two such octets (16,383)"
abbrev pub identifier_good : Identifier → Bool
identifier_good i = ltb i.form 8 && ltb i.number 16384

-- 83 and above are refused, so two octets of length at most
abbrev pub length_good : ℕ → Bool
length_good n = ltb n 65536

unfoldable pub header_octets : Identifier → ℕ → List ℕ
header_octets i n = identifier_octets i ++ length_octets n

-- an element: its header and its content
unfoldable pub element_octets : Identifier → List ℕ → List ℕ
element_octets i content = header_octets i (length content) ++ content
