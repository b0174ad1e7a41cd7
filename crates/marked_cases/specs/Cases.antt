-- Document 01's cases marked (P), as one list, `cases`, which is what to read first; `marked_cases` in proofs/Cases.antt is the
-- theorem over it. A case states an answer of the very definitions that the contracts cite.
use Rattle.std.specs.Prelude.{◌≡◌, List, [], ◌∷◌, ℕ}
use Rattle.std.proofs.Math.Option.{Option, none, some}
use Rattle.answer.specs.Answer.{Answer, got, refused}
use Rattle.answer.specs.Refusal.{key_too_small}
use Rattle.schema.specs.Decode.{read}
use Rattle.records.specs.declared.Record.{Record}
use Rattle.reader.specs.Reading.{Reads}
use Rattle.ruling.specs.declared.request.Request.{Request}
use Rattle.checks.specs.Checks.{key_size_refused}
use Rattle.ruling.specs.Ruling.{Permit, first_refusing, unless, ruling}
use Rattle.listing.specs.Text.{listing}

-- what a ruling case says of a request; all else that the request holds may be anything
pub record Use : Type 0 where
  pub purpose : ℕ
  pub digest : ℕ
  pub padding : ℕ
  pub floor : ℕ
  pub clock : ℕ

pub data Case : Type 0 where
  -- what is read in these bytes lists as this text
  lists : List ℕ → List ℕ → Case
  -- reading these bytes refuses them, with this number and place
  refuses : List ℕ → ℕ → ℕ → Case
  -- what is read in these bytes is ruled so for this use
  rules : List ℕ → Use → Answer Permit → Case
  -- check 35 alone answers so for this digest and a key of so many bits
  sizes : ℕ → ℕ → Answer (Unit {0}) → Case

-- a request for that use
pub record Asks (u : Use) (q : Request) : Type 0 where
  pub purpose : q.purpose ≡ u.purpose
  pub digest : q.digest ≡ u.digest
  pub padding : q.padding ≡ u.padding
  pub floor : q.floor ≡ u.floor
  pub clock : q.clock ≡ u.clock

-- the bytes are accepted, and whatever record is read in them, every request for the use gets this answer
pub record Ruled (bs : List ℕ) (u : Use) (a : Answer Permit) : Type 0 where
  pub accepted : (n : ℕ) × (r : Record) × Reads bs (got n) r
  pub answers : (o : Answer ℕ) (r : Record) (q : Request) → Reads bs o r → Asks u q → ruling r q ≡ a

-- "Check 35 alone": of SIGN (2) with RSA (1) and padding 3, by the key sizes that the software and the hardware list hold
abbrev pub key_size_alone : ℕ → Option ℕ → Option ℕ → Answer (Unit {0})
key_size_alone digest s h = unless (first_refusing ((key_too_small, key_size_refused 2 1 3 digest s h) ∷ [])) tt

-- wherever the size stands: in one list, in the other or in both
pub record KeySizeCase (digest bits : ℕ) (a : Answer (Unit {0})) : Type 0 where
  pub software : key_size_alone digest (some bits) none ≡ a
  pub hardware : key_size_alone digest none (some bits) ≡ a
  pub both : key_size_alone digest (some bits) (some bits) ≡ a

unfoldable pub Holds : Case → Type 0
Holds (lists bs text) = listing (read bs) ≡ text
Holds (refuses bs number place) = read bs ≡ refused number place
Holds (rules bs u a) = Ruled bs u a
Holds (sizes digest bits a) = KeySizeCase digest bits a

unfoldable pub Every : List Case → Type 0
Every [] = Unit {0}
Every (c ∷ cs) = Holds c × Every cs

-- "One extension, whole"
abbrev pub extension : List ℕ
extension =
    0x30 ∷ 0x4A ∷ 0x02 ∷ 0x01 ∷ 0x03 ∷ 0x0A ∷ 0x01 ∷ 0x01 ∷ 0x02 ∷ 0x01 ∷ 0x04 ∷ 0x0A ∷ 0x01 ∷ 0x01 ∷ 0x04 ∷ 0x03 ∷ 0x01 ∷ 0x02 ∷ 0x03
    ∷ 0x04 ∷ 0x00 ∷ 0x30 ∷ 0x0C ∷ 0xBF ∷ 0x83 ∷ 0x10 ∷ 0x08 ∷ 0x02 ∷ 0x06 ∷ 0x01 ∷ 0x76 ∷ 0xBB ∷ 0x3E ∷ 0x70 ∷ 0x00 ∷ 0x30 ∷ 0x27 ∷ 0xA1
    ∷ 0x05 ∷ 0x31 ∷ 0x03 ∷ 0x02 ∷ 0x01 ∷ 0x02 ∷ 0xA2 ∷ 0x03 ∷ 0x02 ∷ 0x01 ∷ 0x03 ∷ 0xA5 ∷ 0x05 ∷ 0x31 ∷ 0x03 ∷ 0x02 ∷ 0x01 ∷ 0x04 ∷ 0xA6
    ∷ 0x05 ∷ 0x31 ∷ 0x03 ∷ 0x02 ∷ 0x01 ∷ 0x01 ∷ 0xBF ∷ 0x83 ∷ 0x77 ∷ 0x02 ∷ 0x05 ∷ 0x00 ∷ 0xBF ∷ 0x85 ∷ 0x3E ∷ 0x03 ∷ 0x02 ∷ 0x01 ∷ 0x00 ∷ []

-- its twelve lines
abbrev pub text : List ℕ
text =
    118 ∷ 101 ∷ 114 ∷ 115 ∷ 105 ∷ 111 ∷ 110 ∷ 32 ∷ 51 ∷ 32 ∷ 108 ∷ 101 ∷ 118 ∷ 101 ∷ 108 ∷ 32 ∷ 49 ∷ 10  -- version 3 level 1
    ∷ 107 ∷ 101 ∷ 121 ∷ 109 ∷ 105 ∷ 110 ∷ 116 ∷ 32 ∷ 52 ∷ 32 ∷ 108 ∷ 101 ∷ 118 ∷ 101 ∷ 108 ∷ 32 ∷ 49 ∷ 10  -- keymint 4 level 1
    ∷ 99 ∷ 104 ∷ 97 ∷ 108 ∷ 108 ∷ 101 ∷ 110 ∷ 103 ∷ 101 ∷ 32 ∷ 48 ∷ 49 ∷ 48 ∷ 50 ∷ 48 ∷ 51 ∷ 10  -- challenge 010203
    ∷ 117 ∷ 110 ∷ 105 ∷ 113 ∷ 117 ∷ 101 ∷ 32 ∷ 45 ∷ 10  -- unique -
    ∷ 115 ∷ 111 ∷ 102 ∷ 116 ∷ 119 ∷ 97 ∷ 114 ∷ 101 ∷ 32 ∷ 52 ∷ 48 ∷ 48 ∷ 32 ∷ 49 ∷ 54 ∷ 48 ∷ 57 ∷ 52 ∷ 53 ∷ 57 ∷ 50 ∷ 48 ∷ 48 ∷ 48 ∷ 48 ∷ 48 ∷ 10  -- software 400 1609459200000
    ∷ 104 ∷ 97 ∷ 114 ∷ 100 ∷ 119 ∷ 97 ∷ 114 ∷ 101 ∷ 32 ∷ 49 ∷ 32 ∷ 50 ∷ 10  -- hardware 1 2
    ∷ 104 ∷ 97 ∷ 114 ∷ 100 ∷ 119 ∷ 97 ∷ 114 ∷ 101 ∷ 32 ∷ 50 ∷ 32 ∷ 51 ∷ 10  -- hardware 2 3
    ∷ 104 ∷ 97 ∷ 114 ∷ 100 ∷ 119 ∷ 97 ∷ 114 ∷ 101 ∷ 32 ∷ 53 ∷ 32 ∷ 52 ∷ 10  -- hardware 5 4
    ∷ 104 ∷ 97 ∷ 114 ∷ 100 ∷ 119 ∷ 97 ∷ 114 ∷ 101 ∷ 32 ∷ 54 ∷ 32 ∷ 49 ∷ 10  -- hardware 6 1
    ∷ 104 ∷ 97 ∷ 114 ∷ 100 ∷ 119 ∷ 97 ∷ 114 ∷ 101 ∷ 32 ∷ 53 ∷ 48 ∷ 51 ∷ 32 ∷ 121 ∷ 101 ∷ 115 ∷ 10  -- hardware 503 yes
    ∷ 104 ∷ 97 ∷ 114 ∷ 100 ∷ 119 ∷ 97 ∷ 114 ∷ 101 ∷ 32 ∷ 55 ∷ 48 ∷ 50 ∷ 32 ∷ 48 ∷ 10  -- hardware 702 0
    ∷ 101 ∷ 108 ∷ 101 ∷ 109 ∷ 101 ∷ 110 ∷ 116 ∷ 115 ∷ 32 ∷ 50 ∷ 54 ∷ 10  -- elements 26
    ∷ []

-- "SIGN, .. padding 1, floor 1600000000000", by digest and clock
abbrev pub sign : ℕ → ℕ → Use
sign digest clock = record { purpose = 2; digest = digest; padding = 1; floor = 1600000000000; clock = clock }

-- "hardware 32783 (5 bits), software 32", which is one bit
abbrev pub permitted : Permit
permitted = record { hardware = 32783; hardware_bits = 5; software = 32; software_bits = 1 }

unfoldable pub cases : List Case
cases =
    lists extension text
    ∷ rules extension (sign 4 1609459200000) (got permitted)  -- "clock 1609459200000 permits, .."
    ∷ rules extension (sign 4 1609459199999) (refused 37 0)  -- "1609459199999 gives 37"
    ∷ rules extension (sign 4 0) (refused 36 0)  -- "0 gives 36"
    ∷ rules extension (sign 5 1609459200000) (refused 34 0)  -- "digest 5 gives 34"
    ∷ sizes 6 1033 (got tt)  -- "Check 35 alone, digest 6: 1,033 bits pass"
    ∷ sizes 6 1032 (refused 35 0)  -- "1,032 give 35"
    ∷ refuses [] 2 0  -- "Empty input: 2 at 0"
    ∷ refuses (0x30 ∷ 0x80 ∷ []) 4 0  -- "Input 30 80: 4 at 0"
    ∷ refuses (0x05 ∷ 0x00 ∷ 0x00 ∷ []) 7 2  -- "Input 05 00 00: 7 at 2"
    ∷ refuses (0x05 ∷ 0x00 ∷ []) 9 0  -- "Input 05 00: 9 at 0"
    ∷ []

abbrev pub MarkedCases : Type 0
MarkedCases = Every cases
