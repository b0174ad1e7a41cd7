-- Document 01, "KeyDescription": "An octet field, asked for by list and number, is handed back as the very part of the
-- caller's extension that holds it; asking for an absent one, or for a number that is no octet field, says absent; a part
-- outside the lent bytes gives 20".
use Rattle.std.specs.Prelude as code
use Rattle.std.specs.Prelude.{Bool, List, [], ℕ, ◌+◌, leb, length, Result}
use Rattle.std.proofs.Math.Option.{Option, none, some}
use Rattle.answer.specs.declared.Refused.{Refused}
use Rattle.answer.specs.Answer.{Answer, got, refused, guard, pick, answer_of}
use Rattle.answer.specs.Refusal.{ill_shaped}
use Rattle.schema.specs.Content.{ValueWith, num, nul, oct, nums, trust, Place, place_at}
use Rattle.records.specs.Content.{octets_at, fields_of}
use Rattle.records.specs.Fields.{field_value}
use Rattle.records.specs.Parts.{inside}
use Rattle.records.specs.declared.FieldList.{FieldList}
use Rattle.records.specs.declared.Record.{Record}
use Rattle.records.specs.declared.Part.{Part}

-- the list that is asked
abbrev pub list_of : Record → Bool → FieldList
list_of r hardware = pick hardware r.hardware r.software

-- what is answered of the value that the list says under the number, in len octets: its part, where it is octets
unfoldable pub asked_of : Option (ValueWith Place) → ℕ → Answer (Option (ℕ × ℕ))
asked_of none len = got none
asked_of (some (num n)) len = got none
asked_of (some nul) len = got none
asked_of (some (oct p)) len = guard (inside p.start p.len len) ill_shaped 0 (got (some (p.start, p.len)))
asked_of (some (nums l)) len = got none
asked_of (some (trust r)) len = got none

-- by list and number
unfoldable pub asked_octets : Record → Bool → ℕ → ℕ → Answer (Option (ℕ × ℕ))
asked_octets r hardware number len = asked_of (field_value (fields_of (list_of r hardware) place_at) number) len

-- the octets of s that an answer means; none where it means no part
abbrev pub part_asked : List ℕ → Answer (Option (ℕ × ℕ)) → List ℕ
part_asked s (got (some p)) = octets_at s p.0 p.1
part_asked s (got none) = []
part_asked s (refused number place) = []

-- "handed back as the very part of the caller's extension that holds it"
abbrev pub octet_field_of : List ℕ → Record → Bool → ℕ → List ℕ
octet_field_of s r hardware number = part_asked s (asked_octets r hardware number (length s))

-- where that part begins: none begins where s does
abbrev pub start_asked : Answer (Option (ℕ × ℕ)) → ℕ
start_asked (got (some p)) = p.0
start_asked (got none) = 0
start_asked (refused number place) = 0

-- a place in memory, n octets on
abbrev pub moved_on : ℕ × ℕ → ℕ → ℕ × ℕ
moved_on at n = (at.0, at.1 + n)

-- where a part begins of which what lies outside n octets is left out
abbrev pub start_within : ℕ → ℕ → ℕ
start_within start n = pick (leb n start) n start

-- where a part stands, of the code's parts
abbrev pub part_place : code.Option Part → Option (ℕ × ℕ)
part_place (code.Some p) = some (p.start, p.len)
part_place code.None = none

-- the code's answer in these terms
abbrev pub of_asked : Result (code.Option Part) Refused → Answer (Option (ℕ × ℕ))
of_asked r = answer_of part_place r
