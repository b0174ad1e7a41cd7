-- What the contract of `read` says: for all bytes the answer is the schema's, with each octet part where it lies. That the
-- octets there are those of the content is one law (schema proofs/Places.antt, `octets_at_places`). This file is all that the
-- contract cites; the other files here serve private functions.
use Rattle.std.specs.Prelude.{◌≡◌, List, ℕ, length, T, Result, Ok, Err}
use Rattle.answer.specs.Answer.{Answer, got, refused}
use Rattle.answer.specs.Refusal.{number_of}
use Rattle.answer.specs.declared.Refused.{Refused}
use Rattle.schema.specs.Content.{Places}
use Rattle.schema.specs.Decode.{read_places}
use Rattle.records.specs.Content.{places_of}
use Rattle.records.specs.Empty.{empty_record}
use Rattle.records.specs.Made.{record_made}
use Rattle.records.specs.Shape.{well_shaped_record}
use Rattle.records.specs.Parts.{parts_inside}
use Rattle.records.specs.declared.Record.{Record}
use Rattle.reader.specs.declared.Reading.{Reading}

-- a record says each octet part as its start and length; a refusal has its number and place
abbrev pub of_reading : Answer ℕ → Record → Answer (Places × ℕ)
of_reading (got n) r = got (places_of r, n)
of_reading (refused k p) r = refused k p

-- beside a refusal stands a record of nothing
abbrev pub RefusedEmpty : Answer ℕ → Record → Type 0
RefusedEmpty (got n) r = Unit {0}
RefusedEmpty (refused k p) r = r ≡ empty_record

-- what is accepted has a record that is well-shaped, and whose octet parts lie in the bytes, n of them
abbrev pub AcceptedSound : ℕ → Answer ℕ → Record → Type 0
AcceptedSound n (got k) r = T (well_shaped_record r) × T (parts_inside r n)
AcceptedSound n (refused k p) r = Unit {0}

-- what reading the bytes s is: it answers o, the count of elements or a refusal, and says r
pub record Reads (s : List ℕ) (o : Answer ℕ) (r : Record) : Type 0 where
  -- each number, count and place is the one in the bytes, each refusal the defined one
  pub is : of_reading o r ≡ read_places s
  pub empty : RefusedEmpty o r
  pub sound : AcceptedSound (length s) o r
  -- all else in the record, absent fields and spare slots, is zero
  pub made : record_made (places_of r) ≡ r

-- all that the contract of `read` says: what is answered is a reading of the bytes; a refusal says nothing
abbrev pub Answered : List ℕ → Result Reading Refused → Type 0
Answered s (Ok a) = Reads s (got a.elements) a.said
Answered s (Err r) = Reads s (refused (number_of r.0) r.1) empty_record
