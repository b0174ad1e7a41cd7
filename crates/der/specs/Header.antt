-- What the header readers' answers say in the definitions' terms: s are the bytes, `end` the holder's end. The rest
-- that a definition hands on is the part of s from the next place to the end.
use Rattle.std.specs.Prelude.{◌≡◌, List, [], ◌∷◌, ℕ, ◌+◌, ◌<◌, ◌≤◌, length, leb, Result, Ok, Err, IfOk}
use Rattle.std.proofs.Math.Seq.{slice}
use Rattle.answer.specs.Answer.{Answer, got, answer_of, guard, bind}
use Rattle.answer.specs.Refusal.{number_of, runs_out}
use Rattle.answer.specs.declared.Refusal.{Refusal}
use Rattle.answer.specs.declared.Refused.{Refused}
use Rattle.codec.specs.Octets.{Taken, taken}
use Rattle.codec.specs.Header as codec
use Rattle.der.specs.declared.header.Identifier.{Identifier}
use Rattle.der.specs.declared.header.Length.{Length}
use Rattle.der.specs.declared.header.Header.{Header}

-- what is left of a holder's bytes from p on
abbrev pub rest_from : ℕ → List ℕ → List ℕ
rest_from p s = slice p (length s) s

-- the octet at `at`, the first of what is left there; or refusal 2 where nothing is
abbrev pub OctetAt : List ℕ → ℕ → Result ℕ Refused → Type 0
OctetAt s at (Ok b) = (at < length s) × (rest_from at s ≡ b ∷ rest_from (at + 1) s)
OctetAt s at (Err r) = (rest_from at s ≡ []) × (r ≡ record { 0 = Refusal.RunsOut; 1 = at })

module _ (s : List ℕ) (end : ℕ) where
  abbrev pub of_identifier : Result Identifier Refused → Answer (Taken codec.Identifier)
  of_identifier = answer_of (λ i. taken (codec.identifier i.form i.number) i.next (slice i.next end s))

  abbrev pub of_length : Result Length Refused → Answer (Taken ℕ)
  of_length = answer_of (λ l. taken l.size l.body (slice l.body end s))

  abbrev pub of_header : Result Header Refused → Answer (Taken codec.Header)
  of_header = answer_of (λ h. taken (codec.header (codec.identifier h.form h.number) h.size) h.body (slice h.body end s))

-- what was read lies between `at` and `end`
abbrev pub IdentifierInside : ℕ → ℕ → Result Identifier Refused → Type 0
IdentifierInside at end r = IfOk r (λ i. (at < i.next) × (i.next ≤ end))

abbrev pub LengthInside : ℕ → ℕ → Result Length Refused → Type 0
LengthInside at end r = IfOk r (λ l. (at < l.body) × (l.body ≤ end))

abbrev pub HeaderInside : ℕ → ℕ → Result Header Refused → Type 0
HeaderInside at end r = IfOk r (λ h. (at < h.body) × (h.body + h.size ≤ end))

-- a header as `read_header` reads it, but for the place of a refusal: that of the octet at fault
abbrev pub octet_header : ℕ → List ℕ → Answer (Taken codec.Header)
octet_header p s =
    bind (codec.read_identifier p s) λ w.
    bind (codec.read_length w.next w.rest) λ v.
    guard (leb v.val (length v.rest)) runs_out v.next
    (got (taken (codec.header w.val v.val) v.next v.rest))

-- the refusal reported of an element that starts at `start`
abbrev pub reported_as : ℕ → Refused → Refused
reported_as start r = record { 0 = r.0; 1 = codec.reported_place start (number_of r.0) r.1 }
