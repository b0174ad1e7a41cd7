-- Document 01, "The enrolment ruling", once more: what each refusal's number says, in plain words. 53 and 54 speak of a 704
-- that is there: where it is not, 52 comes first.
use Rattle.std.specs.Prelude.{◌≡◌, ◌⊎◌, false, List, [], ◌∷◌, ℕ, ◌<◌, length}
use Rattle.std.proofs.Math.Option.{none, some}
use Rattle.answer.specs.Sentences.{SaysFirst}
use Rattle.schema.specs.Content.{RootWith, num, trust, Place, place_at}
use Rattle.records.specs.Content.{part_of, fields_of}
use Rattle.records.specs.Fields.{field_value}
use Rattle.records.specs.Shape.{well_shaped_record}
use Rattle.records.specs.Parts.{parts_inside}
use Rattle.records.specs.declared.Record.{Record}

-- the hardware list has a 704 with such a root of trust, or a 702 with such a number
abbrev pub RootThat : Record → (RootWith Place → Type 0) → Type 0
RootThat r Such = (root : RootWith Place) × ((field_value (fields_of r.hardware place_at) 704 ≡ some (trust root)) × Such root)

abbrev pub OriginThat : Record → (ℕ → Type 0) → Type 0
OriginThat r Such = (n : ℕ) × ((field_value (fields_of r.hardware place_at) 702 ≡ some (num n)) × Such n)

-- each number with what it says, of a record whose octet parts lie in s
abbrev pub sentences : Record → List ℕ → List ℕ → List (ℕ × Type 0)
sentences r s expected =
    -- "20 as for the writer": "record not well-shaped, or an octet part outside its buffer"
    (20, (well_shaped_record r ≡ false) ⊎ (parts_inside r (length s) ≡ false))
    -- "expected challenge not 1 to 128 bytes or not equal"
    ∷ (50, (length expected < 1) ⊎ ((128 < length expected) ⊎ (expected ≡ part_of s r.challenge → ⊥)))
    -- "either level Software"
    ∷ (51, (r.attestation.level ≡ 0) ⊎ (r.keymint.level ≡ 0))
    -- "no 704 in the hardware list"
    ∷ (52, field_value (fields_of r.hardware place_at) 704 ≡ none)
    -- "not locked"
    ∷ (53, RootThat r (λ root. root.locked ≡ false))
    -- "state not Verified"
    ∷ (54, RootThat r (λ root. root.state ≡ 0 → ⊥))
    -- "hardware origin (702) absent or not 0"
    ∷ (55, (field_value (fields_of r.hardware place_at) 702 ≡ none) ⊎ OriginThat r (λ n. n ≡ 0 → ⊥))
    ∷ []

-- "the first that holds of"
abbrev pub RefusesFirst : ℕ → Record → List ℕ → List ℕ → Type 0
RefusesFirst n r s expected = SaysFirst (sentences r s expected) n
