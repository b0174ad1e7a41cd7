-- What is proved of the enrolment ruling (document 01, "The enrolment ruling"). Each statement stands under the sentence
-- that it renders, and the theorem of the same name in proofs/Enrollable.antt or Refused.antt. Read Refuses.antt first, then
-- `EnrolledExactly` and `RefusedExactly`.
use Rattle.std.specs.Prelude.{◌≡◌, ◌↔◌, true, List, ℕ, ◌≤◌, length, T}
use Rattle.std.proofs.Math.Option.{some}
use Rattle.answer.specs.Answer.{got, refused}
use Rattle.schema.specs.Content.{RootWith, num, trust, Place, place_at}
use Rattle.records.specs.Content.{part_of, fields_of}
use Rattle.records.specs.Fields.{field_value}
use Rattle.records.specs.Shape.{well_shaped_record}
use Rattle.records.specs.Parts.{parts_inside}
use Rattle.records.specs.declared.Record.{Record}
use Rattle.enrolment.specs.Enrolled.{enrolled}
use Rattle.enrolment.specs.Refuses.{RefusesFirst}

-- a key that may be taken on: none of the refusals holds
pub record Enrollable (r : Record) (s expected : List ℕ) : Type 0 where
  -- 20 "as for the writer"
  pub shaped : T (well_shaped_record r)
  pub inside : T (parts_inside r (length s))
  -- 50
  pub given : 1 ≤ length expected
  pub few : length expected ≤ 128
  pub challenge : expected ≡ part_of s r.challenge
  -- 51
  pub level : r.attestation.level ≡ 0 → ⊥
  pub keymint_level : r.keymint.level ≡ 0 → ⊥
  -- 52 to 54
  pub root : RootWith Place
  pub rooted : field_value (fields_of r.hardware place_at) 704 ≡ some (trust root)
  pub locked : root.locked ≡ true
  pub verified : root.state ≡ 0
  -- 55
  pub generated : field_value (fields_of r.hardware place_at) 702 ≡ some (num 0)

-- "Yes, or the first that holds of": yes exactly where none holds
abbrev pub EnrolledExactly : Type 0
EnrolledExactly = (r : Record) (s expected : List ℕ) → (enrolled r s expected ≡ got tt) ↔ Enrollable r s expected

-- "the first that holds of": a number is given exactly where what it says holds and what no smaller number says does;
-- "Refusals of rulings .. have place 0"
abbrev pub RefusedExactly : Type 0
RefusedExactly =
    (r : Record) (s expected : List ℕ) (n place : ℕ)
    → (enrolled r s expected ≡ refused n place) ↔ (place ≡ 0) × RefusesFirst n r s expected

-- two records that agree on all but the software list
pub record SameButSoftware (r r' : Record) : Type 0 where
  pub attestation : r.attestation ≡ r'.attestation
  pub keymint : r.keymint ≡ r'.keymint
  pub challenge : r.challenge ≡ r'.challenge
  pub unique : r.unique ≡ r'.unique
  pub hardware : r.hardware ≡ r'.hardware

-- "Past 20, of the two lists only the hardware one is read": they get the same answer, whatever the software list holds
abbrev pub HardwareAlone : Type 0
HardwareAlone =
    (r r' : Record) (s expected : List ℕ) → SameButSoftware r r'
    → T (well_shaped_record r) → T (parts_inside r (length s)) → T (well_shaped_record r') → T (parts_inside r' (length s))
    → enrolled r s expected ≡ enrolled r' s expected
