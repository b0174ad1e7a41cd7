-- Document 01, "The enrolment ruling": "Yes, or the first that holds of: 20 as for the writer; 50 ..; 51 ..; 52 ..; 53 ..;
-- 54 ..; 55 ..". Each test says that its refusal does not hold.
use Rattle.std.specs.Prelude.{Bool, true, false, not, ◌&&◌, ◌||◌, List, [], ◌∷◌, ℕ, length, eqb, leb}
use Rattle.std.proofs.Math.Option.{Option, none, some}
use Rattle.std.specs.Prelude.{Result}
use Rattle.answer.specs.Answer.{Answer, got, guard, answer_of}
use Rattle.answer.specs.declared.Refused.{Refused}
use Rattle.answer.specs.Refusal.{ill_shaped, challenge_differs, software_level, no_root_of_trust, boot_unlocked, boot_not_verified, origin_not_generated}
use Rattle.schema.specs.Content.{RootWith, ValueWith, num, nul, oct, nums, trust, FieldWith, Place, place_at}
use Rattle.records.specs.Content.{part_of, fields_of}
use Rattle.records.specs.Fields.{field_value}
use Rattle.records.specs.Shape.{well_shaped_record}
use Rattle.records.specs.Parts.{parts_inside}
use Rattle.records.specs.declared.Record.{Record}

-- octets that are the same, one by one
unfoldable pub same_octets : List ℕ → List ℕ → Bool
same_octets [] [] = true
same_octets [] (y ∷ ys) = false
same_octets (x ∷ xs) [] = false
same_octets (x ∷ xs) (y ∷ ys) = eqb x y && same_octets xs ys

-- 50: "expected challenge not 1 to 128 bytes or not equal"
unfoldable pub challenge_met : List ℕ → List ℕ → Bool
challenge_met expected challenge = leb 1 (length expected) && (leb (length expected) 128 && same_octets expected challenge)

-- 51: "either level Software"
unfoldable pub either_software : ℕ → ℕ → Bool
either_software level keymint_level = eqb level 0 || eqb keymint_level 0

-- ---- 52 to 55: what the hardware list says under 704 and 702

-- the field of a list is there and holds such a root of trust
unfoldable pub root_is : (RootWith Place → Bool) → Option (ValueWith Place) → Bool
root_is f none = false
root_is f (some (num n)) = false
root_is f (some nul) = false
root_is f (some (oct bs)) = false
root_is f (some (nums l)) = false
root_is f (some (trust r)) = f r

-- .. and holds such a number
unfoldable pub number_is : (ℕ → Bool) → Option (ValueWith Place) → Bool
number_is f none = false
number_is f (some (num n)) = f n
number_is f (some nul) = false
number_is f (some (oct bs)) = false
number_is f (some (nums l)) = false
number_is f (some (trust r)) = false

-- 52: "no 704 in the hardware list"
unfoldable pub has_root : List (FieldWith Place) → Bool
has_root fs = root_is (λ r. true) (field_value fs 704)

-- 53: "not locked"
unfoldable pub boot_locked : List (FieldWith Place) → Bool
boot_locked fs = root_is (λ r. r.locked) (field_value fs 704)

-- 54: "state not Verified" (0)
unfoldable pub boot_verified : List (FieldWith Place) → Bool
boot_verified fs = root_is (λ r. eqb r.state 0) (field_value fs 704)

-- 55: "hardware origin (702) absent or not 0"
unfoldable pub generated : List (FieldWith Place) → Bool
generated fs = number_is (λ n. eqb n 0) (field_value fs 702)

-- ---- the ruling

-- past 20, "of the two lists only the hardware one is read"
unfoldable pub judged : ℕ → ℕ → List (FieldWith Place) → Bool → Answer (Unit {0})
judged level keymint_level hardware met =
    guard met challenge_differs 0
    (guard (not (either_software level keymint_level)) software_level 0
    (guard (has_root hardware) no_root_of_trust 0
    (guard (boot_locked hardware) boot_unlocked 0
    (guard (boot_verified hardware) boot_not_verified 0
    (guard (generated hardware) origin_not_generated 0
    (got tt))))))

-- the whole ruling, of a record whose octet parts lie in s
unfoldable pub enrolled : Record → List ℕ → List ℕ → Answer (Unit {0})
enrolled r s expected =
    guard (well_shaped_record r) ill_shaped 0
    (guard (parts_inside r (length s)) ill_shaped 0
    (judged r.attestation.level r.keymint.level (fields_of r.hardware place_at) (challenge_met expected (part_of s r.challenge))))

-- the code's answer in these terms
abbrev pub of_enrolment : Result (Unit {0}) Refused → Answer (Unit {0})
of_enrolment a = answer_of (λ x. x) a
