-- Where the answer is yes, guard by guard, and that past 20 the software list is not read. Assumes nothing.
use mathlib.Core.Path.{◌≡◌, refl, sym, ap, ap₂, ◌∙◌}
use mathlib.Core.Bool.{Bool, true, false, not, ◌&&◌, ◌||◌}
use mathlib.Core.Option.{Option, none, some}
use mathlib.Core.List.{List, [], ◌∷◌}
use Prim.Native.Nat.{ℕ, ◌≤◌}
use lib.ListN.{length}
use lib.Dec.{T, eqb, leb, eqb→eq, eqb_refl, leb→le, le→leb, not_T}
use lib.Ieee.Bits.{is_true}
use Rattle.answer.specs.Answer.{got}
use Rattle.answer.proofs.Answer.{guard_yes, guard_case}
use Rattle.answer.proofs.Logic.{and_left, and_right, and_both, not_equal}
use Rattle.schema.specs.Content.{RootWith, ValueWith, num, nul, oct, nums, trust, FieldWith, Place, place_at}
use Rattle.records.specs.Content.{part_of, fields_of}
use Rattle.records.specs.Fields.{field_value}
use Rattle.records.specs.Shape.{well_shaped_record}
use Rattle.records.specs.Parts.{parts_inside}
use Rattle.records.specs.declared.Record.{Record}
use Rattle.enrolment.specs.Enrolled.{same_octets, challenge_met, either_software, root_is, number_is, has_root, boot_locked, boot_verified, generated, judged, enrolled}
use Rattle.enrolment.specs.Statements.{Enrollable, EnrolledExactly, HardwareAlone}

-- ---- what the tests say

same-is : (xs ys : List ℕ) → T (same_octets xs ys) → xs ≡ ys
unfolding same_octets
same-is [] [] t = refl
same-is [] (y ∷ ys) t = absurd t
same-is (x ∷ xs) [] t = absurd t
same-is (x ∷ xs) (y ∷ ys) t = ap₂ ◌∷◌ (eqb→eq x y (and_left (eqb x y) (same_octets xs ys) t)) (same-is xs ys (and_right (eqb x y) (same_octets xs ys) t))

same_itself : (xs : List ℕ) → T (same_octets xs xs)
unfolding same_octets
same_itself [] = tt
same_itself (x ∷ xs) = and_both (eqb x x) (same_octets xs xs) (eqb_refl x) (same_itself xs)

-- 50
module _ (expected challenge : List ℕ) where
  pub record Met : Type 0 where
    pub given : 1 ≤ length expected
    pub few : length expected ≤ 128
    pub same : expected ≡ challenge

  abbrev few-same : Bool
  few-same = leb (length expected) 128 && same_octets expected challenge

  pub to_met : T (challenge_met expected challenge) → Met
  unfolding challenge_met
  to_met t =
      let rest = and_right (leb 1 (length expected)) few-same t in
      record {
        given = leb→le 1 (length expected) (and_left (leb 1 (length expected)) few-same t);
        few = leb→le (length expected) 128 (and_left (leb (length expected) 128) (same_octets expected challenge) rest);
        same = same-is expected challenge (and_right (leb (length expected) 128) (same_octets expected challenge) rest);
      }

  pub from_met : Met → T (challenge_met expected challenge)
  unfolding challenge_met
  from_met w =
      and_both (leb 1 (length expected)) few-same (le→leb 1 (length expected) w.given)
      (and_both (leb (length expected) 128) (same_octets expected challenge) (le→leb (length expected) 128 w.few) (rw (← w.same) (same_itself expected)))

neither : (a b : Bool) → T (not (a || b)) → T (not a) × T (not b)
neither true b t = absurd t
neither false b t = (tt, t)

not_either : (a b : Bool) → T (not a) → T (not b) → T (not (a || b))
not_either true b s t = absurd s
not_either false b s t = t

pub root_found : (f : RootWith Place → Bool) (o : Option (ValueWith Place)) → T (root_is f o) → (r : RootWith Place) × (o ≡ some (trust r)) × T (f r)
unfolding root_is
root_found f none t = absurd t
root_found f (some (num n)) t = absurd t
root_found f (some nul) t = absurd t
root_found f (some (oct bs)) t = absurd t
root_found f (some (nums l)) t = absurd t
root_found f (some (trust r)) t = (r, refl, t)

number_found : (f : ℕ → Bool) (o : Option (ValueWith Place)) → T (number_is f o) → (n : ℕ) × (o ≡ some (num n)) × T (f n)
unfolding number_is
number_found f none t = absurd t
number_found f (some (num n)) t = (n, refl, t)
number_found f (some nul) t = absurd t
number_found f (some (oct bs)) t = absurd t
number_found f (some (nums l)) t = absurd t
number_found f (some (trust r)) t = absurd t

-- ---- yes

module _ (r : Record) (s expected : List ℕ) where
  abbrev fields : List (FieldWith Place)
  fields = fields_of r.hardware place_at

  abbrev challenge : List ℕ
  challenge = part_of s r.challenge

  to_enrollable : enrolled r s expected ≡ got tt → Enrollable r s expected
  unfolding enrolled judged challenge_met either_software has_root boot_locked boot_verified generated root_is
  to_enrollable e =
      guard_case _ _ _ _ e λ shaped e₁.
      guard_case _ _ _ _ e₁ λ inside e₂.
      guard_case _ _ _ _ e₂ λ met e₃.
      guard_case _ _ _ _ e₃ λ above e₄.
      guard_case _ _ _ _ e₄ λ rooted e₅.
      guard_case _ _ _ _ e₅ λ locked e₆.
      guard_case _ _ _ _ e₆ λ verified e₇.
      guard_case _ _ _ _ e₇ λ origin e₈.
      let levels = neither (eqb r.attestation.level 0) (eqb r.keymint.level 0) above in
      let said = to_met expected challenge met in
      let found = root_found (λ x. x.locked) (field_value fields 704) locked in
      let number = number_found (λ n. eqb n 0) (field_value fields 702) origin in
      record {
        shaped = shaped;
        inside = inside;
        given = said.given;
        few = said.few;
        challenge = said.same;
        level = not_equal r.attestation.level 0 levels.0;
        keymint_level = not_equal r.keymint.level 0 levels.1;
        root = found.0;
        rooted = found.1;
        locked = is_true found.0.locked found.2;
        verified = eqb→eq found.0.state 0 (rw found.1 at verified);
        generated = number.1 ∙ ap (λ (n : ℕ). some (num n)) (eqb→eq number.0 0 number.2);
      }

  from_enrollable : Enrollable r s expected → enrolled r s expected ≡ got tt
  unfolding enrolled judged challenge_met either_software has_root boot_locked boot_verified generated root_is number_is
  from_enrollable w =
      let met = from_met expected challenge (record { given = w.given; few = w.few; same = w.challenge }) in
      let above : T (not (either_software r.attestation.level r.keymint.level)) =
      not_either (eqb r.attestation.level 0) (eqb r.keymint.level 0) (not_T (eqb r.attestation.level 0) (λ t. w.level (eqb→eq r.attestation.level 0 t)))
      (not_T (eqb r.keymint.level 0) (λ t. w.keymint_level (eqb→eq r.keymint.level 0 t))) in
      guard_yes (well_shaped_record r) 20 0 _ w.shaped ∙ guard_yes (parts_inside r (length s)) 20 0 _ w.inside
      ∙ guard_yes _ 50 0 _ met ∙ guard_yes _ 51 0 _ above
      ∙ guard_yes (has_root fields) 52 0 _ (rw w.rooted tt) ∙ guard_yes (boot_locked fields) 53 0 _ (rw (w.rooted, w.locked) tt)
      ∙ guard_yes (boot_verified fields) 54 0 _ (rw (w.rooted, w.verified) tt) ∙ guard_yes (generated fields) 55 0 _ (rw w.generated tt)

pub enrolled-exactly : EnrolledExactly
enrolled-exactly r s expected = (to_enrollable r s expected, from_enrollable r s expected)

-- ---- past 20

past_20 : (r : Record) (s expected : List ℕ) → T (well_shaped_record r) → T (parts_inside r (length s))
    → enrolled r s expected ≡ judged r.attestation.level r.keymint.level (fields_of r.hardware place_at) (challenge_met expected (part_of s r.challenge))
unfolding enrolled
past_20 r s expected t i = guard_yes (well_shaped_record r) 20 0 _ t ∙ guard_yes (parts_inside r (length s)) 20 0 _ i

pub hardware_alone : HardwareAlone
hardware_alone r r' s expected q t i u j = past_20 r s expected t i ∙ rw (q.attestation, q.keymint, q.hardware, q.challenge) refl ∙ sym (past_20 r' s expected u j)
