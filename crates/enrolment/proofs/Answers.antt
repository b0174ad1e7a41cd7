-- Each answer of the enrolment ruling is the defined one: one law for each test that fails after those before it have
-- passed. Assumes nothing.
use mathlib.Core.Path.{◌≡◌, refl, ap, ◌∙◌}
use mathlib.Core.Bool.{Bool, true, false, not, ◌&&◌, ◌||◌}
use mathlib.Core.Option.{none, some}
use mathlib.Core.List.{List, [], ◌∷◌}
use Prim.Native.Nat.{ℕ}
use lib.ListN.{length, get_or}
use lib.Dec.{eqb, lit<}
use lib.Pointwise.{pointwise}
use borrow.Author.Tests.{eq-eqb, ne_eqb, le-leb, lt-leb, not-true, not-false}
use Rattle.answer.specs.Answer.{Answer, got, refused, guard, pick}
use Rattle.schema.specs.Table.{rows}
use Rattle.schema.specs.Content.{RootWith, num, trust, Place, place_at}
use Rattle.records.specs.Equal.{present_at}
use Rattle.records.specs.Content.{part_of, root_of, value_at, fields_of}
use Rattle.records.specs.Fields.{field_value}
use Rattle.records.specs.Shape.{well_shaped_record}
use Rattle.records.specs.Parts.{parts_inside}
use Rattle.records.specs.declared.FieldList.{FieldList}
use Rattle.records.specs.declared.Record.{Record}
use Rattle.records.proofs.Fields.{row-value}
use Rattle.enrolment.specs.Enrolled.{same_octets, challenge_met, either_software, root_is, number_is, has_root, boot_locked, boot_verified, generated, judged, enrolled}

-- ---- the challenge

pub same_pointwise : (xs ys : List ℕ) → pointwise eqb xs ys ≡ same_octets xs ys
unfolding same_octets
same_pointwise [] [] = refl
same_pointwise [] (y ∷ ys) = refl
same_pointwise (x ∷ xs) [] = refl
same_pointwise (x ∷ xs) (y ∷ ys) = rw (same_pointwise xs ys) refl

pub ruleset lengths = (le-leb, lt-leb, same_pointwise)

-- ---- what the hardware list says, by its rows

root_at : (f : RootWith Place → Bool) (b : Bool) (r : RootWith Place) → root_is f (pick b (some (trust r)) none) ≡ b && f r
unfolding root_is pick
root_at f true r = refl
root_at f false r = refl

number_at : (f : ℕ → Bool) (b : Bool) (n : ℕ) → number_is f (pick b (some (num n)) none) ≡ b && f n
unfolding number_is pick
number_at f true n = refl
number_at f false n = refl

-- where there is no root of trust the first guard refuses, so that the next two may take it to be there
guarded : {A : Type 0} (b x y : Bool) (k n m : ℕ) (e : Answer A) → guard b k 0 (guard x n 0 (guard y m 0 e)) ≡ guard (b && true) k 0 (guard (b && x) n 0 (guard (b && y) m 0 e))
unfolding guard
guarded true x y k n m e = refl
guarded false x y k n m e = refl

-- ---- 50 to 55

module _ {A : Type 0} (b : Bool) (n p : ℕ) (m : Answer A) where
  stops : not b ≡ true → refused n p ≡ guard b n p m
  unfolding guard
  stops e = rw (not-true b e) refl

  passes : not b ≡ false → {x : Answer A} → x ≡ m → x ≡ guard b n p m
  unfolding guard
  passes e f = rw (not-false b e) f

module _ (l : FieldList) where
  -- rows 24 and 26 are those of 702 and 704
  pub origin_value : field_value (fields_of l place_at) 702 ≡ pick (present_at l 24) (some (num (get_or l.values 24 0))) none
  unfolding value_at rows
  origin_value = row-value l place_at 24 (lit< tt)

  pub root-value : field_value (fields_of l place_at) 704 ≡ pick (present_at l 26) (some (trust (root_of place_at l.root))) none
  unfolding value_at rows
  root-value = row-value l place_at 26 (lit< tt)

  origin_row : (f : ℕ → Bool) → number_is f (field_value (fields_of l place_at) 702) ≡ present_at l 24 && f (get_or l.values 24 0)
  origin_row f = ap (number_is f) origin_value ∙ number_at f (present_at l 24) (get_or l.values 24 0)

  root-row : (f : RootWith Place → Bool) → root_is f (field_value (fields_of l place_at) 704) ≡ present_at l 26 && f (root_of place_at l.root)
  root-row f = ap (root_is f) root-value ∙ root_at f (present_at l 26) (root_of place_at l.root)

  pub origin_read : (present_at l 24 && eqb (get_or l.values 24 0) 0) ≡ generated (fields_of l place_at)
  unfolding generated
  origin_read = rw (origin_row (λ n. eqb n 0)) refl

  module _ (level keymint_level : ℕ) (met : Bool) where
    abbrev from_55 : Answer (Unit {0})
    from_55 = guard (generated (fields_of l place_at)) 55 0 (got tt)

    abbrev from_54 : Answer (Unit {0})
    from_54 = guard (eqb l.root.state 0) 54 0 from_55

    abbrev from_53 : Answer (Unit {0})
    from_53 = guard l.root.locked 53 0 from_54

    abbrev from_52 : Answer (Unit {0})
    from_52 = guard (present_at l 26) 52 0 from_53

    abbrev from_51 : Answer (Unit {0})
    from_51 = guard (not (either_software level keymint_level)) 51 0 from_52

    abbrev answer : Answer (Unit {0})
    answer = judged level keymint_level (fields_of l place_at) met

    by_rows : guard met 50 0 from_51 ≡ answer
    unfolding judged has_root boot_locked boot_verified
    by_rows = rw (root-row (λ r. true), root-row (λ r. r.locked), root-row (λ r. eqb r.state 0), guarded (present_at l 26) l.root.locked (eqb l.root.state 0) 52 53 54 from_55) refl

    pub not_met : not met ≡ true → refused 50 0 ≡ answer
    not_met a = stops met 50 0 from_51 a ∙ by_rows

    module _ (a : not met ≡ false) where
      past_50 : {x : Answer (Unit {0})} → x ≡ from_51 → x ≡ answer
      past_50 e = passes met 50 0 from_51 a e ∙ by_rows

      pub software-level : (eqb level 0 || eqb keymint_level 0) ≡ true → refused 51 0 ≡ answer
      unfolding either_software
      software-level e = past_50 (stops (not (either_software level keymint_level)) 51 0 from_52 (rw e refl))

      module _ (d : (eqb level 0 || eqb keymint_level 0) ≡ false) where
        past_51 : {x : Answer (Unit {0})} → x ≡ from_52 → x ≡ answer
        unfolding either_software
        past_51 e = past_50 (passes (not (either_software level keymint_level)) 51 0 from_52 (rw d refl) e)

        pub no_root : not (present_at l 26) ≡ true → refused 52 0 ≡ answer
        no_root e = past_51 (stops (present_at l 26) 52 0 from_53 e)

        module _ (e : not (present_at l 26) ≡ false) where
          past_52 : {x : Answer (Unit {0})} → x ≡ from_53 → x ≡ answer
          past_52 f = past_51 (passes (present_at l 26) 52 0 from_53 e f)

          pub unlocked : not l.root.locked ≡ true → refused 53 0 ≡ answer
          unlocked f = past_52 (stops l.root.locked 53 0 from_54 f)

          module _ (f : not l.root.locked ≡ false) where
            past_53 : {x : Answer (Unit {0})} → x ≡ from_54 → x ≡ answer
            past_53 g = past_52 (passes l.root.locked 53 0 from_54 f g)

            pub not_verified : (l.root.state ≡ 0 → ⊥) → refused 54 0 ≡ answer
            not_verified g = past_53 (stops (eqb l.root.state 0) 54 0 from_55 (rw (ne_eqb l.root.state 0 g) refl))

            module _ (g : l.root.state ≡ 0) (m : Bool) (q : m ≡ generated (fields_of l place_at)) where
              past_54 : {x : Answer (Unit {0})} → x ≡ from_55 → x ≡ answer
              past_54 h = past_53 (passes (eqb l.root.state 0) 54 0 from_55 (rw (eq-eqb l.root.state 0 g) refl) h)

              pub other_origin : not m ≡ true → refused 55 0 ≡ answer
              other_origin h = past_54 (stops (generated (fields_of l place_at)) 55 0 (got tt) (rw q at h))

              pub taken_on : not m ≡ false → got tt ≡ answer
              taken_on h = past_54 (passes (generated (fields_of l place_at)) 55 0 (got tt) (rw q at h) refl)

-- ---- the whole

module _ (r : Record) (s expected : List ℕ) where
  pub not_shaped : (b : Bool) → b ≡ well_shaped_record r → not b ≡ true → refused 20 0 ≡ enrolled r s expected
  unfolding enrolled guard
  not_shaped b q n = rw (← q, not-true b n) refl

  module _ (b : Bool) (q : b ≡ well_shaped_record r) (n : not b ≡ false) (d : Bool) (p : d ≡ parts_inside r (length s)) where
    pub part-outside : not d ≡ true → refused 20 0 ≡ enrolled r s expected
    unfolding enrolled guard
    part-outside m = rw (← q, not-false b n, ← p, not-true d m) refl

    pub is-judged : not d ≡ false → (t : List ℕ) → t ≡ part_of s r.challenge → (met : Bool) → met ≡ challenge_met expected t → (a : Answer (Unit {0}))
        → a ≡ judged r.attestation.level r.keymint.level (fields_of r.hardware place_at) met → a ≡ enrolled r s expected
    unfolding enrolled guard
    is-judged m t u met v a e = rw (← q, not-false b n, ← p, not-false d m, ← u, ← v) e
