-- What a refusal's number says: guard by guard what is found is what its number says, so that the first that refuses has the
-- smallest number whose sentence holds. Assumes nothing.
use mathlib.Core.Path.{◌≡◌, refl, sym, ◌∙◌}
use mathlib.Core.Logic.{◌⊎◌, inl, inr, ⊎_elim}
use mathlib.Core.Bool.{Bool, true, false, not, ◌&&◌, ◌||◌, true≢false}
use mathlib.Core.Option.{Option, none, some}
use mathlib.Core.List.{List, [], ◌∷◌}
use Prim.Native.Nat.{ℕ, suc, ◌<◌, ◌≤◌}
use native.Mathlib.Omega.{arith}
use lib.ListN.{length, get_or}
use lib.Dec.{T, eqb, eqb→eq, T_not, not_T}
use Rattle.answer.specs.Answer.{Answer, got, refused, guard, pick}
use Rattle.answer.specs.Sentences.{Says, SaysFirst}
use Rattle.answer.proofs.Sentences.{ascending, says-from}
use Rattle.answer.proofs.Answer.{refused-got}
use Rattle.answer.proofs.Logic.{by_le, not_equal}
use Rattle.schema.specs.Content.{RootWith, ValueWith, num, trust, FieldWith, Place, place_at}
use Rattle.records.specs.Content.{part_of, root_of, fields_of}
use Rattle.records.specs.Equal.{present_at}
use Rattle.records.specs.Fields.{field_value}
use Rattle.records.specs.Shape.{well_shaped_record}
use Rattle.records.specs.Parts.{parts_inside}
use Rattle.records.specs.declared.Record.{Record}
use Rattle.enrolment.specs.Enrolled.{challenge_met, either_software, root_is, number_is, has_root, boot_locked, boot_verified, generated, judged, enrolled}
use Rattle.enrolment.specs.Refuses.{RootThat, OriginThat, sentences}
use Rattle.enrolment.specs.Statements.{RefusedExactly}
use Rattle.enrolment.proofs.Answers.{origin_value, root-value}
use Rattle.enrolment.proofs.Enrollable.{Met, to_met, from_met, root_found}

-- ---- the first guard that refuses, by what each number says

-- the answer is a refusal by just the first of these, with place 0
record Exact (a : Answer (Unit {0})) (xs : List (ℕ × Type 0)) : Type 0 where
  to : (n place : ℕ) → a ≡ refused n place → (place ≡ 0) × SaysFirst xs n
  from : (n : ℕ) → SaysFirst xs n → a ≡ refused n 0

nothing_more : Exact (got tt) []
nothing_more = record { to = λ n place e. absurd (refused-got (sym e)); from = λ n w. absurd w.0 }

-- a guard that refuses just where its number's sentence holds, and what follows where it lets pass
then : (b : Bool) (k : ℕ) {P : Type 0} (a : Answer (Unit {0})) (xs : List (ℕ × Type 0)) → T (ascending (suc k) xs) → (T (not b) → P) → (P → T (not b)) → (T b → Exact a xs) → Exact (guard b k 0 a) ((k, P) ∷ xs)
unfolding guard
then true k {P} a xs t f g next = record {
  to = λ n place e. let w = (next tt).to n place e in (w.0, (inr w.1.0, λ m l. ⊎_elim (λ y. g y.1) (w.1.1 m l)));
  from = λ n w. (next tt).from n (⊎_elim (λ y. absurd (g y.1)) (λ y. y) w.0, λ m l y. w.1 m l (inr y));
}
then false k {P} a xs t f g next = record { to = to; from = from }
  where
    none_before : (n m : ℕ) → n ≡ k → m < n → Says ((k, P) ∷ xs) m → ⊥
    none_before n m e l (inl (h, x)) = omega arith
    none_before n m e l (inr v) = let i : suc k ≤ m = says-from xs (suc k) m t v in omega arith

    to : (n place : ℕ) → ◌≡◌ {A = Answer (Unit {0})} (refused k 0) (refused n place) → (place ≡ 0) × SaysFirst ((k, P) ∷ xs) n
    to n place e = let i : n ≡ k = cc in (cc, (inl (i, f tt), λ m. none_before n m i))

    from : (n : ℕ) → SaysFirst ((k, P) ∷ xs) n → ◌≡◌ {A = Answer (Unit {0})} (refused k 0) (refused n 0)
    from n (inl (e, x), w) = rw e refl
    from n (inr v, w) = absurd (w k (says-from xs (suc k) n t v) (inl (refl, f tt)))

-- ---- what each guard finds

false_is : (b : Bool) → T (not b) → b ≡ false
false_is true t = absurd t
false_is false t = refl

is_not : (b : Bool) → b ≡ false → T (not b)
is_not true e = absurd (true≢false e)
is_not false e = tt

-- 20
joined : (b c : Bool) (k : ℕ) (a : Answer (Unit {0})) (xs : List (ℕ × Type 0)) → Exact (guard (b && c) k 0 a) xs → Exact (guard b k 0 (guard c k 0 a)) xs
unfolding guard
joined true c k a xs w = w
joined false c k a xs w = w

fails_one : (b c : Bool) → T (not (b && c)) → (b ≡ false) ⊎ (c ≡ false)
fails_one true c t = inr (false_is c t)
fails_one false c t = inl refl

one_fails : (b c : Bool) → (b ≡ false) ⊎ (c ≡ false) → T (not (b && c))
one_fails true c (inl e) = absurd (true≢false e)
one_fails true c (inr e) = is_not c e
one_fails false c e = tt

-- 50
module _ (expected challenge : List ℕ) where
  abbrev Differs : Type 0
  Differs = (length expected < 1) ⊎ ((128 < length expected) ⊎ (expected ≡ challenge → ⊥))

  not_met : T (not (challenge_met expected challenge)) → Differs
  not_met t =
      by_le 1 (length expected)
      (λ given. by_le (length expected) 128 (λ few. inr (inr (λ same. T_not (challenge_met expected challenge) t (from_met expected challenge (record { given = given; few = few; same = same }))))) (λ l. inr (inl l)))
      (λ l. inl l)

  met_not : Differs → T (not (challenge_met expected challenge))
  met_not d = not_T (challenge_met expected challenge) (λ t. go (to_met expected challenge t) d)
    where
      go : Met expected challenge → Differs → ⊥
      go w (inl l) = let g : 1 ≤ length expected = w.given in omega arith
      go w (inr (inl l)) = let g : length expected ≤ 128 = w.few in omega arith
      go w (inr (inr n)) = n w.same

-- 51
software : (level keymint_level : ℕ) → T (not (not (either_software level keymint_level))) → (level ≡ 0) ⊎ (keymint_level ≡ 0)
unfolding either_software
software level keymint_level t = go (eqb level 0) (eqb keymint_level 0) (eqb→eq level 0) (eqb→eq keymint_level 0) t
  where
    go : (b c : Bool) → (T b → level ≡ 0) → (T c → keymint_level ≡ 0) → T (not (not (b || c))) → (level ≡ 0) ⊎ (keymint_level ≡ 0)
    go true c f g t = inl (f tt)
    go false true f g t = inr (g tt)
    go false false f g t = absurd t

is-software : (level keymint_level : ℕ) → (level ≡ 0) ⊎ (keymint_level ≡ 0) → T (not (not (either_software level keymint_level)))
unfolding either_software
is-software level keymint_level (inl e) = rw e tt
is-software level keymint_level (inr e) = rw e (go (eqb level 0))
  where
    go : (b : Bool) → T (not (not (b || true)))
    go true = tt
    go false = tt

-- 52 to 55
module _ (r : Record) where
  abbrev fields : List (FieldWith Place)
  fields = fields_of r.hardware place_at

  abbrev boot : Option (ValueWith Place)
  boot = field_value fields 704

  abbrev origin : Option (ValueWith Place)
  origin = field_value fields 702

  no_root : T (not (has_root fields)) → boot ≡ none
  unfolding has_root root_is pick
  no_root t = root-value r.hardware ∙ go (present_at r.hardware 26) (rw (root-value r.hardware) at t)
    where
      go : (b : Bool) → T (not (root_is (λ x. true) (pick b (some (trust (root_of place_at r.hardware.root))) none))) → pick b (some (trust (root_of place_at r.hardware.root))) none ≡ none
      go true t = absurd t
      go false t = refl

  root_missing : boot ≡ none → T (not (has_root fields))
  unfolding has_root root_is
  root_missing e = rw e tt

  -- of the root of trust that 52 found
  module _ (f : RootWith Place → Bool) where
    root_fails : T (has_root fields) → T (not (root_is f boot)) → RootThat r (λ root. T (not (f root)))
    unfolding has_root root_is
    root_fails k t = let w = root_found (λ x. true) boot k in (w.0, (w.1, rw w.1 at t))

    fails_root : RootThat r (λ root. T (not (f root))) → T (not (root_is f boot))
    unfolding root_is
    fails_root (root, (e, t)) = rw e t

  not_generated : T (not (generated fields)) → (origin ≡ none) ⊎ OriginThat r (λ n. n ≡ 0 → ⊥)
  unfolding generated number_is pick
  not_generated t = go (present_at r.hardware 24) (origin_value r.hardware)
    where
      go : (b : Bool) → origin ≡ pick b (some (num (get_or r.hardware.values 24 0))) none → (origin ≡ none) ⊎ OriginThat r (λ n. n ≡ 0 → ⊥)
      go true e = inr (get_or r.hardware.values 24 0, (e, not_equal (get_or r.hardware.values 24 0) 0 (rw e at t)))
      go false e = inl e

  generated_not : (origin ≡ none) ⊎ OriginThat r (λ n. n ≡ 0 → ⊥) → T (not (generated fields))
  unfolding generated number_is
  generated_not (inl e) = rw e tt
  generated_not (inr (n, (e, x))) = rw e (not_T (eqb n 0) (λ t. x (eqb→eq n 0 t)))

-- ---- the whole

exact : (r : Record) (s expected : List ℕ) → Exact (enrolled r s expected) (sentences r s expected)
unfolding enrolled judged boot_locked boot_verified
exact r s expected =
    let h = fields_of r.hardware place_at in
    let challenge = part_of s r.challenge in
    joined (well_shaped_record r) (parts_inside r (length s)) 20 _ _
    (then (well_shaped_record r && parts_inside r (length s)) 20 _ _ tt (fails_one (well_shaped_record r) (parts_inside r (length s))) (one_fails (well_shaped_record r) (parts_inside r (length s))) λ k20.
    then (challenge_met expected challenge) 50 _ _ tt (not_met expected challenge) (met_not expected challenge) λ k50.
    then (not (either_software r.attestation.level r.keymint.level)) 51 _ _ tt (software r.attestation.level r.keymint.level) (is-software r.attestation.level r.keymint.level) λ k51.
    then (has_root h) 52 _ _ tt (no_root r) (root_missing r) λ k52.
    then (boot_locked h) 53 _ _ tt (λ t. let w = root_fails r (λ x. x.locked) k52 t in (w.0, (w.1.0, false_is w.0.locked w.1.1))) (λ w. fails_root r (λ x. x.locked) (w.0, (w.1.0, is_not w.0.locked w.1.1))) λ k53.
    then (boot_verified h) 54 _ _ tt (λ t. let w = root_fails r (λ x. eqb x.state 0) k52 t in (w.0, (w.1.0, not_equal w.0.state 0 w.1.1))) (λ w. fails_root r (λ x. eqb x.state 0) (w.0, (w.1.0, not_T (eqb w.0.state 0) (λ t. w.1.1 (eqb→eq w.0.state 0 t))))) λ k54.
    then (generated h) 55 _ _ tt (not_generated r) (generated_not r) λ k55.
    nothing_more)

pub refused-exactly : RefusedExactly
refused-exactly r s expected n place =
    let w = exact r s expected in ((λ e. w.to n place e), (λ x. w.from n x.1 ∙ rw x.0 refl))
