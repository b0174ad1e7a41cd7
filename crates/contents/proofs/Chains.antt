-- A loop over a chain: what is gathered so far, followed by what the definition reads from here, is what it reads of the
-- whole (`Ahead`). One law each for the start, a refusal, one more and the end. Assumes nothing.
use mathlib.Core.Path.{◌≡◌, refl, sym, ap, ◌∙◌}
use mathlib.Core.List.{List, [], ◌∷◌, ◌++◌, append_assoc, append-nil}
use Prim.Native.Nat.{ℕ, zero, suc, ◌-◌, ◌<◌, ◌≤◌}
use native.Mathlib.Omega.{arith}
use lib.ListN.{length}
use lib.Seq.{slice, slice_empty, length-slice}
use Rattle.answer.specs.Answer.{Answer, got, refused, bind}
use Rattle.codec.specs.Octets.{Taken, taken}
use Rattle.codec.specs.Element.{chain_fuel, chain}

-- what was gathered, before what is read
abbrev pub prepend : {A : Type 0} → List A → Answer (List A) → Answer (List A)
prepend xs (got ys) = got (xs ++ ys)
prepend xs (refused k p) = refused k p

prepend_none : {A : Type 0} (M : Answer (List A)) → prepend [] M ≡ M
prepend_none (got ys) = refl
prepend_none (refused k p) = refl

prepend_one : {A : Type 0} (xs : List A) (a : A) (M : Answer (List A)) → prepend (xs ++ (a ∷ [])) M ≡ prepend xs (bind M (λ l. got (a ∷ l)))
unfolding bind
prepend_one xs a (got ys) = rw append_assoc
prepend_one xs a (refused k p) = refl

module _ {S A : Type 0} (rd : S → ℕ → List ℕ → Answer (Taken A)) (after : S → A → S) where
  step : (f : ℕ) (s : S) (p : ℕ) (bs : List ℕ) → 0 < length bs
      → chain_fuel rd after (suc f) s p bs ≡ bind (rd s p bs) (λ w. bind (chain_fuel rd after f (after s w.val) w.next w.rest) (λ l. got (w.val ∷ l)))
  unfolding chain_fuel
  step f s p [] h = absurd (omega arith)
  step f s p (x ∷ xs) h = refl

  none : (f : ℕ) (s : S) (p : ℕ) → chain_fuel rd after f s p [] ≡ got []
  unfolding chain_fuel
  none zero s p = refl
  none (suc f) s p = refl

  -- `done` is gathered, and the state and the place are where the loop stands
  pub record Ahead (bs : List ℕ) (end : ℕ) (whole : Answer (List A)) (done : List A) (st : S) (p : ℕ) : Type 0 where
    pub fuel : ℕ
    pub enough : end - p ≤ fuel
    pub left : prepend done (chain_fuel rd after fuel st p (slice p end bs)) ≡ whole

  module _ (bs : List ℕ) (end : ℕ) (fit : end ≤ length bs) where
    pub ahead_start : (st : S) (at : ℕ) → Ahead bs end (chain rd after st at (slice at end bs)) [] st at
    unfolding chain
    ahead_start st at = record {
      fuel = length (slice at end bs);
      enough = omega (arith, length-slice at end bs fit);
      left = prepend_none _;
    }

    module _ (whole : Answer (List A)) (done : List A) (st : S) (p : ℕ) where
      no_turn : (k q f : ℕ) → end - p ≤ f → p < end → rd st p (slice p end bs) ≡ refused k q → chain_fuel rd after f st p (slice p end bs) ≡ refused k q
      unfolding bind
      no_turn k q zero e h w = absurd (omega arith)
      no_turn k q (suc f) e h w = step f st p (slice p end bs) (omega (arith, length-slice p end bs fit)) ∙ rw w refl

      pub ahead_refused : Ahead bs end whole done st p → (k q : ℕ) → p < end → rd st p (slice p end bs) ≡ refused k q → refused k q ≡ whole
      ahead_refused a k q h w = ap (prepend done) (sym (no_turn k q a.fuel a.enough h w)) ∙ a.left

      go : (x : ℕ) (a : A) (f : ℕ) → end - p ≤ f → p < end → p < x → prepend done (chain_fuel rd after f st p (slice p end bs)) ≡ whole
          → rd st p (slice p end bs) ≡ got (taken a x (slice x end bs)) → Ahead bs end whole (done ++ (a ∷ [])) (after st a) x
      unfolding bind
      go x a zero e h l z w = absurd (omega arith)
      go x a (suc f) e h l z w =
          let rest : Answer (List A) = chain_fuel rd after f (after st a) x (slice x end bs) in
          let turn : chain_fuel rd after (suc f) st p (slice p end bs) ≡ bind rest (λ l. got (a ∷ l)) =
          step f st p (slice p end bs) (omega (arith, length-slice p end bs fit)) ∙ rw w refl in
          record {
            fuel = f;
            enough = omega arith;
            left = prepend_one done a rest ∙ (ap (prepend done) (sym turn) ∙ z);
          }

      pub ahead_more : Ahead bs end whole done st p → (x : ℕ) (a : A) → p < end → p < x → rd st p (slice p end bs) ≡ got (taken a x (slice x end bs)) → Ahead bs end whole (done ++ (a ∷ [])) (after st a) x
      ahead_more z x a h l w = go x a z.fuel z.enough h l z.left w

      pub ahead_end : Ahead bs end whole done st p → p ≤ end → end ≤ p → got done ≡ whole
      ahead_end a h l =
          let e : p ≡ end = omega arith in
          let o : slice p end bs ≡ [] = rw e (slice_empty end bs) in
          ap got (sym (append-nil done)) ∙ (rw (o, none) at a.left)
