-- One after the other to the end, each good at the state before it: the law of `chain`, by one list induction. It serves
-- fields in ascending number and members in ascending order. Assumes nothing.
use mathlib.Core.Path.{◌≡◌, refl, ◌∙◌}
use mathlib.Core.Bool.{Bool}
use mathlib.Core.List.{List, [], ◌∷◌, ◌++◌}
use Prim.Native.Nat.{ℕ, zero, suc, ◌+◌, ◌<◌, ◌≤◌}
use native.Mathlib.Omega.{arith}
use lib.ListN.{length, length-append}
use lib.Dec.{T}
use Rattle.answer.specs.Answer.{Answer, got, bind}
use Rattle.answer.proofs.Logic.{and_left, and_right, and_both}
use Rattle.answer.proofs.Answer.{got_inj, refused-got, bind-got, bind_case}
use Rattle.codec.specs.Octets.{Octets, Taken}
use Rattle.codec.specs.Element.{chain_fuel, chain, chain_octets, chain_good}
use Rattle.codec.proofs.Octets.{octets_right}
use Rattle.codec.specs.Codec.{Whole, Front}

module _ {S A : Type 0} (rd : S → ℕ → List ℕ → Answer (Taken A)) (after : S → A → S) (enc : A → List ℕ) (good : S → A → Bool)
    (laws : (s : S) → Front enc (good s) (rd s)) (long : (a : A) → 0 < length (enc a)) where
  step : (f : ℕ) (s : S) (p : ℕ) (bs : List ℕ) → 0 < length bs
      → chain_fuel rd after (suc f) s p bs ≡ bind (rd s p bs) (λ w. bind (chain_fuel rd after f (after s w.val) w.next w.rest) (λ l. got (w.val ∷ l)))
  unfolding chain_fuel
  step f s p [] h = absurd (omega arith)
  step f s p (x ∷ xs) h = refl

  back : (f : ℕ) (s : S) (p : ℕ) (l : List A) → length (chain_octets enc l) ≤ f → T (chain_good good after s l) → chain_fuel rd after f s p (chain_octets enc l) ≡ got l
  unfolding chain_fuel
  back zero s p [] h t = refl
  back (suc f) s p [] h t = refl
  back zero s p (a ∷ l) h t = absurd (omega (arith, long a, length-append (enc a) (chain_octets enc l)))
  back (suc f) s p (a ∷ l) h t =
      let n = length-append (enc a) (chain_octets enc l) in
      let q = long a in
      step f s p (enc a ++ chain_octets enc l) (omega arith)
      ∙ bind-got _ _ _ ((laws s).back p a (chain_octets enc l) (and_left (good s a) _ t))
      ∙ bind-got _ _ _ (back f (after s a) (p + length (enc a)) l (omega arith) (and_right (good s a) _ t))

  sound : (f : ℕ) (s : S) (p : ℕ) (bs : List ℕ) (l : List A) → Octets bs → chain_fuel rd after f s p bs ≡ got l → T (chain_good good after s l) × (chain_octets enc l ≡ bs)
  unfolding chain_fuel
  sound zero s p [] l o e = rw (← got_inj e) (tt, refl)
  sound (suc f) s p [] l o e = rw (← got_inj e) (tt, refl)
  sound zero s p (x ∷ xs) l o e = absurd (refused-got e)
  sound (suc f) s p (x ∷ xs) l o e =
      bind_case _ _ e λ w ew e₁.
      bind_case _ _ e₁ λ l' el e₂.
      let k = (laws s).sound p (x ∷ xs) w o ew in
      let o' : Octets w.rest = octets_right (enc w.val) w.rest (rw k.1 o) in
      let ih = sound f (after s w.val) w.next w.rest l' o' el in
      rw (← got_inj e₂) (and_both (good s w.val) _ k.0 ih.0, rw ih.1 k.1)

  pub chain_laws : (s : S) → Whole (chain_octets enc) (chain_good good after s) (λ p q bs. chain rd after s q bs)
  unfolding chain
  chain_laws s = record {
    back = λ p q l t. back (length (chain_octets enc l)) s q l (omega arith) t;
    sound = λ p q bs l o e. sound (length bs) s q bs l o e;
  }
