-- What is read of octets that stand in s has a property, where each content has it: one law a combinator. Assumes nothing.
use mathlib.Core.Path.{◌≡◌, refl, ◌∙◌}
use mathlib.Core.Bool.{Bool}
use mathlib.Core.List.{List, [], ◌∷◌}
use Prim.Native.Nat.{ℕ, zero, suc}
use lib.ListN.{length, take}
use Rattle.answer.specs.Answer.{Answer, got, map_answer}
use Rattle.answer.proofs.Answer.{got_inj, refused-got, guard_case, bind_case}
use Rattle.codec.specs.Octets.{Taken, map_taken}
use Rattle.codec.specs.Header.{Identifier}
use Rattle.codec.specs.Element.{element, tagged, exactly, both, chain_fuel, chain, under}
use Rattle.codec.specs.Codec.{Front}
use Rattle.codec.proofs.Follow.{At, at_take, at_header, at_next, Follows}

-- all of a list
abbrev pub All : {A : Type 0} → (A → Type 0) → List A → Type 0
All P [] = Unit {0}
All P (a ∷ l) = P a × All P l

module _ (s : List ℕ) where
  abbrev pub Keeps : {A : Type 0} → (A → Type 0) → (ℕ → List ℕ → Answer (Taken A)) → Type 0
  Keeps {A} P rd = (p : ℕ) (bs : List ℕ) (w : Taken A) → At s p bs → rd p bs ≡ got w → P w.val

  abbrev pub KeepsIn : {A : Type 0} → (A → Type 0) → (ℕ → ℕ → List ℕ → Answer A) → Type 0
  KeepsIn {A} P dec = (p q : ℕ) (bs : List ℕ) (a : A) → At s q bs → dec p q bs ≡ got a → P a

  -- what is left stands in s too
  abbrev pub Onward : {A : Type 0} → (ℕ → List ℕ → Answer (Taken A)) → Type 0
  Onward {A} rd = (p : ℕ) (bs : List ℕ) (w : Taken A) → At s p bs → rd p bs ≡ got w → At s w.next w.rest

  -- as of a reader that has a codec's laws, and of one that it follows
  pub onward : {A B : Type 0} (f : A → B) (rd : ℕ → List ℕ → Answer (Taken A)) (rd' : ℕ → List ℕ → Answer (Taken B)) {enc : B → List ℕ} {good : B → Bool} → Front enc good rd' → Follows s f rd rd' → Onward rd
  unfolding map_answer
  onward f rd rd' laws same p bs w a e = at_next s laws p bs (map_taken f w) a (same p bs a ∙ rw e refl)

  module _ {A : Type 0} (P : A → Type 0) where
    pub element_keeps : (missing : ℕ) (dec : Identifier → ℕ → ℕ → List ℕ → Answer A) → ((i : Identifier) → KeepsIn P (dec i)) → Keeps P (element missing dec)
    unfolding element
    element_keeps missing dec k p bs w a e =
        guard_case _ _ _ _ e λ t e₁.
        bind_case _ _ e₁ λ h eh e₂.
        bind_case _ _ e₂ λ x ex e₃.
        rw (← got_inj e₃) (k h.val.id p h.next (take h.val.size h.rest) x (at_take s h.next h.val.size h.rest (at_header s p bs h a eh)) ex)

    pub tagged_keeps : (wrong : ℕ) (i : Identifier) (dec : ℕ → ℕ → List ℕ → Answer A) → KeepsIn P dec → Keeps P (tagged wrong i dec)
    unfolding tagged
    tagged_keeps wrong i dec k = element_keeps wrong _ (λ j p q bs x a e. guard_case _ _ _ _ e λ t u. k p q bs x a u)

    pub exactly_keeps : (extra : ℕ) (rd : ℕ → List ℕ → Answer (Taken A)) → Keeps P rd → KeepsIn P (λ p q bs. exactly extra rd q bs)
    unfolding exactly
    exactly_keeps extra rd k p q bs x a e =
        bind_case _ _ e λ w ew e₁.
        guard_case _ _ _ _ e₁ λ t e₂.
        rw (← got_inj e₂) (k q bs w a ew)

    pub under_keeps : {B : Type 0} (Q : B → Type 0) (inj : A → B) → ((a : A) → P a → Q (inj a)) → (dec : ℕ → ℕ → List ℕ → Answer A) → KeepsIn P dec → KeepsIn Q (under inj dec)
    unfolding under
    under_keeps Q inj to dec k p q bs y a e = bind_case _ _ e λ x ex e₁. rw (← got_inj e₁) (to x (k p q bs x a ex))

  module _ {A B : Type 0} (P : A → Type 0) (Q : B → Type 0) (rd : ℕ → List ℕ → Answer (Taken A)) (next : A → ℕ → List ℕ → Answer (Taken B)) where
    pub both_keeps : Onward rd → Keeps P rd → ((a : A) → Keeps Q (next a)) → Keeps (λ (c : A × B). P c.0 × Q c.1) (both rd next)
    unfolding both
    both_keeps o k l p bs w a e =
        bind_case _ _ e λ x ex e₁.
        bind_case _ _ e₁ λ y ey e₂.
        rw (← got_inj e₂) (k p bs x a ex, l x.val x.next x.rest y (o p bs x a ex) ey)

  module _ {S A : Type 0} (P : A → Type 0) (rd : S → ℕ → List ℕ → Answer (Taken A)) (after : S → A → S) (o : (t : S) → Onward (rd t)) (k : (t : S) → Keeps P (rd t)) where
    turns : (f : ℕ) (t : S) (p : ℕ) (bs : List ℕ) (l : List A) → At s p bs → chain_fuel rd after f t p bs ≡ got l → All P l
    unfolding chain_fuel
    turns zero t p [] l a e = rw (← got_inj e) tt
    turns zero t p (x ∷ xs) l a e = absurd (refused-got e)
    turns (suc f) t p [] l a e = rw (← got_inj e) tt
    turns (suc f) t p (x ∷ xs) l a e =
        bind_case _ _ e λ w ew e₁.
        bind_case _ _ e₁ λ m em e₂.
        rw (← got_inj e₂) (k t p (x ∷ xs) w a ew, turns f (after t w.val) w.next w.rest m (o t p (x ∷ xs) w a ew) em)

    pub chain_keeps : (t : S) → KeepsIn (All P) (λ p q bs. chain rd after t q bs)
    unfolding chain
    chain_keeps t p q bs l a e = turns (length bs) t q bs l a e
