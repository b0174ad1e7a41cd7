-- The algorithm that the lists agree on, and the shapes of a use: what the checks 30 and 32 to 34 say together is
-- document 01's list of shapes, by cases. Assumes nothing.
use mathlib.Core.Path.{◌≡◌, refl, sym, ◌∙◌}
use mathlib.Core.Logic.{◌⊎◌, inl, inr, ⊎_elim}
use mathlib.Core.Bool.{Bool, true, false, ◌&&◌, ◌||◌}
use mathlib.Core.Option.{Option, none, some}
use Prim.Native.Nat.{ℕ, ◌≤◌}
use native.Mathlib.Omega.{arith}
use lib.Dec.{T, eqb, leb}
use borrow.Author.Tests.{eq-eqb}
use Rattle.answer.specs.Answer.{pick}
use Rattle.checks.specs.Checks.{agreed, padding_fits, digest_fits}
use Rattle.ruling.specs.Allowed.{Held, EachHeld, Shape, rsa_sign, rsa_decrypt, ec_sign, agree_key, attest_key, Signing, Deciphering}
use Rattle.ruling.specs.Refuses.{KnownPurpose, Fits}
use Rattle.ruling.proofs.Means.{Means, equal, at_most, both, one_of}

-- ---- the algorithm

some_inj : {a b : ℕ} → some a ≡ some b → a ≡ b
some_inj e = cc

none_some : {a : ℕ} → none ≡ some a → ⊥
none_some e = let z : ◌≡◌ {A = ℕ} 0 1 = cc in omega arith

-- it is what each list that has one says, where it is not 0
pub agreed-says : (s h : Option ℕ) → (agreed s h ≡ 0 → ⊥) → Held s h × EachHeld s h (λ a. a ≡ agreed s h)
unfolding agreed pick
agreed-says none none n = absurd (n refl)
agreed-says none (some b) n = (inr (b, refl), ((λ a e. absurd (none_some e)), (λ a e. sym (some_inj e))))
agreed-says (some a) none n = (inl (a, refl), ((λ b e. sym (some_inj e)), (λ b e. absurd (none_some e))))
agreed-says (some a) (some b) n = go (eqb a b) refl n
  where
    go : (x : Bool) → eqb a b ≡ x → (pick x a 0 ≡ 0 → ⊥) → Held (some a) (some b) × EachHeld (some a) (some b) (λ c. c ≡ pick x a 0)
    go true e n = (inl (a, refl), ((λ c f. sym (some_inj f)), (λ c f. sym (some_inj f) ∙ sym ((equal a b).to (rw e tt)))))
    go false e n = absurd (n refl)

pub agreed-is : (s h : Option ℕ) (c : ℕ) → Held s h → EachHeld s h (λ a. a ≡ c) → agreed s h ≡ c
unfolding agreed pick
agreed-is none none c (inl x) e = absurd (none_some x.1)
agreed-is none none c (inr x) e = absurd (none_some x.1)
agreed-is none (some b) c x e = e.1 b refl
agreed-is (some a) none c x e = e.0 a refl
agreed-is (some a) (some b) c x e = rw (eq-eqb a b (e.0 a refl ∙ sym (e.1 b refl))) (e.0 a refl)

-- ---- from the checks to the shape

module _ (p a m d : ℕ) (u : (p ≡ 1) ⊎ (p ≡ 2) → T (padding_fits p a m)) (v : (p ≡ 2) ⊎ ((p ≡ 1) × (m ≡ 2)) → T (digest_fits a m d)) where
  one_to_six : Means (leb 1 d && leb d 6) ((1 ≤ d) × (d ≤ 6))
  one_to_six = both (at_most 1 d) (at_most d 6)

  decrypt : a ≡ 1 → p ≡ 1 → Shape p a m d
  unfolding padding_fits digest_fits pick
  decrypt e f =
      let w : T (eqb m 1 || (eqb m 2 || eqb m 4)) = rw f at (u (inl f)) in
      ⊎_elim (λ g. rsa_decrypt f e (inl g))
      (⊎_elim (λ (g : m ≡ 2). let x : T (leb 1 d && leb d 6) = rw (e, g) at (v (inr (f, g))) in rsa_decrypt f e (inr (inr (g, one_to_six.to x)))) (λ g. rsa_decrypt f e (inr (inl g))))
      ((one_of (equal m 1) (one_of (equal m 2) (equal m 4))).to w)

  sign_rsa : a ≡ 1 → p ≡ 2 → Shape p a m d
  unfolding padding_fits digest_fits pick
  sign_rsa e f =
      let w : T (eqb m 1 || (eqb m 3 || eqb m 5)) = rw (f, e) at (u (inr f)) in
      ⊎_elim (λ (g : m ≡ 1). let x : T (eqb d 0) = rw (e, g) at (v (inl f)) in rsa_sign f e (inl (g, (equal d 0).to x)))
      (⊎_elim (λ (g : m ≡ 3). let x : T (leb 1 d && leb d 6) = rw (e, g) at (v (inl f)) in rsa_sign f e (inr (inl (g, one_to_six.to x))))
      (λ (g : m ≡ 5). let x : T (leb d 6) = rw (e, g) at (v (inl f)) in rsa_sign f e (inr (inr (g, (at_most d 6).to x)))))
      ((one_of (equal m 1) (one_of (equal m 3) (equal m 5))).to w)

  sign_ec : a ≡ 3 → p ≡ 2 → Shape p a m d
  unfolding padding_fits digest_fits pick
  sign_ec e f =
      let w : T (eqb m 1) = rw (f, e) at (u (inr f)) in
      let x : T (leb d 6) = rw e at (v (inl f)) in
      ec_sign f e ((equal m 1).to w) ((at_most d 6).to x)

  pub shape_of : Fits p a → Shape p a m d
  shape_of (inl (e, inl f)) = decrypt e f
  shape_of (inl (e, inr (inl f))) = sign_rsa e f
  shape_of (inl (e, inr (inr f))) = attest_key f (inl e)
  shape_of (inr (e, inl f)) = sign_ec e f
  shape_of (inr (e, inr (inl f))) = agree_key f e
  shape_of (inr (e, inr (inr f))) = attest_key f (inr e)

-- ---- from the shape to the checks

module _ (p a m d : ℕ) where
  pub shape_known : Shape p a m d → KnownPurpose p
  shape_known (rsa_sign f e x) = inr (inl f)
  shape_known (rsa_decrypt f e x) = inl f
  shape_known (ec_sign f e x y) = inr (inl f)
  shape_known (agree_key f e) = inr (inr (inl f))
  shape_known (attest_key f e) = inr (inr (inr f))

  pub shape-fits : Shape p a m d → Fits p a
  shape-fits (rsa_sign f e x) = inl (e, inr (inl f))
  shape-fits (rsa_decrypt f e x) = inl (e, inl f)
  shape-fits (ec_sign f e x y) = inr (e, inl f)
  shape-fits (agree_key f e) = inr (e, inr (inl f))
  shape-fits (attest_key f (inl e)) = inl (e, inr (inr f))
  shape-fits (attest_key f (inr e)) = inr (e, inr (inr f))

  pub shape-padding : Shape p a m d → (p ≡ 1) ⊎ (p ≡ 2) → T (padding_fits p a m)
  unfolding padding_fits pick
  shape-padding (rsa_sign f e (inl (g, x))) l = rw (f, e, g) tt
  shape-padding (rsa_sign f e (inr (inl (g, x)))) l = rw (f, e, g) tt
  shape-padding (rsa_sign f e (inr (inr (g, x)))) l = rw (f, e, g) tt
  shape-padding (rsa_decrypt f e (inl g)) l = rw (f, g) tt
  shape-padding (rsa_decrypt f e (inr (inl g))) l = rw (f, g) tt
  shape-padding (rsa_decrypt f e (inr (inr (g, x)))) l = rw (f, g) tt
  shape-padding (ec_sign f e g x) l = rw (f, e, g) tt
  shape-padding (agree_key f e) l = absurd (⊎_elim (λ x. omega arith) (λ x. omega arith) l)
  shape-padding (attest_key f e) l = absurd (⊎_elim (λ x. omega arith) (λ x. omega arith) l)

  pub shape-digest : Shape p a m d → (p ≡ 2) ⊎ ((p ≡ 1) × (m ≡ 2)) → T (digest_fits a m d)
  unfolding digest_fits pick
  shape-digest (rsa_sign f e (inl (g, x))) l = rw (e, g, x) tt
  shape-digest (rsa_sign f e (inr (inl (g, x)))) l = rw (e, g) ((both (at_most 1 d) (at_most d 6)).from x)
  shape-digest (rsa_sign f e (inr (inr (g, x)))) l = rw (e, g) ((at_most d 6).from x)
  shape-digest (rsa_decrypt f e (inl g)) l = absurd (⊎_elim (λ x. omega arith) (λ x. omega arith) l)
  shape-digest (rsa_decrypt f e (inr (inl g))) l = absurd (⊎_elim (λ x. omega arith) (λ x. omega arith) l)
  shape-digest (rsa_decrypt f e (inr (inr (g, x)))) l = rw (e, g) ((both (at_most 1 d) (at_most d 6)).from x)
  shape-digest (ec_sign f e g x) l = rw e ((at_most d 6).from x)
  shape-digest (agree_key f e) l = absurd (⊎_elim (λ x. omega arith) (λ x. omega arith) l)
  shape-digest (attest_key f e) l = absurd (⊎_elim (λ x. omega arith) (λ x. omega arith) l)

pub known_side : (p : ℕ) → KnownPurpose p → Signing p ⊎ Deciphering p
known_side p (inl e) = inr (inl e)
known_side p (inr (inl e)) = inl (inl e)
known_side p (inr (inr (inl e))) = inr (inr e)
known_side p (inr (inr (inr e))) = inl (inr e)
