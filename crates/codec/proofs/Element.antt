-- One law a combinator: an element whose content has a codec, an element of one identifier, exactly one, one and then
-- another. Assumes nothing.
use mathlib.Core.Path.{◌≡◌, refl, sym, ap, ◌∙◌}
use mathlib.Core.Bool.{Bool, true, false, ◌&&◌}
use mathlib.Core.List.{List, [], ◌∷◌, ◌++◌, append_assoc, append-nil}
use Prim.Native.Nat.{ℕ, suc, ◌+◌, ◌*◌, ◌/◌, ◌%◌, ◌<◌}
use native.Mathlib.Omega.{arith}
use lib.ListN.{length, take, drop, length-append, take-append-drop}
use lib.Seq.{take-append_seam, drop-append_seam, length-take-le}
use lib.Dec.{T, ltb, eqb, lt→ltb, eqb→eq, eqb_refl}
use Rattle.answer.specs.Answer.{Answer, got, guard, pick}
use Rattle.answer.proofs.Logic.{and_left, and_right, and_both}
use Rattle.answer.proofs.Answer.{guard_yes, guard_case, got_inj, bind-got, bind_case}
use Rattle.codec.specs.Octets.{Octets, Taken, taken}
use Rattle.codec.specs.Shortest.{length_octets}
use Rattle.codec.specs.Header.{Identifier, header, read_header, identifier_octets, identifier_good, length_good, header_octets, element_octets}
use Rattle.codec.specs.Element.{element, tagged, exactly, both, under}
use Rattle.codec.proofs.Octets.{octets-left, octets_right, same_taken}
use Rattle.codec.specs.Codec.{Whole, Front, Inside}
use Rattle.codec.proofs.Codec.{regood}
use Rattle.codec.proofs.Header.{same-identifier, header-back, header-sound}

-- ---- an element's octets

-- the header of an element, whatever follows it
pub element-header : (p : ℕ) (i : Identifier) (c r : List ℕ) → T (identifier_good i) → T (length_good (length c))
    → read_header p (element_octets i c ++ r) ≡ got (taken (header i (length c)) (p + length (header_octets i (length c))) (c ++ r))
unfolding element_octets
element-header p i c r t u = rw (append_assoc (header_octets i (length c)) c r) (header-back p i (length c) (c ++ r) t u (omega (arith, length-append c r)))

pub element-length : (i : Identifier) (c : List ℕ) → length (element_octets i c) ≡ length (header_octets i (length c)) + length c
unfolding element_octets
element-length i c = length-append (header_octets i (length c)) c

pick-long : (a b : Bool) (x y z : ℕ) (xs ys : List ℕ) → 0 < length (pick a (x ∷ []) (pick b (y ∷ xs) (z ∷ ys)))
unfolding pick
pick-long true b x y z xs ys = omega arith
pick-long false true x y z xs ys = omega arith
pick-long false false x y z xs ys = omega arith

pub header-long : (i : Identifier) (n : ℕ) → 0 < length (header_octets i n)
unfolding header_octets identifier_octets
header-long i n = omega (arith, length-append (identifier_octets i) (length_octets n), pick-long (ltb i.number 31) (ltb i.number 128) (i.form * 32 + i.number) (i.form * 32 + 31) (i.form * 32 + 31) (i.number ∷ []) ((128 + i.number / 128) ∷ i.number % 128 ∷ []))

pub element-long : (i : Identifier) (c : List ℕ) → 0 < length (element_octets i c)
element-long i c = omega (arith, element-length i c, header-long i (length c))

pub element-whole : (i : Identifier) (c : List ℕ) (n : ℕ) (r : List ℕ) → c ≡ take n r → length c ≡ n → element_octets i c ++ drop n r ≡ header_octets i n ++ r
unfolding element_octets
element-whole i c n r e q = rw (append_assoc, q, e, take-append-drop)

-- ---- an element whose content has a codec

module _ {A : Type 0} {id_of : A → Identifier} {enc : A → List ℕ} {good : A → Bool} {dec : Identifier → ℕ → ℕ → List ℕ → Answer A} (missing : ℕ) (laws : Inside id_of enc good dec) where
  pub element_laws : Front (λ a. element_octets (id_of a) (enc a)) (λ a. good a && (identifier_good (id_of a) && length_good (length (enc a)))) (element missing dec)
  unfolding element
  element_laws = record {
    back = λ p a r t.
        let u = and_right (good a) _ t in
        let h = element-header p (id_of a) (enc a) r (and_left (identifier_good (id_of a)) _ u) (and_right (identifier_good (id_of a)) _ u) in
        let q : ℕ = p + length (header_octets (id_of a) (length (enc a))) in
        let d : dec (id_of a) p q (take (length (enc a)) (enc a ++ r)) ≡ got a = rw take-append_seam (laws.back p q a (and_left (good a) _ t)) in
        guard_yes _ _ _ _ (lt→ltb 0 (length (element_octets (id_of a) (enc a) ++ r)) (omega (arith, element-long (id_of a) (enc a), length-append (element_octets (id_of a) (enc a)) r)))
        ∙ bind-got _ _ _ h
        ∙ bind-got _ _ _ d
        ∙ rw drop-append_seam (same_taken a a _ _ r refl (omega (arith, element-length (id_of a) (enc a))));
    sound = λ p bs w o e.
        guard_case _ _ _ _ e λ z e₀.
        bind_case _ _ e₀ λ h eh e₁.
        bind_case _ _ e₁ λ a ea e₂.
        let s = header-sound p bs h o eh in
        let c : List ℕ = take h.val.size h.rest in
        let o₂ : Octets c = octets-left c (drop h.val.size h.rest) (rw take-append-drop s.octets) in
        let d = laws.sound h.val.id p h.next c a o₂ ea in
        let n : length (enc a) ≡ h.val.size = ap length d.2 ∙ length-take-le h.val.size h.rest s.inside in
        rw (← got_inj e₂) (
          and_both (good a) _ d.0 (and_both (identifier_good (id_of a)) _ (rw d.1 s.good) (rw n s.small)),
          rw d.1 (element-whole h.val.id (enc a) h.val.size h.rest d.2 n ∙ s.whole),
        );
  }

-- ---- an element of one identifier

module _ {A : Type 0} (wrong : ℕ) (i : Identifier) (g : T (identifier_good i)) {enc : A → List ℕ} {good : A → Bool} {dec : ℕ → ℕ → List ℕ → Answer A} (laws : Whole enc good dec) where
  held : Inside (λ a. i) enc good (λ j p q bs. guard (eqb j.form i.form && eqb j.number i.number) wrong p (dec p q bs))
  held = record {
    back = λ p q a t. guard_yes _ _ _ _ (and_both (eqb i.form i.form) _ (eqb_refl i.form) (eqb_refl i.number)) ∙ laws.back p q a t;
    sound = λ j p q bs a o e.
        guard_case _ _ _ _ e λ t e₁.
        let s = laws.sound p q bs a o e₁ in
        let same = eqb→eq j.number i.number (and_right (eqb j.form i.form) _ t) in
        (s.0, sym (same-identifier _ _ _ _ (eqb→eq j.form i.form (and_left (eqb j.form i.form) _ t)) same), s.1);
  }

  pub tagged_laws : Front (λ a. element_octets i (enc a)) (λ a. good a && length_good (length (enc a))) (tagged wrong i dec)
  unfolding tagged
  tagged_laws =
      regood (element_laws wrong held) (λ a. good a && length_good (length (enc a)))
      (λ a t. and_both (good a) _ (and_left (good a) _ t) (and_right (identifier_good i) _ (and_right (good a) (identifier_good i && length_good (length (enc a))) t)))
      (λ a t. and_both (good a) (identifier_good i && length_good (length (enc a))) (and_left (good a) _ t) (and_both (identifier_good i) (length_good (length (enc a))) g (and_right (good a) _ t)))

-- ---- exactly one

pub no_octets : (r : List ℕ) → T (eqb (length r) 0) → r ≡ []
no_octets [] t = refl
no_octets (x ∷ r) t = absurd (omega (arith, eqb→eq (suc (length r)) 0 t))

module _ {A : Type 0} (extra : ℕ) {enc : A → List ℕ} {good : A → Bool} {rd : ℕ → List ℕ → Answer (Taken A)} (laws : Front enc good rd) where
  exactly-back : (p : ℕ) (a : A) → T (good a) → exactly extra rd p (enc a) ≡ got a
  unfolding exactly guard
  exactly-back p a h = bind-got _ _ _ (rw append-nil at (laws.back p a [] h))

  exactly-sound : (p : ℕ) (bs : List ℕ) (a : A) → Octets bs → exactly extra rd p bs ≡ got a → T (good a) × (enc a ≡ bs)
  unfolding exactly
  exactly-sound p bs a o e =
      bind_case _ _ e λ w ew e₁.
      guard_case _ _ _ _ e₁ λ h e₂.
      let s = laws.sound p bs w o ew in
      let n : w.rest ≡ [] = no_octets w.rest h in
      rw (← got_inj e₂) (s.0, rw append-nil at (rw n at s.1))

  pub exactly_laws : Whole enc good (λ p q bs. exactly extra rd q bs)
  exactly_laws = record { back = λ p q a t. exactly-back q a t; sound = λ p q bs a o e. exactly-sound q bs a o e }

-- ---- one and then another

module _ {A B : Type 0} {enc : A → List ℕ} {good : A → Bool} {rd : ℕ → List ℕ → Answer (Taken A)}
    {enc' : A → B → List ℕ} {good' : A → B → Bool} {rd' : A → ℕ → List ℕ → Answer (Taken B)}
    (laws : Front enc good rd) (laws' : (a : A) → Front (enc' a) (good' a) (rd' a)) where
  pub both_laws : Front (λ (c : A × B). enc c.0 ++ enc' c.0 c.1) (λ c. good c.0 && good' c.0 c.1) (both rd rd')
  unfolding both
  both_laws = record {
    back = λ p c r t.
        let a = c.0 in
        let b = c.1 in
        rw (append_assoc (enc a) (enc' a b) r)
        (bind-got _ _ _ (laws.back p a (enc' a b ++ r) (and_left (good a) _ t))
        ∙ bind-got _ _ _ ((laws' a).back (p + length (enc a)) b r (and_right (good a) _ t))
        ∙ same_taken c c _ _ r refl (omega (arith, length-append (enc a) (enc' a b))));
    sound = λ p bs w o e.
        bind_case _ _ e λ a ea e₁.
        bind_case _ _ e₁ λ b eb e₂.
        let s = laws.sound p bs a o ea in
        let o' : Octets a.rest = octets_right (enc a.val) a.rest (rw s.1 o) in
        let k = (laws' a.val).sound a.next a.rest b o' eb in
        rw (← got_inj e₂) (and_both (good a.val) _ s.0 k.0, rw (append_assoc, k.1) s.1);
  }

-- ---- a value under a constructor

module _ {A W : Type 0} (inj : A → W) (encW : W → List ℕ) (goodW : W → Bool) {enc : A → List ℕ} {good : A → Bool} {dec : ℕ → ℕ → List ℕ → Answer A}
    (laws : Whole enc good dec) (same : (a : A) → encW (inj a) ≡ enc a) (to : (a : A) → T (good a) → T (goodW (inj a)))
    (un : (v : W) → T (goodW v) → (a : A) × (inj a ≡ v) × T (good a)) where
  pub under_laws : Whole encW goodW (under inj dec)
  unfolding under
  under_laws = record {
    back = λ p q v t.
        let u = un v t in
        rw (← u.1) (rw (same u.0) (bind-got _ _ _ (laws.back p q u.0 u.2)));
    sound = λ p q bs v o e.
        bind_case _ _ e λ a ea e₁.
        let s = laws.sound p q bs a o ea in
        rw (← got_inj e₁) (to a s.0, same a ∙ s.1);
  }
