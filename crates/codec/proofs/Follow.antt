-- Two readers over the same octets s that differ only in what they make of a content: where one gives a value, the other
-- gives its image, and both refuse alike (`Follows`). One law a combinator. Assumes nothing.
use mathlib.Core.Path.{◌≡◌, refl, sym, ap, ◌∙◌}
use mathlib.Core.Bool.{Bool, true, false, ◌&&◌}
use mathlib.Core.List.{List, [], ◌∷◌, ◌++◌, map, append_assoc, append-nil}
use Prim.Native.Nat.{ℕ, zero, suc, ◌+◌}
use native.Mathlib.Omega.{arith}
use lib.Dec.{ltb, eqb}
use lib.ListN.{length, take, drop, length-append, take-append-drop}
use lib.Seq.{take-append_seam, drop-append_seam}
use Rattle.answer.specs.Answer.{Answer, got, refused, guard, bind, map_answer}
use Rattle.answer.proofs.Answer.{got_inj}
use Rattle.codec.specs.Octets.{Octets, Taken, taken, map_taken}
use Rattle.codec.specs.Header.{Identifier, Header, read_header, header_octets}
use Rattle.codec.specs.Element.{element, tagged, exactly, both, chain_fuel, chain, under}
use Rattle.codec.proofs.Octets.{octets-left, octets_right}
use Rattle.codec.specs.Codec.{Front}
use Rattle.codec.proofs.Header.{header-sound, header-next}

-- the octets bs stand at p in s
pub record At (s : List ℕ) (p : ℕ) (bs : List ℕ) : Type 0 where
  pub before : List ℕ
  pub after : List ℕ
  pub whole : before ++ (bs ++ after) ≡ s
  pub start : length before ≡ p
  pub octets : Octets bs

pub guarded : {C D : Type 0} (g : C → D) (b : Bool) (k p : ℕ) (M : Answer C) (N : Answer D) → N ≡ map_answer g M → guard b k p N ≡ map_answer g (guard b k p M)
unfolding guard map_answer
guarded g true k p M N e = e
guarded g false k p M N e = refl

module _ (s : List ℕ) where
  pub at_octets : (p : ℕ) (bs : List ℕ) → At s p bs → take (length bs) (drop p s) ≡ bs
  at_octets p bs a = rw (← a.whole, ← a.start, drop-append_seam, take-append_seam) refl

  pub at_all : Octets s → At s 0 s
  at_all o = record { before = []; after = []; whole = append-nil s; start = refl; octets = o }

  -- what stands after u
  at_right : (p : ℕ) (u r : List ℕ) → At s p (u ++ r) → At s (p + length u) r
  at_right p u r a = record {
    before = a.before ++ u;
    after = a.after;
    whole = rw append_assoc (rw append_assoc at a.whole);
    start = omega (arith, length-append a.before u, a.start);
    octets = octets_right u r a.octets;
  }

  at_left : (p : ℕ) (u r : List ℕ) → At s p (u ++ r) → At s p u
  at_left p u r a = record {
    before = a.before;
    after = r ++ a.after;
    whole = rw append_assoc at a.whole;
    start = a.start;
    octets = octets-left u r a.octets;
  }

  pub at_take : (p n : ℕ) (bs : List ℕ) → At s p bs → At s p (take n bs)
  at_take p n bs a = at_left p (take n bs) (drop n bs) (rw take-append-drop a)

  pub at_header : (p : ℕ) (bs : List ℕ) (h : Taken Header) → At s p bs → read_header p bs ≡ got h → At s h.next h.rest
  at_header p bs h a e =
      let z = header-sound p bs h a.octets e in
      rw (header-next p bs h z e) (at_right p (header_octets h.val.id h.val.size) h.rest (rw z.whole a))

  module _ {A : Type 0} {enc : A → List ℕ} {good : A → Bool} {rd : ℕ → List ℕ → Answer (Taken A)} (laws : Front enc good rd) where
    pub at_next : (p : ℕ) (bs : List ℕ) (w : Taken A) → At s p bs → rd p bs ≡ got w → At s w.next w.rest
    at_next p bs w a e =
        let k = laws.sound p bs w a.octets e in
        let b = laws.back p w.val w.rest k.0 in
        let n : w.next ≡ p + length (enc w.val) = ap (λ (v : Taken A). v.next) (got_inj (sym e ∙ rw k.1 at b)) in
        rw n (at_right p (enc w.val) w.rest (rw k.1 a))

  abbrev pub Follows : {A B : Type 0} → (A → B) → (ℕ → List ℕ → Answer (Taken A)) → (ℕ → List ℕ → Answer (Taken B)) → Type 0
  Follows f rd rd' = (p : ℕ) (bs : List ℕ) → At s p bs → rd' p bs ≡ map_answer (map_taken f) (rd p bs)

  -- the same of readers of a whole content
  abbrev pub FollowsIn : {A B : Type 0} → (A → B) → (ℕ → ℕ → List ℕ → Answer A) → (ℕ → ℕ → List ℕ → Answer B) → Type 0
  FollowsIn f dec dec' = (p q : ℕ) (bs : List ℕ) → At s q bs → dec' p q bs ≡ map_answer f (dec p q bs)

  -- a reader of what no parameter changes
  self : {A : Type 0} (M : Answer (Taken A)) → M ≡ map_answer (map_taken (λ a. a)) M
  unfolding map_answer
  self (got w) = refl
  self (refused k q) = refl

  pub follows_self : {A : Type 0} (rd : ℕ → List ℕ → Answer (Taken A)) → Follows (λ a. a) rd rd
  follows_self rd p bs a = self (rd p bs)

  -- ---- an element

  module _ {A B : Type 0} (f : A → B) (missing : ℕ) (dec : Identifier → ℕ → ℕ → List ℕ → Answer A) (dec' : Identifier → ℕ → ℕ → List ℕ → Answer B)
      (same : (i : Identifier) → FollowsIn f (dec i) (dec' i)) where
    moved : (M : Answer A) (x : ℕ) (r : List ℕ) → bind (map_answer f M) (λ a. got (taken a x r)) ≡ map_answer (map_taken f) (bind M (λ a. got (taken a x r)))
    unfolding bind map_answer
    moved (got a) x r = refl
    moved (refused k q) x r = refl

    headed : (p : ℕ) (bs : List ℕ) → At s p bs → (M : Answer (Taken Header)) → read_header p bs ≡ M
        → bind M (λ h. bind (dec' h.val.id p h.next (take h.val.size h.rest)) (λ a. got (taken a (h.next + h.val.size) (drop h.val.size h.rest))))
        ≡ map_answer (map_taken f) (bind M (λ h. bind (dec h.val.id p h.next (take h.val.size h.rest)) (λ a. got (taken a (h.next + h.val.size) (drop h.val.size h.rest)))))
    unfolding bind map_answer
    headed p bs a (got h) e =
        rw (same h.val.id p h.next (take h.val.size h.rest) (at_take h.next h.val.size h.rest (at_header p bs h a e)))
        (moved (dec h.val.id p h.next (take h.val.size h.rest)) (h.next + h.val.size) (drop h.val.size h.rest))
    headed p bs a (refused k q) e = refl

    pub element_follows : Follows f (element missing dec) (element missing dec')
    unfolding element
    element_follows p bs a = guarded (map_taken f) (ltb 0 (length bs)) missing p _ _ (headed p bs a (read_header p bs) refl)

  module _ {A B : Type 0} (f : A → B) (wrong : ℕ) (i : Identifier) (dec : ℕ → ℕ → List ℕ → Answer A) (dec' : ℕ → ℕ → List ℕ → Answer B) (same : FollowsIn f dec dec') where
    pub tagged_follows : Follows f (tagged wrong i dec) (tagged wrong i dec')
    unfolding tagged
    tagged_follows =
        element_follows f wrong (λ j p q bs. guard (eqb j.form i.form && eqb j.number i.number) wrong p (dec p q bs)) (λ j p q bs. guard (eqb j.form i.form && eqb j.number i.number) wrong p (dec' p q bs))
        (λ j p q bs a. guarded f (eqb j.form i.form && eqb j.number i.number) wrong p (dec p q bs) (dec' p q bs) (same p q bs a))

  -- ---- exactly one, one and then another, under a constructor

  module _ {A B : Type 0} (f : A → B) (extra : ℕ) (rd : ℕ → List ℕ → Answer (Taken A)) (rd' : ℕ → List ℕ → Answer (Taken B)) (same : Follows f rd rd') where
    ended : (M : Answer (Taken A)) → bind (map_answer (map_taken f) M) (λ w. guard (eqb (length w.rest) 0) extra w.next (got w.val)) ≡ map_answer f (bind M (λ w. guard (eqb (length w.rest) 0) extra w.next (got w.val)))
    unfolding bind map_answer
    ended (got w) = guarded f (eqb (length w.rest) 0) extra w.next (got w.val) (got (f w.val)) refl
    ended (refused k q) = refl

    pub exactly_follows : FollowsIn f (λ p q bs. exactly extra rd q bs) (λ p q bs. exactly extra rd' q bs)
    unfolding exactly
    exactly_follows p q bs a = rw (same q bs a) (ended (rd q bs))

  module _ {A B C D : Type 0} (f : A → B) (g : C → D) (rd : ℕ → List ℕ → Answer (Taken A)) (rd' : ℕ → List ℕ → Answer (Taken B)) (next : A → ℕ → List ℕ → Answer (Taken C)) (next' : B → ℕ → List ℕ → Answer (Taken D))
      {enc : B → List ℕ} {good : B → Bool} (laws : Front enc good rd') (same : Follows f rd rd') (then : (a : A) → Follows g (next a) (next' (f a))) where
    paired : (a : A) (M : Answer (Taken C)) → bind (map_answer (map_taken g) M) (λ c. got (taken {A = B × D} (f a, c.val) c.next c.rest)) ≡ map_answer (map_taken {A = A × C} {B = B × D} (λ w. (f w.0, g w.1))) (bind M (λ c. got (taken {A = A × C} (a, c.val) c.next c.rest)))
    unfolding bind map_answer
    paired a (got c) = refl
    paired a (refused k q) = refl

    first : (p : ℕ) (bs : List ℕ) → At s p bs → (M : Answer (Taken A)) → rd' p bs ≡ map_answer (map_taken f) M
        → bind (map_answer (map_taken f) M) (λ b. bind (next' b.val b.next b.rest) (λ c. got (taken {A = B × D} (b.val, c.val) c.next c.rest)))
        ≡ map_answer (map_taken {A = A × C} {B = B × D} (λ w. (f w.0, g w.1))) (bind M (λ a. bind (next a.val a.next a.rest) (λ c. got (taken {A = A × C} (a.val, c.val) c.next c.rest))))
    unfolding bind map_answer
    first p bs a (got w) e = rw (then w.val w.next w.rest (at_next laws p bs (map_taken f w) a e)) (paired w.val (next w.val w.next w.rest))
    first p bs a (refused k q) e = refl

    pub both_follows : Follows (λ (w : A × C). (f w.0, g w.1)) (both rd next) (both rd' next')
    unfolding both
    both_follows p bs a = rw (same p bs a) (first p bs a (rd p bs) (same p bs a))

  module _ {A B C D : Type 0} (f : A → B) (g : C → D) (inj : A → C) (inj' : B → D) (e : (a : A) → inj' (f a) ≡ g (inj a)) (dec : ℕ → ℕ → List ℕ → Answer A) (dec' : ℕ → ℕ → List ℕ → Answer B) (same : FollowsIn f dec dec') where
    wrapped : (M : Answer A) → bind (map_answer f M) (λ b. got (inj' b)) ≡ map_answer g (bind M (λ a. got (inj a)))
    unfolding bind map_answer
    wrapped (got a) = ap got (e a)
    wrapped (refused k q) = refl

    pub under_follows : FollowsIn g (under inj dec) (under inj' dec')
    unfolding under
    under_follows p q bs a = rw (same p q bs a) (wrapped (dec p q bs))

  -- ---- one after the other, each at the state before it, which is the same for both

  module _ {S A B : Type 0} (f : A → B) (rd : S → ℕ → List ℕ → Answer (Taken A)) (rd' : S → ℕ → List ℕ → Answer (Taken B)) (after : S → A → S) (after' : S → B → S) (alike : (t : S) (a : A) → after' t (f a) ≡ after t a)
      {enc : B → List ℕ} {good : S → B → Bool} (laws : (t : S) → Front enc (good t) (rd' t)) (same : (t : S) → Follows f (rd t) (rd' t)) where
    joined : (a : A) (M : Answer (List A)) → bind (map_answer (map f) M) (λ l. got (f a ∷ l)) ≡ map_answer (map f) (bind M (λ l. got (a ∷ l)))
    unfolding bind map_answer
    joined a (got l) = refl
    joined a (refused k q) = refl

    turn : (u : ℕ) (t : S) (p : ℕ) (bs : List ℕ) → At s p bs
        → ((t : S) (p : ℕ) (bs : List ℕ) → At s p bs → chain_fuel rd' after' u t p bs ≡ map_answer (map f) (chain_fuel rd after u t p bs))
        → (M : Answer (Taken A)) → rd' t p bs ≡ map_answer (map_taken f) M
        → bind (map_answer (map_taken f) M) (λ w. bind (chain_fuel rd' after' u (after' t w.val) w.next w.rest) (λ l. got (w.val ∷ l)))
        ≡ map_answer (map f) (bind M (λ w. bind (chain_fuel rd after u (after t w.val) w.next w.rest) (λ l. got (w.val ∷ l))))
    unfolding bind map_answer
    turn u t p bs a rest (got w) e =
        rw (alike t w.val, rest (after t w.val) w.next w.rest (at_next (laws t) p bs (map_taken f w) a e))
        (joined w.val (chain_fuel rd after u (after t w.val) w.next w.rest))
    turn u t p bs a rest (refused k q) e = refl

    fuelled : (u : ℕ) (t : S) (p : ℕ) (bs : List ℕ) → At s p bs → chain_fuel rd' after' u t p bs ≡ map_answer (map f) (chain_fuel rd after u t p bs)
    unfolding chain_fuel map_answer
    fuelled zero t p [] a = refl
    fuelled zero t p (x ∷ xs) a = refl
    fuelled (suc u) t p [] a = refl
    fuelled (suc u) t p (x ∷ xs) a = rw (same t p (x ∷ xs) a) (turn u t p (x ∷ xs) a (fuelled u) (rd t p (x ∷ xs)) (same t p (x ∷ xs) a))

    pub chain_follows : (t : S) → FollowsIn (map f) (λ p q bs. chain rd after t q bs) (λ p q bs. chain rd' after' t q bs)
    unfolding chain
    chain_follows t p q bs a = fuelled (length bs) t q bs a
