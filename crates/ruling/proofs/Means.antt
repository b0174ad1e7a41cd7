-- What a test means: `Means b P` says that b is true exactly where P holds; a law for each way to join tests.
-- Assumes nothing.
use mathlib.Core.Path.{◌≡◌, refl, sym}
use mathlib.Core.Logic.{◌⊎◌, inl, inr, ⊎_elim}
use mathlib.Core.Bool.{Bool, true, false, not, ◌&&◌, ◌||◌, true≢false}
use mathlib.Core.Option.{Option, none, some}
use mathlib.Core.List.{List, [], ◌∷◌}
use Prim.Native.Nat.{ℕ, zero, suc, ◌<◌, ◌≤◌}
use native.Mathlib.Nat.{le_of_suc-le-suc, lt_of_not-le}
use native.Mathlib.Omega.{arith}
use lib.Dec.{T, eqb, leb, ltb, eqb→eq, eqb_refl, leb→le, le→leb, T_not, not_T}
use Rattle.answer.proofs.Logic.{by_le}
use Rattle.checks.specs.Tags.{there, allows, either, both_allow, member, set_allows}
use Rattle.ruling.specs.Allowed.{Held, EachHeld, Among, InSets}
use Rattle.ruling.specs.Refuses.{InOne}

pub record Means (b : Bool) (P : Type 0) : Type 0 where
  pub to : T b → P
  pub from : P → T b

pub equal : (m n : ℕ) → Means (eqb m n) (m ≡ n)
equal m n = record { to = eqb→eq m n; from = λ e. rw e (eqb_refl n) }

pub at_most : (m n : ℕ) → Means (leb m n) (m ≤ n)
at_most m n = record { to = leb→le m n; from = le→leb m n }

pub below : (m n : ℕ) → Means (ltb m n) (m < n)
below m n = record { to = leb→le (suc m) n; from = le→leb (suc m) n }

pub true_flag : (b : Bool) → Means b (b ≡ true)
true_flag true = record { to = λ t. refl; from = λ e. tt }
true_flag false = record { to = λ t. absurd t; from = λ e. absurd (true≢false (sym e)) }

pub false_flag : (b : Bool) → Means (not b) (b ≡ false)
false_flag true = record { to = λ t. absurd t; from = λ e. absurd (true≢false e) }
false_flag false = record { to = λ t. refl; from = λ e. tt }

module _ {a b : Bool} {P Q : Type 0} (f : Means a P) (g : Means b Q) where
  pub both : Means (a && b) (P × Q)
  both = go a b f g
    where
      go : (a b : Bool) → Means a P → Means b Q → Means (a && b) (P × Q)
      go true b f g = record { to = λ t. (f.to tt, g.to t); from = λ p. g.from p.1 }
      go false b f g = record { to = λ t. absurd t; from = λ p. f.from p.0 }

  pub one_of : Means (a || b) (P ⊎ Q)
  one_of = go a b f g
    where
      go : (a b : Bool) → Means a P → Means b Q → Means (a || b) (P ⊎ Q)
      go true b f g = record { to = λ t. inl (f.to tt); from = λ p. tt }
      go false b f g = record { to = λ t. inr (g.to t); from = λ p. ⊎_elim (λ x. absurd (f.from x)) (λ x. g.from x) p }

  pub only_with : Means (not (a && not b)) (P → Q)
  only_with = go a b f g
    where
      go : (a b : Bool) → Means a P → Means b Q → Means (not (a && not b)) (P → Q)
      go true true f g = record { to = λ t p. g.to tt; from = λ p. tt }
      go true false f g = record { to = λ t. absurd t; from = λ p. g.from (p (f.to tt)) }
      go false b f g = record { to = λ t p. absurd (f.from p); from = λ p. tt }

module _ {a : Bool} {P : Type 0} (f : Means a P) where
  pub negated : Means (not a) (P → ⊥)
  negated = record { to = λ t p. T_not a t (f.from p); from = λ n. not_T a (λ t. n (f.to t)) }

  pub twice : Means (not (not a)) P
  twice = go a f
    where
      go : (a : Bool) → Means a P → Means (not (not a)) P
      go true f = f
      go false f = f

  -- the same fact in other words
  pub says : {Q : Type 0} → (P → Q) → (Q → P) → Means a Q
  says g h = record { to = λ t. g (f.to t); from = λ q. f.from (h q) }

pub above : (m n : ℕ) → Means (not (leb m n)) (n < m)
above m n = says (negated (at_most m n)) lt_of_not-le (λ g l. omega arith)

pub at_least : (m n : ℕ) → Means (not (ltb m n)) (n ≤ m)
at_least m n = says (negated (below m n)) (λ k. by_le n m (λ l. l) (λ l. absurd (k l))) (λ g l. omega arith)

-- of two tests, one does not hold
pub not_both : (a b : Bool) {P Q : Type 0} → Means (not a) P → Means (not b) Q → Means (not (a && b)) (P ⊎ Q)
not_both true b f g = record { to = λ t. inr (g.to t); from = λ p. ⊎_elim (λ x. absurd (f.from x)) (λ x. g.from x) p }
not_both false b f g = record { to = λ t. inl (f.to tt); from = λ p. tt }

-- a test, by what its failing means
pub refusing : (b : Bool) {P : Type 0} → Means (not b) P → Means b (P → ⊥)
refusing true f = record { to = λ t p. f.from p; from = λ n. tt }
refusing false f = record { to = λ t. absurd t; from = λ n. n (f.to tt) }

-- ---- tags

module _ {A : Type 0} where
  pub is-there : (o : Option A) → Means (there o) ((a : A) × (o ≡ some a))
  unfolding there
  is-there none = record { to = λ t. absurd t; from = λ p. let z : ◌≡◌ {A = ℕ} 0 1 = cc p.1 in absurd (omega arith) }
  is-there (some a) = record { to = λ t. (a, refl); from = λ p. tt }

  pub held : (s h : Option A) → Means (either s h) (Held s h)
  held s h = one_of (is-there s) (is-there h)

  some_inj : {a b : A} → some a ≡ some b → a ≡ b
  some_inj e = cc

  module _ (f : A → Bool) (P : A → Type 0) (m : (a : A) → Means (f a) (P a)) where
    one_list : (o : Option A) → Means (allows f o) ((a : A) → o ≡ some a → P a)
    unfolding allows
    one_list none = record { to = λ t a e. let z : ◌≡◌ {A = ℕ} 0 1 = cc e in absurd (omega arith); from = λ p. tt }
    one_list (some b) = record { to = λ t a e. let z : b ≡ a = cc in rw (← z) ((m b).to t); from = λ p. (m b).from (p b refl) }

    pub each : (s h : Option A) → Means (both_allow f s h) (EachHeld s h P)
    each s h = both (one_list s) (one_list h)

  module _ (f : A → Bool) (P : A → Type 0) (m : (a : A) → Means (not (f a)) (P a)) where
    not_one_list : (o : Option A) → Means (not (allows f o)) ((a : A) × ((o ≡ some a) × P a))
    unfolding allows
    not_one_list none = record { to = λ t. absurd t; from = λ p. let z : ◌≡◌ {A = ℕ} 0 1 = cc p.1.0 in absurd (omega arith) }
    not_one_list (some b) = record { to = λ t. (b, (refl, (m b).to t)); from = λ p. let z : b ≡ p.0 = some_inj p.1.0 in (m b).from (rw z p.1.1) }

    pub in_one : (s h : Option A) → Means (not (both_allow f s h)) (InOne s h P)
    in_one s h = not_both (allows f s) (allows f h) (not_one_list s) (not_one_list h)

pub among : (n : ℕ) (l : List ℕ) → Means (member n l) (Among n l)
unfolding member
among n [] = record { to = λ t. absurd t; from = λ p. absurd (omega (arith, p.1)) }
among n (x ∷ xs) = says (one_of (equal x n) (among n xs)) to from
  where
    to : (x ≡ n) ⊎ Among n xs → Among n (x ∷ xs)
    to (inl e) = (0, omega arith, e)
    to (inr (i, h, e)) = (suc i, omega arith, e)

    from : Among n (x ∷ xs) → (x ≡ n) ⊎ Among n xs
    from (zero, h, e) = inl e
    from (suc i, h, e) = inr (i, le_of_suc-le-suc h, e)

pub in_sets : (n : ℕ) (s h : Option (List ℕ)) → Means (set_allows n s h) (InSets n s h)
in_sets n s h = both (held s h) (each (member n) (Among n) (among n) s h)
