-- How an answer came about: forward steps (`guard_yes`, `bind-got`) and inversions by continuation (`guard_case`,
-- `bind_case`), so that a proof names what came through as a variable. Assumes nothing.
use mathlib.Core.Path.{◌≡◌, refl}
use mathlib.Core.Bool.{Bool, true, false, not}
use Prim.Native.Nat.{ℕ}
use native.Mathlib.Omega.{arith}
use lib.Dec.{T}
use Rattle.answer.specs.Answer.{Answer, got, refused, guard, bind, pick}

pub refused-got : {A : Type 0} {n p : ℕ} {a : A} → refused n p ≡ got a → ⊥
refused-got e = let z : ◌≡◌ {A = ℕ} 0 1 = cc in omega arith

pub got_inj : {A : Type 0} {a b : A} → got a ≡ got b → a ≡ b
got_inj e = cc

-- a refusal says nothing of the value's type
pub refused_as : {A B : Type 0} {k p k₂ p₂ : ℕ} → ◌≡◌ {A = Answer A} (refused k p) (refused k₂ p₂) → ◌≡◌ {A = Answer B} (refused k p) (refused k₂ p₂)
refused_as e = cc

-- ---- forward

pub guard_yes : {A : Type 0} (b : Bool) (n p : ℕ) (m : Answer A) → T b → guard b n p m ≡ m
unfolding guard
guard_yes true n p m t = refl
guard_yes false n p m t = absurd t

pub bind-got : {A B : Type 0} (m : Answer A) (f : A → Answer B) (a : A) → m ≡ got a → bind m f ≡ f a
unfolding bind
bind-got m f a e = rw e refl

pub pick_yes : {A : Type 0} (b : Bool) (x y : A) → T b → pick b x y ≡ x
unfolding pick
pick_yes true x y t = refl
pick_yes false x y t = absurd t

pub pick_no : {A : Type 0} (b : Bool) (x y : A) → T (not b) → pick b x y ≡ y
unfolding pick
pick_no true x y t = absurd t
pick_no false x y t = refl

-- ---- back, from a value

pub guard_case {ℓ} : {A : Type 0} {X : Type ℓ} (b : Bool) (n p : ℕ) (m : Answer A) {a : A} → guard b n p m ≡ got a → (T b → m ≡ got a → X) → X
unfolding guard
guard_case true n p m e k = k tt e
guard_case false n p m e k = absurd (refused-got e)

pub bind_case {ℓ} : {A B : Type 0} {X : Type ℓ} (m : Answer A) (f : A → Answer B) {b : B} → bind m f ≡ got b → ((a : A) → m ≡ got a → f a ≡ got b → X) → X
unfolding bind
bind_case (got a) f e k = k a refl e
bind_case (refused n p) f e k = absurd (refused-got e)

pub pick_case {ℓ} : {A : Type 0} {X : Type ℓ} (b : Bool) (x y : A) {z : A} → pick b x y ≡ z → (T b → x ≡ z → X) → (T (not b) → y ≡ z → X) → X
unfolding pick
pick_case true x y e f g = f tt e
pick_case false x y e f g = g tt e

-- ---- back, from a refusal

pub guard-refuses {ℓ} : {A : Type 0} {X : Type ℓ} (b : Bool) (n p : ℕ) (m : Answer A) {k q : ℕ} → guard b n p m ≡ refused k q → (n ≡ k → X) → (T b → m ≡ refused k q → X) → X
unfolding guard
guard-refuses true n p m e f g = g tt e
guard-refuses false n p m e f g = f cc

pub bind-refuses {ℓ} : {A B : Type 0} {X : Type ℓ} (m : Answer A) (f : A → Answer B) {k q : ℕ} → bind m f ≡ refused k q → (m ≡ refused k q → X) → ((a : A) → m ≡ got a → f a ≡ refused k q → X) → X
unfolding bind
bind-refuses (got a) f e g h = h a refl e
bind-refuses (refused n p) f e g h = g (refused_as e)
