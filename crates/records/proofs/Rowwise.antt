-- A test of every number below n: what a loop over rows or members needs of it, by induction on n. Assumes nothing.
use mathlib.Core.Path.{◌≡◌, refl, sym}
use mathlib.Core.Bool.{Bool, true, false, ◌&&◌, true≢false}
use Prim.Native.Nat.{ℕ, zero, suc, ◌+◌, ◌<◌, ◌≤◌}
use native.Mathlib.Numerals.{add-one}
use native.Mathlib.Omega.{arith}
use Rattle.answer.proofs.Logic.{by_le}
use Rattle.records.specs.Rows.{all_below}

pub both_true : (a b : Bool) → a && b ≡ true → (a ≡ true) × (b ≡ true)
both_true true b e = (refl, e)
both_true false b e = absurd (true≢false (sym e))

pub all_at : (f : ℕ → Bool) (n k : ℕ) → k < n → all_below f n ≡ true → f k ≡ true
unfolding all_below
all_at f zero k h e = absurd (omega arith)
all_at f (suc n) k h e =
    let p = both_true (all_below f n) (f n) e in
    by_le n k (λ g. let z : k ≡ n = omega arith in rw z p.1) (λ g. all_at f n k g p.0)

pub all_none : (f : ℕ → Bool) → all_below f 0 ≡ true
unfolding all_below
all_none f = refl

pub all_more : (f : ℕ → Bool) (k : ℕ) → all_below f k ≡ true → f k ≡ true → all_below f (k + 1) ≡ true
unfolding all_below
all_more f k p q = rw (add-one, p) q

pub all_fewer : (f : ℕ → Bool) (m n : ℕ) → m ≤ n → all_below f n ≡ true → true ≡ all_below f m
unfolding all_below
all_fewer f zero n h e = refl
all_fewer f (suc m) n h e = rw (← all_fewer f m n (omega arith) e) (sym (all_at f n m (omega arith) e))

pub all_fails : (f : ℕ → Bool) (n k : ℕ) → k < n → f k ≡ false → false ≡ all_below f n
all_fails f n k h e = go (all_below f n) refl
  where
    go : (b : Bool) → all_below f n ≡ b → false ≡ b
    go true p = rw e at (all_at f n k h p)
    go false p = refl

pub all_agree : (f g : ℕ → Bool) (n : ℕ) → ((k : ℕ) → k < n → f k ≡ g k) → all_below f n ≡ all_below g n
unfolding all_below
all_agree f g zero h = refl
all_agree f g (suc n) h = rw (all_agree f g n (λ k i. h k (omega arith)), h n (omega arith)) refl
