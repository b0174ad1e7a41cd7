-- Numbers that ascend: none is said below the first. Assumes nothing.
use mathlib.Core.Logic.{inl, inr}
use mathlib.Core.Bool.{Bool, true, ◌&&◌}
use mathlib.Core.List.{List, [], ◌∷◌}
use Prim.Native.Nat.{ℕ, suc, ◌≤◌}
use native.Mathlib.Omega.{arith}
use lib.Dec.{T, leb, leb→le}
use Rattle.answer.specs.Sentences.{Says}
use Rattle.answer.proofs.Logic.{and_left, and_right}

-- the numbers ascend, from low on
abbrev pub ascending : ℕ → List (ℕ × Type 0) → Bool
ascending low [] = true
ascending low (x ∷ xs) = leb low x.0 && ascending (suc x.0) xs

pub says-from : (xs : List (ℕ × Type 0)) (low n : ℕ) → T (ascending low xs) → Says xs n → low ≤ n
says-from [] low n t w = absurd w
says-from ((k, P) ∷ xs) low n t (inl (e, x)) = let l : low ≤ k = leb→le low k (and_left (leb low k) (ascending (suc k) xs) t) in omega arith
says-from ((k, P) ∷ xs) low n t (inr w) =
    let l : low ≤ k = leb→le low k (and_left (leb low k) (ascending (suc k) xs) t) in
    let m : suc k ≤ n = says-from xs (suc k) n (and_right (leb low k) (ascending (suc k) xs) t) w in
    omega arith
