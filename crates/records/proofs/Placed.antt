-- Which rows have a set, and which is 704's, by one computed test over the table. Assumes nothing.
use mathlib.Core.Path.{◌≡◌, subst}
use mathlib.Core.Bool.{Bool, true, false, ◌&&◌, ◌||◌}
use mathlib.Core.List.{List, [], ◌∷◌}
use Prim.Native.Nat.{ℕ, zero, suc, ◌+◌, ◌<◌}
use native.Mathlib.Omega.{arith}
use native.Mathlib.Nat.{add-zero, zero-add}
use lib.Dec.{T, eqb, eqb→eq}
use lib.ListN.{length, get_or}
use Rattle.answer.specs.Answer.{pick}
use Rattle.answer.proofs.Logic.{and_left, and_right}
use Rattle.schema.specs.Table as table
use Rattle.schema.specs.Table.{Kind, number32, number64, null, octets, root, Row, row, rows, row_at, row_count}

is_set : Kind → Bool
is_set table.set = true
is_set number32 = false
is_set number64 = false
is_set null = false
is_set octets = false
is_set root = false

is_root : Kind → Bool
is_root table.set = false
is_root number32 = false
is_root number64 = false
is_root null = false
is_root octets = false
is_root root = true

-- a row's kind goes with its place
placed : ℕ → Kind → Bool
placed i k = pick (is_set k) (eqb i 0 || eqb i 3 || eqb i 4 || eqb i 7) (pick (is_root k) (eqb i 26) true)

every : ℕ → List Row → Bool
every i [] = true
every i (r ∷ rs) = placed i r.kind && every (suc i) rs

every_at : (i : ℕ) (l : List Row) (d : Row) → T (every i l) → (k : ℕ) → k < length l → T (placed (i + k) (get_or l k d).kind)
unfolding every
every_at i [] d t k h = absurd (omega arith)
every_at i (r ∷ rs) d t zero h = rw add-zero (and_left (placed i r.kind) _ t)
every_at i (r ∷ rs) d t (suc k) h =
    let e : i + suc k ≡ suc i + k = omega arith in
    rw e (every_at (suc i) rs d (and_right (placed i r.kind) _ t) k (omega arith))

kind_placed : (k : ℕ) → k < row_count → T (placed k (row_at k).kind)
unfolding rows every placed is_set is_root pick
kind_placed k h = rw zero-add at (every_at 0 rows (row 0 null 1 0) tt k h)

or_case {ℓ} : {X : Type ℓ} (a b : Bool) → T (a || b) → (T a → X) → (T b → X) → X
or_case true b t f g = f tt
or_case false b t f g = g t

pub by_set {ℓ} : {X : Type ℓ} (k : ℕ) → k < row_count → (row_at k).kind ≡ table.set → (k ≡ 0 → X) → (k ≡ 3 → X) → (k ≡ 4 → X) → (k ≡ 7 → X) → X
unfolding placed is_set pick
by_set k h e f₀ f₃ f₄ f₇ =
    let t : T (eqb k 0 || eqb k 3 || eqb k 4 || eqb k 7) = subst (λ (j : Kind). T (placed k j)) e (kind_placed k h) in
    or_case (eqb k 0 || eqb k 3 || eqb k 4) (eqb k 7) t
    (λ t₁. or_case (eqb k 0 || eqb k 3) (eqb k 4) t₁
    (λ t₂. or_case (eqb k 0) (eqb k 3) t₂ (λ u. f₀ (eqb→eq k 0 u)) (λ u. f₃ (eqb→eq k 3 u)))
    (λ u. f₄ (eqb→eq k 4 u)))
    (λ u. f₇ (eqb→eq k 7 u))

pub by_root : (k : ℕ) → k < row_count → (row_at k).kind ≡ root → k ≡ 26
unfolding placed is_set is_root pick
by_root k h e = eqb→eq k 26 (subst (λ (j : Kind). T (placed k j)) e (kind_placed k h))
