-- The table: its numbers ascend (one computed test), and a number's place and its row are the same search. What the last
-- arm of a match knows, that a number is none of its keys, comes out of `rest_at`. Assumes nothing.
use mathlib.Core.Path.{◌≡◌, refl, sym, ap, subst, ◌∙◌}
use mathlib.Core.Bool.{Bool, true, false, ◌&&◌}
use mathlib.Core.Option.{none, some}
use mathlib.Core.List.{List, [], ◌∷◌}
use Prim.Native.Nat.{ℕ, zero, suc, ◌+◌, ◌-◌, ◌<◌, ◌≤◌}
use native.Mathlib.Nat.{le_of_suc-le-suc, not-suc-le-zero}
use native.Mathlib.Omega.{arith}
use lib.Dec.{T, eqb, ltb, leb, ltb→lt}
use lib.ListN.{length, get_or}
use borrow.Author.Tests.{le-leb, lt-leb, ne_eqb, eqb-true}
use Rattle.answer.specs.Answer.{pick}
use Rattle.answer.proofs.Logic.{by_le, and_left, and_right}
use Rattle.schema.specs.Statements.{Above}
use Rattle.schema.specs.Table.{Row, row, null, rows, row_at, index_of, find, held_in, row_count}

-- ---- a match's last arm

abbrev Rest : Type 0 → ℕ → List ℕ → Type 0
Rest A n [] = A
Rest A n (k ∷ ks) = Rest (A × (n ≡ k → ⊥)) n ks

rest_at : (A : Type 0) (n : ℕ) (ks : List ℕ) → Rest A n ks → A × ((i : ℕ) → i < length ks → get_or ks i 0 ≡ n → ⊥)
rest_at A n [] r = (r, λ i h. absurd (not-suc-le-zero h))
rest_at A n (k ∷ ks) r =
    let q = rest_at (A × (n ≡ k → ⊥)) n ks r in
    (q.0.0, at q.0.1 q.1)
  where
    at : (n ≡ k → ⊥) → ((i : ℕ) → i < length ks → get_or ks i 0 ≡ n → ⊥) → (i : ℕ) → i < length (k ∷ ks) → get_or (k ∷ ks) i 0 ≡ n → ⊥
    at f g zero h e = f (sym e)
    at f g (suc i) h e = g i (le_of_suc-le-suc h) e

-- ---- a number's place

abbrev numbers_of : List Row → List ℕ
numbers_of [] = []
numbers_of (r ∷ rs) = r.number ∷ numbers_of rs

length_numbers_of : (l : List Row) → length (numbers_of l) ≡ length l
length_numbers_of [] = refl
length_numbers_of (r ∷ rs) = ap suc (length_numbers_of rs)

no_place : (l : List Row) (n : ℕ) → ((i : ℕ) → i < length (numbers_of l) → get_or (numbers_of l) i 0 ≡ n → ⊥) → index_of l n ≡ length l
unfolding index_of pick
no_place [] n f = refl
no_place (r ∷ rs) n f = rw (ne_eqb r.number n (λ e. f 0 (omega arith) e)) (ap suc (no_place rs n (λ i h e. f (suc i) (omega arith) e)))

pub no_row : (n : ℕ) → Rest (Unit {0}) n (numbers_of rows) → row_count ≡ index_of rows n
unfolding rows
no_row n r = sym (no_place rows n (rest_at (Unit {0}) n (numbers_of rows) r).1)

-- where the place of a number stands its row, and past the last there is none
pub find-place : (l : List Row) (n : ℕ) (d : Row) → index_of l n < length l → (find l n ≡ some (get_or l (index_of l n) d)) × ((get_or l (index_of l n) d).number ≡ n)
unfolding index_of find pick
find-place [] n d h = absurd (omega arith)
find-place (r ∷ rs) n d h = go (eqb r.number n) refl h (λ l. find-place rs n d l)
  where
    go : (b : Bool) → eqb r.number n ≡ b → pick b 0 (suc (index_of rs n)) < length (r ∷ rs)
        → (index_of rs n < length rs → (find rs n ≡ some (get_or rs (index_of rs n) d)) × ((get_or rs (index_of rs n) d).number ≡ n))
        → (pick b (some r) (find rs n) ≡ some (get_or (r ∷ rs) (pick b 0 (suc (index_of rs n))) d)) × ((get_or (r ∷ rs) (pick b 0 (suc (index_of rs n))) d).number ≡ n)
    go true e l f = (refl, eqb-true r.number n e)
    go false e l f = f (omega arith)

pub find_none : (l : List Row) (n : ℕ) → length l ≤ index_of l n → find l n ≡ none
unfolding index_of find pick
find_none [] n h = refl
find_none (r ∷ rs) n h = go (eqb r.number n) refl h (λ l. find_none rs n l)
  where
    go : (b : Bool) → eqb r.number n ≡ b → length (r ∷ rs) ≤ pick b 0 (suc (index_of rs n)) → (length rs ≤ index_of rs n → find rs n ≡ none) → pick b (some r) (find rs n) ≡ none
    go true e l f = absurd (omega arith)
    go false e l f = f (omega arith)

-- ---- a place past the table

past : (l : List Row) (k : ℕ) (d : Row) → length l ≤ k → get_or l k d ≡ d
past [] k d h = refl
past (r ∷ rs) zero d h = absurd (omega arith)
past (r ∷ rs) (suc k) d h = past rs k d (omega arith)

abbrev counted : ℕ → ℕ → List ℕ
counted zero i = []
counted (suc n) i = i ∷ counted n (suc i)

get_d_counted : (n i k : ℕ) → k < n → get_or (counted n i) k 0 ≡ i + k
get_d_counted zero i k h = absurd (omega arith)
get_d_counted (suc n) i zero h = omega arith
get_d_counted (suc n) i (suc k) h = get_d_counted n (suc i) k (omega arith) ∙ omega arith

length-counted : (n i : ℕ) → length (counted n i) ≡ n
length-counted zero i = refl
length-counted (suc n) i = ap suc (length-counted n (suc i))

beyond : (n k : ℕ) → Rest (Unit {0}) k (counted n 0) → n ≤ k
beyond n k r =
    by_le n k (λ h. h)
    (λ h. absurd ((rest_at (Unit {0}) k (counted n 0) r).1 k (omega (arith, length-counted n 0)) (get_d_counted n 0 k h ∙ omega arith)))

pub past_table : (k : ℕ) → Rest (Unit {0}) k (counted row_count 0) → row 0 null 1 0 ≡ row_at k
unfolding rows
past_table k r = sym (past rows k (row 0 null 1 0) (beyond row_count k r))

-- ---- versions

pub not_yet : (v : ℕ) (r : Row) → v < r.first → false ≡ held_in v r
unfolding held_in
not_yet v r h = rw (lt-leb r.first v h) refl

pub still : (v : ℕ) (r : Row) → r.first ≤ v → leb v r.last ≡ held_in v r
unfolding held_in
still v r h = rw (le-leb r.first v h) refl

-- ---- the order, by one computed test

abbrev ascends : List Row → Bool
ascends [] = true
ascends (r ∷ []) = true
ascends (r ∷ q ∷ rs) = ltb r.number q.number && ascends (q ∷ rs)

rows_ascend : T (ascends rows)
unfolding rows
rows_ascend = tt

next-above : (l : List Row) (i : ℕ) (d : Row) → T (ascends l) → suc i < length l → (get_or l i d).number < (get_or l (suc i) d).number
next-above [] i d t h = absurd (omega arith)
next-above (r ∷ []) i d t h = absurd (omega arith)
next-above (r ∷ q ∷ rs) zero d t h = ltb→lt r.number q.number (and_left (ltb r.number q.number) _ t)
next-above (r ∷ q ∷ rs) (suc i) d t h = next-above (q ∷ rs) i d (and_right (ltb r.number q.number) _ t) (omega arith)

some_above : (i j : ℕ) → i + suc j < row_count → (row_at i).number < (row_at (i + suc j)).number
unfolding rows
some_above i zero h = let e : i + 1 ≡ suc i = omega arith in rw e (next-above rows i (row 0 null 1 0) rows_ascend (omega arith))
some_above i (suc j) h =
    let e : i + suc (suc j) ≡ suc (i + suc j) = omega arith in
    rw e (omega (arith, some_above i j (omega arith), next-above rows (i + suc j) (row 0 null 1 0) rows_ascend (omega arith)))

-- numbers ascend with the rows
pub above : Above
above i j h l = let e : i + suc (j - suc i) ≡ j = omega arith in subst (λ (k : ℕ). (row_at i).number < (row_at k).number) e (some_above i (j - suc i) (omega arith))
