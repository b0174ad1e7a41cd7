-- A list's fields, looked up by number: each row answers for its own number and for no other, since numbers ascend with
-- the rows. Assumes nothing.
use mathlib.Core.Path.{◌≡◌, refl, ap, ◌∙◌}
use mathlib.Core.Bool.{Bool, true, false}
use mathlib.Core.Option.{none, some}
use mathlib.Core.List.{List, [], ◌∷◌, ◌++◌}
use Prim.Native.Nat.{ℕ, zero, suc, ◌<◌, ◌≤◌}
use native.Mathlib.Omega.{arith}
use lib.Dec.{eqb}
use lib.ListN.{length, get_or}
use borrow.Author.Tests.{eq-eqb, ne_eqb}
use Rattle.answer.specs.Answer.{pick}
use Rattle.answer.proofs.Logic.{by_le}
use Rattle.schema.specs.Table.{Row, row, null, rows, row_at, index_of, find, row_count}
use Rattle.schema.specs.Content.{ValueWith, FieldWith, field}
use Rattle.schema.proofs.Table.{above, find-place}
use Rattle.records.specs.declared.FieldList.{FieldList}
use Rattle.records.specs.Content.{value_at, field_at, up_to, fields_of}
use Rattle.records.specs.Fields.{field_value}

-- ---- a row's number and its place

pub rows_differ : (j k : ℕ) → j < row_count → k < row_count → (j ≡ k → ⊥) → (row_at j).number ≡ (row_at k).number → ⊥
rows_differ j k h g n e =
    by_le j k
    (λ m. by_le k j (λ o. n (omega arith)) (λ o. absurd (omega (arith, above j k o g))))
    (λ m. absurd (omega (arith, above k j m h)))

pub place_below : (l : List Row) (d : Row) (k : ℕ) → k < length l → index_of l (get_or l k d).number ≤ k
unfolding index_of pick
place_below [] d k h = absurd (omega arith)
place_below (r ∷ rs) d zero h = rw (eq-eqb r.number r.number refl) (omega arith)
place_below (r ∷ rs) d (suc k) h = go (eqb r.number (get_or rs k d).number) (place_below rs d k (omega arith))
  where
    go : (b : Bool) → index_of rs (get_or rs k d).number ≤ k → pick b 0 (suc (index_of rs (get_or rs k d).number)) ≤ suc k
    go true i = omega arith
    go false i = omega arith

pub row_found : (k : ℕ) → k < row_count → find rows (row_at k).number ≡ some (row_at k)
unfolding rows
row_found k h =
    let i = place_below rows (row 0 null 1 0) k h in
    let p = find-place rows (row_at k).number (row 0 null 1 0) (omega arith) in
    p.0 ∙ ap (λ (j : ℕ). some (row_at j)) (same (index_of rows (row_at k).number) i p.1)
  where
    same : (j : ℕ) → j ≤ k → (row_at j).number ≡ (row_at k).number → j ≡ k
    same j i e = by_le k j (λ o. omega arith) (λ o. absurd (omega (arith, above j k o h)))

-- ---- looking up

left-none : {O : Type 0} (xs ys : List (FieldWith O)) (n : ℕ) → field_value xs n ≡ none → field_value (xs ++ ys) n ≡ field_value ys n
unfolding field_value pick
left-none [] ys n e = refl
left-none (f ∷ fs) ys n e = go (eqb f.number n) e (left-none fs ys n)
  where
    go : (b : Bool) → pick b (some f.value) (field_value fs n) ≡ none → (field_value fs n ≡ none → field_value (fs ++ ys) n ≡ field_value ys n) → pick b (some f.value) (field_value (fs ++ ys) n) ≡ field_value ys n
    go true e i = absurd (let z : ◌≡◌ {A = ℕ} 0 1 = cc in omega arith)
    go false e i = i e

right_none : {O : Type 0} (xs ys : List (FieldWith O)) (n : ℕ) → field_value ys n ≡ none → field_value (xs ++ ys) n ≡ field_value xs n
unfolding field_value
right_none [] ys n e = e
right_none (f ∷ fs) ys n e = rw (right_none fs ys n e) refl

module _ {O : Type 0} (l : FieldList) (part : ℕ → ℕ → O) where
  one_row : (k n : ℕ) → ((row_at k).number ≡ n → ⊥) → field_value (field_at l part k) n ≡ none
  unfolding field_value field_at pick
  one_row k n h = go (get_or l.present k false)
    where
      v : ValueWith O
      v = value_at l part (row_at k).number (row_at k).kind k

      go : (b : Bool) → field_value (pick b (field (row_at k).number v ∷ []) []) n ≡ none
      go true = rw (ne_eqb (row_at k).number n h) refl
      go false = refl

  own_row : (k : ℕ) → field_value (field_at l part k) (row_at k).number ≡ pick (get_or l.present k false) (some (value_at l part (row_at k).number (row_at k).kind k)) none
  unfolding field_value field_at pick
  own_row k = go (get_or l.present k false)
    where
      v : ValueWith O
      v = value_at l part (row_at k).number (row_at k).kind k

      go : (b : Bool) → field_value (pick b (field (row_at k).number v ∷ []) []) (row_at k).number ≡ pick b (some v) none
      go true = rw (eq-eqb (row_at k).number (row_at k).number refl) refl
      go false = refl

  -- a number that no row so far has
  pub no_row_has : (m n : ℕ) → ((k : ℕ) → k < m → (row_at k).number ≡ n → ⊥) → field_value (up_to (field_at l part) m) n ≡ none
  unfolding up_to field_value
  no_row_has zero n h = refl
  no_row_has (suc m) n h =
      left-none (up_to (field_at l part) m) (field_at l part m) n (no_row_has m n (λ k g. h k (omega arith)))
      ∙ one_row m n (h m (omega arith))

  row_of_some : (m k : ℕ) → k < m → m ≤ row_count → field_value (up_to (field_at l part) m) (row_at k).number ≡ field_value (field_at l part k) (row_at k).number
  unfolding up_to
  row_of_some zero k h g = absurd (omega arith)
  row_of_some (suc m) k h g =
      by_le m k
      (λ o. let e : m ≡ k = omega arith in
      rw e (left-none (up_to (field_at l part) k) (field_at l part k) (row_at k).number (no_row_has k (row_at k).number (λ j i. rows_differ j k (omega arith) (omega arith) (λ z. omega arith)))))
      (λ o. right_none (up_to (field_at l part) m) (field_at l part m) (row_at k).number (one_row m (row_at k).number (rows_differ m k (omega arith) (omega arith) (λ z. omega arith)))
      ∙ row_of_some m k o (omega arith))

  -- the value of a row's number is the row's
  pub row-value : (k : ℕ) → k < row_count → field_value (fields_of l part) (row_at k).number ≡ pick (get_or l.present k false) (some (value_at l part (row_at k).number (row_at k).kind k)) none
  row-value k h = row_of_some row_count k h (omega arith) ∙ own_row k
