-- What the loop over a list's fields knows of a field that was opened: its row, and where its content lies. Assumes nothing.
use mathlib.Core.Path.{◌≡◌}
use mathlib.Core.List.{List}
use Prim.Native.Nat.{ℕ, ◌+◌, ◌-◌, ◌^◌, ◌<◌, ◌≤◌}
use native.Mathlib.Omega.{arith}
use Rattle.answer.proofs.Logic.{by_le}
use Rattle.schema.specs.Table.{rows, row_at, row_count}
use Rattle.schema.proofs.Table.{above}
use Rattle.reader.specs.Fields.{FieldAt}

number_small : (k : ℕ) → k < row_count → (row_at k).number ≤ 723
unfolding rows
number_small k h = by_le 41 k (λ l. let e : k ≡ 41 = omega arith in rw e (omega arith)) (λ l. omega (arith, above k 41 l (omega arith)))

module _ (s : List ℕ) (at end v low row n b x : ℕ) (f : FieldAt s at end v low row n b x) where
  pub field_next : n + 1 < 2 ^ 64
  field_next = omega (arith, f.is_row, number_small row f.in_table)

  pub field_less : at < end → end - x < end - at
  field_less h = omega (arith, f.body, f.stop)
