-- Parts inside a buffer: each answer of the code is the same test of `specs/Parts`. Assumes nothing.
use mathlib.Core.Path.{◌≡◌, refl}
use mathlib.Core.Logic.{◌⊎◌, inl, inr}
use Rattle.schema.specs.declared.Kind as code
use mathlib.Core.Bool.{Bool, true, false, not, ◌&&◌, and_assoc}
use Prim.Native.Nat.{ℕ}
use lib.ListN.{get_or}
use Rattle.answer.specs.Answer.{pick}
use Rattle.schema.specs.Table.{row_at, row_count}
use Rattle.schema.specs.Rows.{of_kind, of_row}
use Rattle.schema.specs.declared.Row.{Row}
use Rattle.records.specs.declared.RootOfTrust.{RootOfTrust}
use Rattle.records.specs.declared.FieldList.{FieldList}
use Rattle.records.specs.declared.Record.{Record}
use Rattle.records.specs.Rows.{all_below}
use Rattle.records.specs.Parts.{part_inside, root_inside, content_inside, row_inside, list_inside, parts_inside}

-- the boot key, then the boot hash
pub root_whole : (t : RootOfTrust) (len : ℕ) → part_inside t.key len && pick t.hashed (part_inside t.hash len) true ≡ root_inside t len
unfolding root_inside
root_whole t len = refl

-- a field of another kind has no part
pub none_inside : (q : code.Kind) (start size len : ℕ) (t : RootOfTrust)
    → (q ≡ code.Kind.Set) ⊎ ((q ≡ code.Kind.Number32) ⊎ ((q ≡ code.Kind.Number64) ⊎ (q ≡ code.Kind.Null))) → true ≡ content_inside (of_kind q) start size t len
unfolding content_inside
none_inside q start size len t (inl e) = rw e refl
none_inside q start size len t (inr (inl e)) = rw e refl
none_inside q start size len t (inr (inr (inl e))) = rw e refl
none_inside q start size len t (inr (inr (inr e))) = rw e refl

-- a row of a list
module _ (l : FieldList) (len k : ℕ) where
  pub absent-inside : get_or l.present k false ≡ false → not (get_or l.present k false) ≡ row_inside l len k
  unfolding row_inside pick
  absent-inside n = rw n refl

  pub present-inside : (r : Row) (a : Bool) → get_or l.present k false ≡ true → of_row r ≡ row_at k → a ≡ content_inside (of_kind r.kind) (get_or l.values k 0) (get_or l.sizes k 0) l.root len → a ≡ row_inside l len k
  unfolding row_inside pick
  present-inside r a n f g = rw (n, ← f) g

pub list_rows : (l : FieldList) (len : ℕ) → all_below (row_inside l len) row_count ≡ list_inside l len
unfolding list_inside
list_rows l len = refl

-- the parts of a record, in turn
pub parts_whole : (r : Record) (len : ℕ) → part_inside r.challenge len && part_inside r.unique len && list_inside r.software len && list_inside r.hardware len ≡ parts_inside r len
unfolding parts_inside
parts_whole r len = simp and_assoc refl
