-- Storing a field: at its row the list then has it, and every other row is as it was; so the list's fields are those
-- before and the new one, since rows above it are absent. Assumes nothing.
use mathlib.Core.Path.{◌≡◌, refl, sym, ◌∙◌}
use mathlib.Core.Bool.{true, false}
use mathlib.Core.List.{List, [], ◌∷◌}
use Prim.Native.Nat.{ℕ, ◌<◌}
use native.Mathlib.Omega.{arith}
use lib.ListN.{replicate, length-set, get_or-replicate}
use lib.Seq.{get_or-set_same, get_or-set_other}
use borrow.Author.Tests.{ne_eqb}
use Rattle.answer.specs.Answer.{pick}
use Rattle.schema.specs.Table as table
use Rattle.schema.specs.Table.{Kind, number32, number64, null, octets, root, rows, row_at, row_count}
use Rattle.schema.specs.Content.{FieldWith, field, Place, place_at}
use Rattle.records.proofs.Placed.{by_set, by_root}
use Rattle.records.proofs.UpTo.{up_to-to}
use Rattle.records.specs.Content.{set_at, value_at, field_at, up_to, fields_of}
use Rattle.records.specs.Clear.{RowsSized}
use Rattle.records.specs.declared.FieldList.{FieldList}
use Rattle.records.specs.declared.NumberSet.{NumberSet}
use Rattle.records.specs.declared.RootOfTrust.{RootOfTrust}
use Rattle.records.specs.Empty.{empty_set, empty_root, empty_list}
use Rattle.contents.specs.Content.{Stored, content_value}
use Rattle.reader.specs.Lists.{with_field}

-- ---- a stored field

module _ (l : FieldList) (r : ℕ) (c : Stored) (z : RowsSized l) (h : r < row_count) where
  same_set : (row_at r).kind ≡ table.set → set_at (with_field l r c) (row_at r).number ≡ c.set
  unfolding rows pick
  same_set e = by_set r h e (λ q. rw q refl) (λ q. rw q refl) (λ q. rw q refl) (λ q. rw q refl)

  same-root : (row_at r).kind ≡ root → (with_field l r c).root ≡ c.root
  unfolding pick
  same-root e = rw (by_root r h e) refl

  same-value : (k : Kind) → (row_at r).kind ≡ k → value_at (with_field l r c) place_at (row_at r).number k r ≡ content_value k c
  unfolding value_at content_value
  same-value number32 e = rw (get_or-set_same l.values r c.value 0 (omega (arith, z.values))) refl
  same-value number64 e = rw (get_or-set_same l.values r c.value 0 (omega (arith, z.values))) refl
  same-value null e = refl
  same-value octets e = rw (get_or-set_same l.values r c.value 0 (omega (arith, z.values)), get_or-set_same l.sizes r c.size 0 (omega (arith, z.sizes))) refl
  same-value table.set e = rw (same_set e) refl
  same-value root e = rw (same-root e) refl

  pub stored_same : field_at (with_field l r c) place_at r ≡ field (row_at r).number (content_value (row_at r).kind c) ∷ []
  unfolding field_at pick
  stored_same = rw (get_or-set_same l.present r true false (omega (arith, z.present)), same-value (row_at r).kind refl) refl

  module _ (k : ℕ) (b : k < row_count) (n : k ≡ r → ⊥) where
    other_set : (row_at k).kind ≡ table.set → set_at (with_field l r c) (row_at k).number ≡ set_at l (row_at k).number
    unfolding rows pick
    other_set e =
        by_set k b e
        (λ q. rw (q, ne_eqb r 0 (λ u. n (q ∙ sym u))) refl)
        (λ q. rw (q, ne_eqb r 3 (λ u. n (q ∙ sym u))) refl)
        (λ q. rw (q, ne_eqb r 4 (λ u. n (q ∙ sym u))) refl)
        (λ q. rw (q, ne_eqb r 7 (λ u. n (q ∙ sym u))) refl)

    other_root : (row_at k).kind ≡ root → (with_field l r c).root ≡ l.root
    unfolding pick
    other_root e = rw (ne_eqb r 26 (λ u. n (by_root k b e ∙ sym u))) refl

    other_value : (j : Kind) → (row_at k).kind ≡ j → value_at (with_field l r c) place_at (row_at k).number j k ≡ value_at l place_at (row_at k).number j k
    unfolding value_at
    other_value number32 e = rw (get_or-set_other l.values r k c.value 0 n) refl
    other_value number64 e = rw (get_or-set_other l.values r k c.value 0 n) refl
    other_value null e = refl
    other_value octets e = rw (get_or-set_other l.values r k c.value 0 n, get_or-set_other l.sizes r k c.size 0 n) refl
    other_value table.set e = rw (other_set e) refl
    other_value root e = rw (other_root e) refl

    pub stored_other : field_at (with_field l r c) place_at k ≡ field_at l place_at k
    unfolding field_at
    stored_other = rw (get_or-set_other l.present r k true false n, other_value (row_at k).kind refl) refl

  pub stored_sized : RowsSized (with_field l r c)
  stored_sized = record {
    present = length-set l.present r true ∙ z.present;
    values = length-set l.values r c.value ∙ z.values;
    sizes = length-set l.sizes r c.size ∙ z.sizes;
  }

-- ---- an empty list

pub empty-none : (k : ℕ) → k < row_count → field_at empty_list place_at k ≡ []
unfolding field_at pick
empty-none k h = rw (get_or-replicate row_count k false false h) refl

pub empty_fields : fields_of empty_list place_at ≡ []
unfolding up_to
empty_fields = up_to-to (field_at empty_list place_at) 0 row_count (omega arith) (λ k p q. empty-none k q) ∙ zero_rows (field_at empty_list place_at)
  where
    zero_rows : (F : ℕ → List (FieldWith Place)) → up_to F 0 ≡ []
    zero_rows F = refl

pub empty-sized : RowsSized empty_list
empty-sized = record { present = refl; values = refl; sizes = refl }

pub empty-is : (g : NumberSet) (r : RootOfTrust) → g ≡ empty_set → r ≡ empty_root
    → ◌≡◌ {A = FieldList} (record { present = replicate row_count false; values = replicate row_count 0; sizes = replicate row_count 0; purpose = g; digest = g; padding = g; mgf = g; root = r }) empty_list
empty-is g r e q = rw (e, q) refl
