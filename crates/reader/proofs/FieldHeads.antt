-- A field, up to its content: one law for each answer. Assumes nothing.
use mathlib.Core.Path.{◌≡◌, refl, sym, ap, ◌∙◌}
use mathlib.Core.Bool.{Bool, true, false}
use mathlib.Core.Option.{some}
use mathlib.Core.List.{List}
use Prim.Native.Nat.{ℕ, ◌<◌, ◌≤◌}
use native.Mathlib.Omega.{arith}
use lib.ListN.{length}
use lib.Seq.{slice}
use borrow.Author.Tests.{le-leb, lt-leb, eq-eqb, ne_eqb}
use Rattle.answer.specs.Answer.{Answer, got, refused, guard, bind}
use Rattle.codec.specs.Octets.{taken}
use Rattle.codec.specs.Header.{identifier}
use Rattle.schema.specs.Table.{row, null, rows, row_at, index_of, find, held_in, row_count}
use Rattle.schema.specs.Content.{ValueWith, field, Place}
use Rattle.schema.specs.Decode.{read_value, row_content, field_content, read_field, as_place}
use Rattle.schema.specs.Rows.{of_row}
use Rattle.schema.specs.declared.Row as code
use Rattle.schema.proofs.Table.{find-place, find_none}
use Rattle.contents.specs.Element.{opening, opened}
use Rattle.reader.specs.Fields.{FieldAt}
use Rattle.contents.proofs.Open.{element_open, content_after}

rows-length : length rows ≡ row_count
unfolding rows
rows-length = refl

module _ (s : List ℕ) (at end v low : ℕ) where
  pub field_no : (k p : ℕ) → refused k p ≡ opened at (slice at end s) → read_field as_place v low at (slice at end s) ≡ refused k p
  unfolding read_field bind
  field_no k p e = rw (element_open, ← e) refl

  module _ (f n b x : ℕ) (e : got (taken (opening (identifier f n) b (slice b x s)) x (slice x end s)) ≡ opened at (slice at end s)) where
    opens : read_field as_place v low at (slice at end s) ≡ bind (field_content as_place v low (identifier f n) at b (slice b x s)) (λ a. got (taken a x (slice x end s)))
    unfolding read_field bind content_after
    opens = rw (element_open, ← e) refl

    pub field-form : (f ≡ 5 → ⊥) → read_field as_place v low at (slice at end s) ≡ refused 9 at
    unfolding field_content guard bind
    field-form h = opens ∙ rw (ne_eqb f 5 h) refl

    module _ (h : f ≡ 5) where
      tagged : read_field as_place v low at (slice at end s) ≡ bind (row_content as_place v low n (find rows n) at b (slice b x s)) (λ a. got (taken a x (slice x end s)))
      unfolding field_content guard
      tagged = opens ∙ rw (eq-eqb f 5 h) refl

      pub field_unknown : (i : ℕ) → i ≡ index_of rows n → row_count ≤ i → read_field as_place v low at (slice at end s) ≡ refused 11 at
      unfolding row_content bind
      field_unknown i q l = tagged ∙ rw (find_none rows n (omega (arith, rows-length, q))) refl

      module _ (i : ℕ) (q : i ≡ index_of rows n) (l : i < row_count) (c : code.Row) (qc : of_row c ≡ row_at i) (b₁ : Bool) (qb : b₁ ≡ held_in v (of_row c)) where
        place : (find rows n ≡ some (row_at i)) × ((row_at i).number ≡ n)
        place = rw q (find-place rows n (row 0 null 1 0) (omega (arith, rows-length, q)))

        held : held_in v (row_at i) ≡ b₁
        held = ap (held_in v) (sym qc) ∙ sym qb

        pub field-version : b₁ ≡ false → read_field as_place v low at (slice at end s) ≡ refused 11 at
        unfolding row_content guard bind
        field-version z = tagged ∙ rw (place.0, held, z) refl

        pub field_order_lem : b₁ ≡ true → n < low → read_field as_place v low at (slice at end s) ≡ refused 12 at
        unfolding row_content guard bind
        field_order_lem z o = tagged ∙ rw (place.0, held, z, lt-leb low n o) refl

        joined : (M : Answer (ValueWith Place)) → bind (bind M (λ y. got (field n y))) (λ a. got (taken a x (slice x end s))) ≡ bind M (λ y. got (taken (field n y) x (slice x end s)))
        unfolding bind
        joined (got y) = refl
        joined (refused k p) = refl

        pub field_is : b₁ ≡ true → low ≤ n → (at < b) × ((b ≤ x) × (x ≤ end)) → FieldAt s at end v low i n b x
        unfolding row_content guard
        field_is z o k = record {
          in_table = l;
          is_row = place.1;
          above = o;
          body = k.0;
          stop = k.1.0;
          inside = k.1.1;
          reads = tagged ∙ (rw (place.0, held, z, le-leb low n o) refl ∙ joined (read_value as_place v (row_at i).kind at b (slice b x s)));
        }
