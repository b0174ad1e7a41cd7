-- The loop that fills a list: its fields are those read so far, rows not yet reached are absent, and the rest is ahead.
-- Assumes nothing.
use mathlib.Core.Path.{◌≡◌, refl, ap, ◌∙◌}
use mathlib.Core.Bool.{true}
use mathlib.Core.List.{List, [], ◌∷◌, ◌++◌}
use Prim.Native.Nat.{ℕ, ◌+◌, ◌<◌, ◌≤◌}
use native.Mathlib.Omega.{arith}
use lib.ListN.{length}
use lib.Seq.{slice}
use borrow.Author.Tests.{ne_eqb}
use Rattle.records.proofs.Placed.{by_set, by_root}
use Rattle.answer.specs.Answer.{got, refused, bind, pick}
use Rattle.answer.proofs.Logic.{by_le}
use Rattle.codec.specs.Octets.{taken}
use Rattle.codec.specs.Element.{chain}
use Rattle.schema.specs.Table as table
use Rattle.schema.specs.Table.{rows, row_at, row_count, kind_number}
use Rattle.schema.specs.Content.{FieldWith, field, after_field, Place, place_at}
use Rattle.schema.specs.Decode.{read_value, read_field, read_list, as_place}
use Rattle.schema.proofs.Table.{above}
use Rattle.records.specs.Content.{field_at, fields_of}
use Rattle.records.specs.declared.NumberSet.{NumberSet}
use Rattle.records.specs.declared.RootOfTrust.{RootOfTrust}
use Rattle.records.specs.declared.FieldList.{FieldList}
use Rattle.contents.specs.Content.{Stored, plain_content, content_value, is_plain}
use Rattle.reader.specs.Fields.{FieldAt}
use Rattle.contents.specs.Element.{opened_as}
use Rattle.reader.specs.Lists.{with_field, with_set, with_root, with_row, fields_from}
use Rattle.records.specs.Empty.{empty_list}
use Rattle.contents.specs.Kept.{ContentKept}
use Rattle.reader.specs.Inside.{ListIn}
use Rattle.contents.proofs.Open.{leaf_no, leaf_is}
use Rattle.contents.proofs.Chains.{Ahead, ahead_start, ahead_refused, ahead_more, ahead_end}
use Rattle.contents.proofs.Contents.{set_stored, root_stored, plain_row}
use Rattle.reader.proofs.Bounds.{empty_in, stored_in}
use Rattle.records.proofs.UpTo.{up_to_one}
use Rattle.reader.proofs.Lists.{stored_same, stored_other, empty-none, empty_fields}

pub record Filled (s : List ℕ) (at end v : ℕ) (l : FieldList) (place low : ℕ) : Type 0 where
  pub from : at ≤ place
  pub to : place ≤ end
  pub absent : (k : ℕ) → k < row_count → low ≤ (row_at k).number → field_at l place_at k ≡ []
  pub ahead : Ahead (read_field as_place v) after_field s end (fields_from v at (slice at end s)) (fields_of l place_at) low place
  pub bounds : ListIn (length s) l

module _ (s : List ℕ) (at end v : ℕ) (fit : end ≤ length s) where
  pub filled_none : at ≤ end → Filled s at end v empty_list at 0
  unfolding fields_from
  filled_none h = record {
    from = omega arith;
    to = h;
    absent = λ k b p. empty-none k b;
    ahead = rw empty_fields (ahead_start (read_field as_place v) after_field s end fit 0 at);
    bounds = empty_in (length s);
  }

  module _ (l : FieldList) (place low : ℕ) (g : Filled s at end v l place low) (h : place < end) where
    refuses : (k q : ℕ) → read_field as_place v low place (slice place end s) ≡ refused k q → refused k q ≡ fields_from v at (slice at end s)
    refuses k q w = ahead_refused (read_field as_place v) after_field s end fit _ (fields_of l place_at) low place g.ahead k q h w

    pub filled_no : (k q : ℕ) → read_field as_place v low place (slice place end s) ≡ refused k q → refused k q ≡ fields_from v at (slice at end s)
    filled_no = refuses

    module _ (row n b x : ℕ) (f : FieldAt s place end v low row n b x) where
      pub content_no : (k q : ℕ) → refused k q ≡ read_value as_place v (row_at row).kind place b (slice b x s) → refused k q ≡ fields_from v at (slice at end s)
      unfolding bind
      content_no k q e = refuses k q (f.reads ∙ rw (← e) refl)

      module _ (c : Stored) (e : got (content_value (row_at row).kind c) ≡ read_value as_place v (row_at row).kind place b (slice b x s)) (d : ContentKept (row_at row).kind (length s) c) where
        one : read_field as_place v low place (slice place end s) ≡ got (taken (field n (content_value (row_at row).kind c)) x (slice x end s))
        unfolding bind
        one = f.reads ∙ rw (← e) refl

        gone : fields_of (with_field l row c) place_at ≡ fields_of l place_at ++ (field n (content_value (row_at row).kind c) ∷ [])
        gone =
            let t = f.in_table in
            let m : (row_at row).number ≡ n = f.is_row in
            up_to_one (field_at l place_at) (field_at (with_field l row c) place_at) row_count row t
            (λ k b ne. stored_other l row c g.bounds.sized t k b ne)
            (λ k p b. g.absent k b (upper k p b))
            ∙ rw (stored_same l row c g.bounds.sized t, m) refl
          where
            upper : (k : ℕ) → row ≤ k → k < row_count → low ≤ (row_at k).number
            upper k p b = by_le k row (λ q. let e : k ≡ row = omega arith in rw e (omega (arith, f.is_row, f.above))) (λ q. omega (arith, above row k q b, f.is_row, f.above))

        pub filled_more : Filled s at end v (with_field l row c) x (n + 1)
        filled_more =
            let t = f.in_table in
            let m : (row_at row).number ≡ n = f.is_row in
            let z : place < x = omega (arith, f.body, f.stop) in
            record {
              from = omega (arith, g.from);
              to = f.inside;
              absent = λ k b p. stored_other l row c g.bounds.sized t k b (λ q. absurd (omega (arith, m, ap (λ (j : ℕ). (row_at j).number) q))) ∙ g.absent k b (omega (arith, f.above));
              ahead = rw gone (ahead_more (read_field as_place v) after_field s end fit _ (fields_of l place_at) low place g.ahead x (field n (content_value (row_at row).kind c)) h z one);
              bounds = stored_in (length s) l row c t g.bounds d;
            }

  pub filled_all : (l : FieldList) (place low : ℕ) → Filled s at end v l place low → end ≤ place → got (fields_of l place_at) ≡ fields_from v at (slice at end s)
  filled_all l place low g h = ahead_end (read_field as_place v) after_field s end fit _ (fields_of l place_at) low place g.ahead g.to h

-- ---- the list

module _ (s : List ℕ) (at end v : ℕ) where
  pub list_no : (k p : ℕ) → refused k p ≡ opened_as 1 16 at (slice at end s) → refused k p ≡ read_list as_place v at (slice at end s)
  unfolding read_list
  list_no k p e = leaf_no _ at 1 16 s end k p e

  module _ (b x : ℕ) (e : got (taken (b, slice b x s) x (slice x end s)) ≡ opened_as 1 16 at (slice at end s)) where
    pub list_fields_no : (k p : ℕ) → refused k p ≡ fields_from v b (slice b x s) → refused k p ≡ read_list as_place v at (slice at end s)
    unfolding read_list fields_from bind
    list_fields_no k p q = rw (← q) at (leaf_is (λ p q bs. chain (read_field as_place v) after_field 0 q bs) at 1 16 s end b x e)

    pub list_is : (l : List (FieldWith Place)) → got l ≡ fields_from v b (slice b x s) → got (taken l x (slice x end s)) ≡ read_list as_place v at (slice at end s)
    unfolding read_list fields_from bind
    list_is l q = rw (← q) at (leaf_is (λ p q bs. chain (read_field as_place v) after_field 0 q bs) at 1 16 s end b x e)

-- ---- a field stored

-- a set's row and 704's are none of the others
module _ (l : FieldList) (row : ℕ) (h : row < row_count) where
  pub set_with : (row_at row).kind ≡ table.set → (g : NumberSet) → with_row (with_set l row g) row 0 0 ≡ with_field l row (set_stored g)
  unfolding pick rows
  set_with e g = let q : row ≡ 26 → ⊥ = λ u. no_root (rw u at e) in rw (ne_eqb row 26 q) refl
    where
      no_root : table.root ≡ table.set → ⊥
      no_root u = let z : ◌≡◌ {A = ℕ} (kind_number table.root) (kind_number table.set) = ap kind_number u in omega (arith, z)

  pub root_with : (row_at row).kind ≡ table.root → (t : RootOfTrust) → with_row (with_root l t) row 0 0 ≡ with_field l row (root_stored t)
  unfolding pick
  root_with e t = rw (by_root row h e) refl

  pub plain_with : is_plain (row_at row).kind ≡ true → (v z : ℕ) → with_row l row v z ≡ with_field l row (plain_content v z)
  unfolding pick
  plain_with e v z =
      let n = plain_row row e in
      rw (ne_eqb row 0 n.0, ne_eqb row 3 n.1, ne_eqb row 4 n.2, ne_eqb row 7 n.3, ne_eqb row 26 n.4) refl

  -- a set in its place
  pub set_0 : row ≡ 0 → (g : NumberSet) → record { present = l.present; values = l.values; sizes = l.sizes; purpose = g; digest = l.digest; padding = l.padding; mgf = l.mgf; root = l.root } ≡ with_set l row g
  unfolding pick
  set_0 q g = rw q refl

  pub set_3 : row ≡ 3 → (g : NumberSet) → record { present = l.present; values = l.values; sizes = l.sizes; purpose = l.purpose; digest = g; padding = l.padding; mgf = l.mgf; root = l.root } ≡ with_set l row g
  unfolding pick
  set_3 q g = rw q refl

  pub set_4 : row ≡ 4 → (g : NumberSet) → record { present = l.present; values = l.values; sizes = l.sizes; purpose = l.purpose; digest = l.digest; padding = g; mgf = l.mgf; root = l.root } ≡ with_set l row g
  unfolding pick
  set_4 q g = rw q refl

  pub set_7 : (row_at row).kind ≡ table.set → (row ≡ 0 → ⊥) → (row ≡ 3 → ⊥) → (row ≡ 4 → ⊥) → (g : NumberSet)
      → record { present = l.present; values = l.values; sizes = l.sizes; purpose = l.purpose; digest = l.digest; padding = l.padding; mgf = g; root = l.root } ≡ with_set l row g
  unfolding pick
  set_7 e a₀ a₃ a₄ g = rw (by_set {X = row ≡ 7} row h e (λ q. absurd (a₀ q)) (λ q. absurd (a₃ q)) (λ q. absurd (a₄ q)) (λ q. q)) refl
