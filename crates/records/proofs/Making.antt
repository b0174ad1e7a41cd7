-- The record that a well-shaped content's places make says just that content: each field stands at its number's row, and
-- rows ascend as fields do. Assumes nothing.
use mathlib.Core.Path.{◌≡◌, refl, sym, ◌∙◌}
use mathlib.Core.Bool.{Bool, true, false}
use mathlib.Core.Option.{Option, none, some}
use mathlib.Core.List.{List, [], ◌∷◌, ◌++◌, map}
use Prim.Native.Nat.{ℕ, ◌+◌, ◌<◌, ◌≤◌}
use native.Mathlib.Omega.{arith}
use lib.Dec.{T, leb, ltb, eqb, leb→le, ltb→lt}
use lib.ListN.{length, get_or, replicate, length-append, length-replicate}
use lib.Seq.{length-take-le, take-take, take-append_seam}
use borrow.Author.Tests.{eq-eqb, ne_eqb, eqb-true}
use Rattle.answer.specs.Answer.{pick}
use Rattle.answer.proofs.Logic.{by_le, and_left, and_right}
use Rattle.codec.specs.Element.{chain_good}
use Rattle.schema.specs.Table.{Kind, is_kind, set, number32, number64, null, octets, root, Row, row, rows, row_at, index_of, find, held_in, known_version, level_top, top32, row_count}
use Rattle.schema.specs.Content.{RootWith, ValueWith, num, nul, oct, nums, trust, FieldWith, field, Place, place_at, Places, member_good, after_member, value_good, row_good, field_good, after_field, list_good, well_shaped}
use Rattle.schema.proofs.Codecs.{shaped}
use Rattle.schema.proofs.Table.{above, find-place, find_none}
use Rattle.records.specs.Fields.{field_value}
use Rattle.records.specs.Content.{members_of, root_of, set_at, value_at, field_at, up_to, fields_of, places_of}
use Rattle.records.specs.Slots.{SetInSlots, InSlots}
use Rattle.records.specs.Made.{is_there, value_word, size_word, or_zero, set_made, members_in, is_hashed, hash_at, root_made, root_in, list_made, record_made}
use Rattle.records.proofs.Placed.{by_set, by_root}
use Rattle.records.proofs.Fields.{rows_differ, row_found}
use Rattle.records.proofs.Made.{get_d_map, rows-length}
use Rattle.records.proofs.UpTo.{up_to-to, up_to_agree, up_to-first}

-- ---- a set and a root of trust, made and asked again

members-few : (s : ℕ × ℕ) (l : List ℕ) → s.0 ≤ 16 → T (chain_good member_good after_member s l) → s.0 + length l ≤ 16
members-few s [] h t = omega arith
members-few s (n ∷ l) h t =
    let m = ltb→lt s.0 16 (and_left (ltb s.0 16) _ (and_left (member_good s n) _ t)) in
    omega (arith, members-few (after_member s n) l (omega arith) (and_right (member_good s n) _ t))

members-back : (l : List ℕ) → length l ≤ 16 → members_of (set_made l) ≡ l
members-back l h = take-take (length l) 16 (l ++ replicate 16 0) h ∙ take-append_seam l (replicate 16 0)

hash-back : (h : Option Place) → pick (is_hashed h) (some (place_at (hash_at h).start (hash_at h).len)) none ≡ h
unfolding is_hashed hash_at pick
hash-back none = refl
hash-back (some p) = refl

root-back : (r : RootWith Place) → root_of place_at (root_made r) ≡ r
root-back r = rw (hash-back r.hash) refl

-- ---- a row of what was made

-- the field of a number, or none
abbrev just_one : ℕ → Option (ValueWith Place) → List (FieldWith Place)
just_one n none = []
just_one n (some x) = field n x ∷ []

value_good_lem : (v low n : ℕ) (fs : List (FieldWith Place)) (x : ValueWith Place) → T (chain_good (field_good v) after_field low fs) → field_value fs n ≡ some x → T (row_good v (find rows n) x)
unfolding field_value pick field_good
value_good_lem v low n [] x t e = absurd (let z : ◌≡◌ {A = ℕ} 0 1 = cc in omega arith)
value_good_lem v low n (f ∷ fs) x t e = go (eqb f.number n) refl e (value_good_lem v (f.number + 1) n fs x (and_right (field_good v low f) _ t))
  where
    here : T (row_good v (find rows f.number) f.value)
    here = and_right (leb low f.number) _ (and_left (field_good v low f) _ t)

    go : (b : Bool) → eqb f.number n ≡ b → pick b (some f.value) (field_value fs n) ≡ some x → (field_value fs n ≡ some x → T (row_good v (find rows n) x)) → T (row_good v (find rows n) x)
    go true q e i = let y : f.value ≡ x = cc in rw (← eqb-true f.number n q, ← y) here
    go false q e i = i e

module _ (v : ℕ) (fs : List (FieldWith Place)) (k : ℕ) (h : k < row_count) where
  abbrev n : ℕ
  n = (row_at k).number

  word : (f : Option (ValueWith Place) → ℕ) → get_or (map (λ (r : Row). f (field_value fs r.number)) rows) k 0 ≡ f (field_value fs n)
  word f = get_d_map (λ (r : Row). f (field_value fs r.number)) rows k (row 0 null 1 0) 0 (omega (arith, rows-length))

  set_there : (row_at k).kind ≡ set → set_at (list_made fs) n ≡ set_made (members_in (field_value fs n))
  unfolding rows pick
  set_there s = by_set k h s (λ q. rw q refl) (λ q. rw q refl) (λ q. rw q refl) (λ q. rw q refl)

  root-there : (row_at k).kind ≡ root → root_in (field_value fs 704) ≡ root_in (field_value fs n)
  unfolding rows
  root-there s = rw (by_root k h s) refl

  value-back : (d : Kind) → (row_at k).kind ≡ d → (x : ValueWith Place) → field_value fs n ≡ some x → T (value_good v d x) → value_at (list_made fs) place_at n d k ≡ x
  unfolding value_at or_zero value_word size_word members_in root_in
  value-back number32 s x e t = let u = shaped v number32 x t in rw (word (or_zero value_word), e, ← u.1) refl
  value-back number64 s x e t = let u = shaped v number64 x t in rw (word (or_zero value_word), e, ← u.1) refl
  value-back null s x e t = shaped v null x t
  value-back octets s x e t = let u = shaped v octets x t in rw (word (or_zero value_word), word (or_zero size_word), e, ← u.1) refl
  value-back set s x e t =
      let u = shaped v set x t in
      rw (set_there s, e, ← u.1, members-back u.0 (omega (arith, members-few (0, 0) u.0 (omega arith) u.2))) refl
  value-back root s x e t = let u = shaped v root x t in rw (root-there s, e, ← u.1, root-back u.0) refl

  row_back : (low : ℕ) → T (chain_good (field_good v) after_field low fs) → field_at (list_made fs) place_at k ≡ just_one n (field_value fs n)
  unfolding field_at is_there pick row_good
  row_back low t =
      rw (get_d_map (λ (r : Row). is_there (field_value fs r.number)) rows k (row 0 null 1 0) false (omega (arith, rows-length)))
      (go (field_value fs n) refl)
    where
      go : (o : Option (ValueWith Place)) → field_value fs n ≡ o → pick (is_there o) (field n (value_at (list_made fs) place_at n (row_at k).kind k) ∷ []) [] ≡ just_one n o
      go none e = refl
      go (some x) e =
          let g : T (row_good v (some (row_at k)) x) = rw (row_found k h) at (value_good_lem v low n fs x t e) in
          rw (value-back (row_at k).kind refl x e (and_right (held_in v (row_at k)) _ g)) refl

-- ---- all rows

low-none : (v low n : ℕ) (fs : List (FieldWith Place)) → T (chain_good (field_good v) after_field low fs) → n < low → field_value fs n ≡ none
unfolding field_value pick field_good
low-none v low n [] t h = refl
low-none v low n (f ∷ fs) t h =
    let m : low ≤ f.number = leb→le low f.number (and_left (leb low f.number) _ (and_left (field_good v low f) _ t)) in
    rw (ne_eqb f.number n (omega arith)) (low-none v (f.number + 1) n fs (and_right (field_good v low f) _ t) (omega arith))

-- the row of a number that a version holds
held-row : (v n : ℕ) (x : ValueWith Place) → T (row_good v (find rows n) x) → (index_of rows n < row_count) × ((row_at (index_of rows n)).number ≡ n)
unfolding row_good
held-row v n x t =
    by_le row_count (index_of rows n)
    (λ h. absurd (rw (find_none rows n (omega (arith, rows-length))) at t))
    (λ h. (h, (find-place rows n (row 0 null 1 0) (omega (arith, rows-length))).1))

no_rows : (F : ℕ → List (FieldWith Place)) → up_to F 0 ≡ []
unfolding up_to
no_rows F = refl

all_rows : (v low : ℕ) (fs : List (FieldWith Place)) → T (chain_good (field_good v) after_field low fs) → up_to (λ k. just_one (row_at k).number (field_value fs (row_at k).number)) row_count ≡ fs
unfolding field_value pick field_good
all_rows v low [] t = up_to-to (λ k. []) 0 row_count (omega arith) (λ k a b. refl) ∙ no_rows (λ k. [])
all_rows v low (f ∷ fs) t =
    let r = held-row v f.number f.value (and_right (leb low f.number) _ (and_left (field_good v low f) _ t)) in
    let t' = and_right (field_good v low f) _ t in
    up_to-first (λ k. just_one (row_at k).number (field_value fs (row_at k).number)) (λ k. just_one (row_at k).number (field_value (f ∷ fs) (row_at k).number)) row_count (index_of rows f.number) r.0
    (λ k b ne. rw (ne_eqb f.number (row_at k).number (λ q. rows_differ k (index_of rows f.number) b r.0 ne (sym q ∙ sym r.1))) refl)
    (λ k a b. rw (low-none v (f.number + 1) (row_at k).number fs t' (below k a b r.0 r.1)) refl)
    ∙ rw (r.1, eq-eqb f.number f.number refl, all_rows v (f.number + 1) fs t') refl
  where
    below : (k : ℕ) → k ≤ index_of rows f.number → k < row_count → index_of rows f.number < row_count → (row_at (index_of rows f.number)).number ≡ f.number → (row_at k).number < f.number + 1
    below k a b c e =
        by_le (index_of rows f.number) k
        (λ p. let q : k ≡ index_of rows f.number = omega arith in rw (q, e) (omega arith))
        (λ p. omega (arith, above k (index_of rows f.number) p c))

-- ---- the sets that are made keep to their slots

-- a set's members are few, by whatever row its value has
members_of_lem : (v : ℕ) (k : Kind) (x : ValueWith Place) → T (value_good v k x) → length (members_in (some x)) ≤ 16
unfolding value_good members_in
members_of_lem v k (num n) t = omega arith
members_of_lem v k nul t = omega arith
members_of_lem v k (oct p) t = omega arith
members_of_lem v k (nums l) t = omega (arith, members-few (0, 0) l (omega arith) (and_right (is_kind set k) _ t))
members_of_lem v k (trust r) t = omega arith

few_of : (v : ℕ) (w : Option Row) (x : ValueWith Place) → T (row_good v w x) → length (members_in (some x)) ≤ 16
unfolding row_good
few_of v none x t = absurd t
few_of v (some w) x t = members_of_lem v w.kind x (and_right (held_in v w) _ t)

few : (v : ℕ) (fs : List (FieldWith Place)) → T (chain_good (field_good v) after_field 0 fs) → (n : ℕ) (o : Option (ValueWith Place)) → field_value fs n ≡ o → length (members_in o) ≤ 16
unfolding members_in
few v fs t n none e = omega arith
few v fs t n (some x) e = few_of v (find rows n) x (value_good_lem v 0 n fs x t e)

in_slots : (l : List ℕ) → length l ≤ 16 → SetInSlots (set_made l)
in_slots l h = (h, length-take-le 16 (l ++ replicate 16 0) (omega (arith, length-append l (replicate 16 0), length-replicate {A = ℕ} 16 0)))

list_slots : (v : ℕ) (fs : List (FieldWith Place)) → T (list_good v fs) → InSlots (list_made fs)
unfolding list_good
list_slots v fs t = record {
  purpose = in_slots (members_in (field_value fs 1)) (few v fs t 1 (field_value fs 1) refl);
  digest = in_slots (members_in (field_value fs 5)) (few v fs t 5 (field_value fs 5) refl);
  padding = in_slots (members_in (field_value fs 6)) (few v fs t 6 (field_value fs 6) refl);
  mgf = in_slots (members_in (field_value fs 203)) (few v fs t 203 (field_value fs 203) refl);
}

-- the record that a content's places make says that content
module _ (c : Places) (t : T (well_shaped c)) where
  list_says : (v : ℕ) (fs : List (FieldWith Place)) → T (list_good v fs) → fields_of (list_made fs) place_at ≡ fs
  unfolding list_good
  list_says v fs g = up_to_agree (field_at (list_made fs) place_at) (λ k. just_one (row_at k).number (field_value fs (row_at k).number)) row_count (λ k h. row_back v fs k h 0 g) ∙ all_rows v 0 fs g

  pub made-says : places_of (record_made c) ≡ c
  unfolding well_shaped
  made-says =
      let v : ℕ = c.version in
      let g = and_right (leb c.keymint_level (level_top v)) _ (and_right (leb c.keymint top32) _ (and_right (leb c.level (level_top v)) _ (and_right (known_version v) _ t))) in
      rw (list_says v c.software (and_left (list_good v c.software) _ g), list_says v c.hardware (and_right (list_good v c.software) _ g)) refl

  pub made_slots : InSlots (record_made c).software × InSlots (record_made c).hardware
  unfolding well_shaped
  made_slots =
      let v : ℕ = c.version in
      let g = and_right (leb c.keymint_level (level_top v)) _ (and_right (leb c.keymint top32) _ (and_right (leb c.level (level_top v)) _ (and_right (known_version v) _ t))) in
      (list_slots v c.software (and_left (list_good v c.software) _ g), list_slots v c.hardware (and_right (list_good v c.software) _ g))
