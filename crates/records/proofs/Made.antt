-- A record in which all that is absent or spare is zero is `record_made` of its places: each row is what its own field
-- leaves there. Assumes nothing.
use mathlib.Core.Path.{◌≡◌, refl, sym, ap, ◌∙◌}
use mathlib.Core.Bool.{Bool, true, false, ◌&&◌}
use mathlib.Core.Option.{Option, none, some}
use mathlib.Core.List.{List, [], ◌∷◌, ◌++◌, map}
use Prim.Native.Nat.{ℕ, zero, suc, ◌+◌, ◌-◌, ◌<◌}
use native.Mathlib.Omega.{arith}
use lib.ListN.{length, get_or, take, replicate, length-map, length-append, length-replicate, get_or-replicate, get_or-append}
use lib.Seq.{ext_get_or, get_or-take, length-take-le, get_or-append-add}
use Rattle.answer.specs.Answer.{pick}
use Rattle.answer.proofs.Logic.{by_le}
use Rattle.schema.specs.Table.{Kind, set, number32, number64, null, octets, root, Row, row, rows, row_at, row_count}
use Rattle.schema.specs.Content.{ValueWith, nums, trust, Place, place_at}
use Rattle.records.specs.Fields.{field_value}
use Rattle.records.specs.Content.{members_of, root_of, value_at, fields_of, places_of}
use Rattle.records.specs.Equal.{present_at}
use Rattle.records.specs.Slots.{SetInSlots, InSlots}
use Rattle.records.specs.Empty.{empty_set, empty_list, empty_record}
use Rattle.records.specs.Made.{is_there, value_word, size_word, or_zero, set_made, members_in, is_hashed, hash_at, root_made, root_in, list_made, record_made}
use Rattle.records.specs.Clear.{uses_value, uses_size, SpareClear, HashClear, SetClear, RootClear, RowsSized, ListClear}
use Rattle.records.specs.declared.NumberSet.{NumberSet}
use Rattle.records.specs.declared.RootOfTrust.{RootOfTrust}
use Rattle.records.specs.declared.FieldList.{FieldList}
use Rattle.records.specs.declared.Record.{Record}
use Rattle.records.proofs.Fields.{row-value}

pub get_d_map : {A B : Type 0} (f : A → B) (l : List A) (i : ℕ) (d : A) (e : B) → i < length l → get_or (map f l) i e ≡ f (get_or l i d)
get_d_map f [] i d e h = absurd (omega arith)
get_d_map f (x ∷ l) zero d e h = refl
get_d_map f (x ∷ l) (suc i) d e h = get_d_map f l i d e (omega arith)

pub rows-length : length rows ≡ row_count
unfolding rows
rows-length = refl

-- ---- rows

module _ (l : FieldList) (z : RowsSized l) (c : ListClear l) where
  abbrev there : ℕ → Option (ValueWith Place)
  there n = field_value (fields_of l place_at) n

  is-there : (b : Bool) (x : ValueWith Place) → is_there (pick b (some x) none) ≡ b
  unfolding is_there pick
  is-there true x = refl
  is-there false x = refl

  value_there : (k n : ℕ) (d : Kind) (b : Bool) → ((b && uses_value d) ≡ false → get_or l.values k 0 ≡ 0) → or_zero value_word (pick b (some (value_at l place_at n d k)) none) ≡ get_or l.values k 0
  unfolding or_zero value_word value_at pick
  value_there k n d false h = sym (h refl)
  value_there k n set true h = sym (h refl)
  value_there k n number32 true h = refl
  value_there k n number64 true h = refl
  value_there k n null true h = sym (h refl)
  value_there k n octets true h = refl
  value_there k n root true h = sym (h refl)

  size-there : (k n : ℕ) (d : Kind) (b : Bool) → ((b && uses_size d) ≡ false → get_or l.sizes k 0 ≡ 0) → or_zero size_word (pick b (some (value_at l place_at n d k)) none) ≡ get_or l.sizes k 0
  unfolding or_zero size_word value_at pick
  size-there k n d false h = sym (h refl)
  size-there k n set true h = sym (h refl)
  size-there k n number32 true h = sym (h refl)
  size-there k n number64 true h = sym (h refl)
  size-there k n null true h = sym (h refl)
  size-there k n octets true h = refl
  size-there k n root true h = sym (h refl)

  by_rows : {A : Type 0} (f : Option (ValueWith Place) → A) (d : A) (xs : List A) → length xs ≡ row_count → ((k : ℕ) → k < row_count → f (there (row_at k).number) ≡ get_or xs k d) → map (λ (r : Row). f (there r.number)) rows ≡ xs
  by_rows {A} f d xs s h =
      let m : length (map (λ (r : Row). f (there r.number)) rows) ≡ row_count = length-map rows (λ (r : Row). f (there r.number)) ∙ rows-length in
      ext_get_or d (map (λ (r : Row). f (there r.number)) rows) xs (m ∙ sym s)
      (λ i b. get_d_map (λ (r : Row). f (there r.number)) rows i (row 0 null 1 0) d (omega (arith, m, rows-length)) ∙ h i (omega (arith, m)))

  present-made : map (λ (r : Row). is_there (there r.number)) rows ≡ l.present
  present-made = by_rows is_there false l.present z.present (λ k h. ap is_there (row-value l place_at k h) ∙ is-there (present_at l k) _)

  values-made : map (λ (r : Row). or_zero value_word (there r.number)) rows ≡ l.values
  values-made = by_rows (or_zero value_word) 0 l.values z.values (λ k h. ap (or_zero value_word) (row-value l place_at k h) ∙ value_there k (row_at k).number (row_at k).kind (present_at l k) (c.value k h))

  sizes-made : map (λ (r : Row). or_zero size_word (there r.number)) rows ≡ l.sizes
  sizes-made = by_rows (or_zero size_word) 0 l.sizes z.sizes (λ k h. ap (or_zero size_word) (row-value l place_at k h) ∙ size-there k (row_at k).number (row_at k).kind (present_at l k) (c.size k h))

-- ---- a set

module _ (g : NumberSet) (s : SetInSlots g) (c : SpareClear g) where
  counted : length (members_of g) ≡ g.count
  counted = length-take-le g.count g.members (omega (arith, s.0, s.1))

  padded : length (take 16 (members_of g ++ replicate 16 0)) ≡ 16
  padded = length-take-le 16 (members_of g ++ replicate 16 0) (omega (arith, length-append (members_of g) (replicate 16 0), length-replicate {A = ℕ} 16 0))

  slot : (i : ℕ) → i < 16 → get_or (take 16 (members_of g ++ replicate 16 0)) i 0 ≡ get_or g.members i 0
  slot i h =
      get_or-take 16 (members_of g ++ replicate 16 0) i 0 h
      ∙ by_le g.count i
      (λ p. let j : length (members_of g) + (i - g.count) ≡ i = omega (arith, counted) in
      ap (λ (k : ℕ). get_or (members_of g ++ replicate 16 0) k 0) (sym j)
      ∙ get_or-append-add (members_of g) (replicate 16 0) (i - g.count) 0
      ∙ get_or-replicate 16 (i - g.count) 0 0 (omega arith)
      ∙ sym (c i p h))
      (λ p. get_or-append (members_of g) (replicate 16 0) 0 i (omega (arith, counted)) ∙ get_or-take g.count g.members i 0 p)

  pub set-made : set_made (members_of g) ≡ g
  set-made = rw (counted, ext_get_or 0 (take 16 (members_of g ++ replicate 16 0)) g.members (padded ∙ sym s.1) (λ i h. slot i (omega (arith, padded)))) refl

set_there : (b : Bool) (g : NumberSet) → SetInSlots g → SetClear b g → set_made (members_in (pick b (some (nums (members_of g))) none)) ≡ g
unfolding members_in pick
set_there true g s c = set-made g s c.spare
set_there false g s c = sym (c.absent refl)

-- ---- a root of trust

hash-made : (t : RootOfTrust) (b : Bool) → (b ≡ false → t.hash ≡ record { start = 0; len = 0 })
    → root_made (record { key = place_at t.key.start t.key.len; locked = t.locked; state = t.state; hash = pick b (some (place_at t.hash.start t.hash.len)) none })
    ≡ record { key = t.key; locked = t.locked; state = t.state; hashed = b; hash = t.hash }
unfolding is_hashed hash_at pick
hash-made t true h = refl
hash-made t false h = rw (h refl) refl

root-made : (t : RootOfTrust) → HashClear t → root_made (root_of place_at t) ≡ t
root-made t c = hash-made t t.hashed c

root-there : (b : Bool) (t : RootOfTrust) → RootClear b t → root_in (pick b (some (trust (root_of place_at t))) none) ≡ t
unfolding root_in pick
root-there true t c = root-made t c.hash
root-there false t c = sym (c.absent refl)

-- ---- a list, and the record

module _ (l : FieldList) (z : RowsSized l) (s : InSlots l) (c : ListClear l) where
  abbrev said : ℕ → Option (ValueWith Place)
  said n = field_value (fields_of l place_at) n

  -- the set of row k is the one that the list has for its number
  a_set : (k : ℕ) (h : k < row_count) (g : NumberSet) → value_at l place_at (row_at k).number (row_at k).kind k ≡ nums (members_of g) → SetInSlots g → SetClear (present_at l k) g → set_made (members_in (said (row_at k).number)) ≡ g
  a_set k h g e i d = rw (row-value l place_at k h, e) (set_there (present_at l k) g i d)

  purpose-made : set_made (members_in (said 1)) ≡ l.purpose
  unfolding rows value_at pick
  purpose-made = a_set 0 (omega arith) l.purpose refl s.purpose c.purpose

  digest-made : set_made (members_in (said 5)) ≡ l.digest
  unfolding rows value_at pick
  digest-made = a_set 3 (omega arith) l.digest refl s.digest c.digest

  padding-made : set_made (members_in (said 6)) ≡ l.padding
  unfolding rows value_at pick
  padding-made = a_set 4 (omega arith) l.padding refl s.padding c.padding

  mgf-made : set_made (members_in (said 203)) ≡ l.mgf
  unfolding rows value_at pick
  mgf-made = a_set 7 (omega arith) l.mgf refl s.mgf c.mgf

  its_root : root_in (said 704) ≡ l.root
  unfolding rows value_at
  its_root = ap root_in (row-value l place_at 26 (omega arith)) ∙ root-there (present_at l 26) l.root c.root

  pub list_made_lem : list_made (fields_of l place_at) ≡ l
  list_made_lem = rw (present-made l z c, values-made l z c, sizes-made l z c, purpose-made, digest-made, padding-made, mgf-made, its_root) refl

-- the record is just what its places make
pub record_made_lem : (r : Record) → RowsSized r.software → InSlots r.software → ListClear r.software → RowsSized r.hardware → InSlots r.hardware → ListClear r.hardware → record_made (places_of r) ≡ r
record_made_lem r z s c y i d = rw (list_made_lem r.software z s c, list_made_lem r.hardware y i d) refl

-- ---- a record of nothing

pub empty-sized : RowsSized empty_list
empty-sized = record { present = refl; values = refl; sizes = refl }

pub empty_slots : InSlots empty_list
empty_slots = record { purpose = (omega arith, refl); digest = (omega arith, refl); padding = (omega arith, refl); mgf = (omega arith, refl) }

pub empty-spare : SpareClear empty_set
empty-spare k p q = get_or-replicate {A = ℕ} 16 k 0 0 q

set-nothing : (b : Bool) → SetClear b empty_set
set-nothing b = record { spare = empty-spare; absent = λ e. refl }

pub empty-clear : ListClear empty_list
empty-clear = record {
  value = λ k h e. get_or-replicate {A = ℕ} row_count k 0 0 h;
  size = λ k h e. get_or-replicate {A = ℕ} row_count k 0 0 h;
  purpose = set-nothing _;
  digest = set-nothing _;
  padding = set-nothing _;
  mgf = set-nothing _;
  root = record { hash = λ e. refl; absent = λ e. refl };
}

pub empty-made : record_made (places_of empty_record) ≡ empty_record
empty-made = record_made_lem empty_record empty-sized empty_slots empty-clear empty-sized empty_slots empty-clear
