-- The other way round: a record that says a well-shaped content is well-shaped, where its sets are within their slots;
-- and its parts are inside where each octet row's and each root of trust's are. Assumes nothing.
use mathlib.Core.Path.{◌≡◌, refl}
use mathlib.Core.Bool.{Bool, true, false, ◌&&◌}
use mathlib.Core.Option.{none, some}
use mathlib.Core.List.{List, [], ◌∷◌, ◌++◌}
use Prim.Native.Nat.{ℕ, zero, suc, ◌+◌, ◌<◌, ◌≤◌}
use native.Mathlib.Omega.{arith}
use native.Mathlib.Numerals.{add-one}
use lib.Dec.{T, leb, ltb, eqb, leb→le, le→leb, lt→ltb}
use lib.ListN.{length, get_or, take}
use Rattle.answer.specs.Answer.{pick}
use Rattle.answer.proofs.Logic.{and_left, and_right, and_both, by_le}
use Rattle.codec.specs.Element.{chain_good}
use Rattle.schema.specs.Table.{Kind, set, number32, number64, null, octets, root, row_at, known_version, held_in, level_top, hashed, top32, row_count}
use Rattle.schema.specs.Content.{FieldWith, field, member_good, after_member, hash_good, value_good, row_good, field_good, after_field, list_good, well_shaped}
use Rattle.records.specs.declared.NumberSet.{NumberSet}
use Rattle.records.specs.declared.FieldList.{FieldList}
use Rattle.records.specs.declared.Record.{Record}
use Rattle.records.specs.Content.{set_at, members_of, value_at, field_at, up_to, fields_of, content_with}
use Rattle.records.specs.Rows.{all_below}
use Rattle.records.specs.Shape.{member_shaped, set_shaped, same, root_shaped, value_shaped, row_shaped, list_shaped, head_shaped, well_shaped_record}
use Rattle.records.specs.Slots.{SetInSlots, InSlots}
use Rattle.records.proofs.Rowwise.{all_none, all_more}
use Rattle.records.proofs.Fields.{row_found}

is_true : (b : Bool) → T b → b ≡ true
is_true true t = refl
is_true false t = absurd t

so : (b : Bool) → b ≡ true → T b
so b e = rw e tt

-- a test that holds of each number below n
pub all_of : (f : ℕ → Bool) (n : ℕ) → ((k : ℕ) → k < n → f k ≡ true) → all_below f n ≡ true
all_of f zero h = all_none f
all_of f (suc n) h = rw (add-one) at (all_more f n (all_of f n (λ k i. h k (omega arith))) (h n (omega arith)))

-- ---- sets

-- members that follow least, each above the one before and within its top
record Rising (l : List ℕ) (n least : ℕ) : Type 0 where
  first : 0 < n → least ≤ get_or l 0 0
  top : (j : ℕ) → j < n → get_or l j 0 ≤ top32
  rise : (j : ℕ) → suc j < n → get_or l j 0 < get_or l (suc j) 0

rising : (l : List ℕ) (n i least : ℕ) → n ≤ length l → T (chain_good member_good after_member (i, least) (take n l)) → Rising l n least
rising l zero i least h t = record { first = λ g. absurd (omega arith); top = λ j g. absurd (omega arith); rise = λ j g. absurd (omega arith) }
rising [] (suc n) i least h t = absurd (omega arith)
rising (x ∷ l) (suc n) i least h t =
    let m = and_right (ltb i 16) _ (and_left (member_good (i, least) x) _ t) in
    let r = rising l n (i + 1) (x + 1) (omega arith) (and_right (member_good (i, least) x) _ t) in
    record {
      first = λ g. leb→le least x (and_right (leb x top32) (leb least x) m);
      top = λ j g. tops r (leb→le x top32 (and_left (leb x top32) (leb least x) m)) j g;
      rise = λ j g. rises r j g;
    }
  where
    tops : Rising l n (x + 1) → x ≤ top32 → (j : ℕ) → j < suc n → get_or (x ∷ l) j 0 ≤ top32
    tops r m zero g = m
    tops r m (suc j) g = r.top j (omega arith)

    rises : Rising l n (x + 1) → (j : ℕ) → suc j < suc n → get_or (x ∷ l) j 0 < get_or (x ∷ l) (suc j) 0
    rises r zero g = omega (arith, r.first (omega arith))
    rises r (suc j) g = r.rise j (omega arith)

member-shaped : (l : List ℕ) (n : ℕ) → Rising l n 0 → (j : ℕ) → j < n → member_shaped l j ≡ true
member-shaped l n r zero h = is_true _ (le→leb (get_or l zero 0) top32 (r.top zero h))
member-shaped l n r (suc j) h = is_true _ (and_both (leb (get_or l (suc j) 0) top32) _ (le→leb (get_or l (suc j) 0) top32 (r.top (suc j) h)) (lt→ltb (get_or l j 0) (get_or l (suc j) 0) (r.rise j h)))

set-shaped : (g : NumberSet) → SetInSlots g → T (chain_good member_good after_member (0, 0) (members_of g)) → T (set_shaped g)
unfolding set_shaped
set-shaped g i t =
    let r = rising g.members g.count 0 0 (omega (arith, i.0, i.1)) t in
    and_both (leb g.count 16) _ (le→leb g.count 16 i.0) (so _ (all_of (member_shaped g.members) g.count (member-shaped g.members g.count r)))

either : (P : NumberSet → Type 0) (b : Bool) (g h : NumberSet) → P g → P h → P (pick b g h)
unfolding pick
either P true g h p q = p
either P false g h p q = q

set_in_slots : (l : FieldList) (n : ℕ) → InSlots l → SetInSlots (set_at l n)
set_in_slots l n i =
    either SetInSlots (eqb n 1) l.purpose _ i.purpose
    (either SetInSlots (eqb n 5) l.digest _ i.digest
    (either SetInSlots (eqb n 6) l.padding l.mgf i.padding i.mgf))

-- ---- values

hash-shaped : {O : Type 0} (a b : Bool) (bs : O) → T (hash_good b (pick a (some bs) none)) → T (same a b)
unfolding hash_good pick
hash-shaped true true bs t = tt
hash-shaped true false bs t = t
hash-shaped false true bs t = t
hash-shaped false false bs t = tt

value-shaped : {O : Type 0} (v : ℕ) (l : FieldList) (part : ℕ → ℕ → O) (n k : ℕ) (d : Kind) → InSlots l → T (value_good v d (value_at l part n d k)) → T (value_shaped v d (get_or l.values k 0) (set_at l n) l.root)
unfolding value_shaped value_good value_at root_shaped pick
value-shaped v l part n k set i t = set-shaped (set_at l n) (set_in_slots l n i) t
value-shaped v l part n k number32 i t = t
value-shaped v l part n k number64 i t = t
value-shaped v l part n k null i t = tt
value-shaped v l part n k octets i t = tt
value-shaped v l part n k root i t =
    let r = l.root in
    and_both (leb r.state 3) _ (and_left (leb r.state 3) _ t)
    (hash-shaped r.hashed (hashed v) (part r.hash.start r.hash.len) (and_right (leb r.state 3) _ t))

-- ---- rows

-- each part of a list in order is in order, from some number on
parted : {O : Type 0} (v low : ℕ) (xs ys : List (FieldWith O)) → T (chain_good (field_good v) after_field low (xs ++ ys)) → T (chain_good (field_good v) after_field low xs) × ((m : ℕ) × T (chain_good (field_good v) after_field m ys))
parted v low [] ys t = (tt, (low, t))
parted v low (x ∷ xs) ys t =
    let p = parted v (x.number + 1) xs ys (and_right (field_good v low x) _ t) in
    (and_both (field_good v low x) _ (and_left (field_good v low x) _ t) p.0, p.1)

module _ {O : Type 0} (v : ℕ) (l : FieldList) (part : ℕ → ℕ → O) (i : InSlots l) where
  row-shaped : (k low : ℕ) → k < row_count → (b : Bool) → T (chain_good (field_good v) after_field low (pick b (field (row_at k).number (value_at l part (row_at k).number (row_at k).kind k) ∷ []) []))
      → T (pick b (held_in v (row_at k) && value_shaped v (row_at k).kind (get_or l.values k 0) (set_at l (row_at k).number) l.root) true)
  unfolding pick field_good row_good
  row-shaped k low h true t =
      let f = field (row_at k).number (value_at l part (row_at k).number (row_at k).kind k) in
      let u = and_right (leb low (row_at k).number) _ (and_left (field_good v low f) true t) in
      let w : T (held_in v (row_at k) && value_good v (row_at k).kind f.value) = rw (row_found k h) at u in
      and_both (held_in v (row_at k)) _ (and_left (held_in v (row_at k)) _ w) (value-shaped v l part (row_at k).number k (row_at k).kind i (and_right (held_in v (row_at k)) _ w))
  row-shaped k low h false t = tt

  rows-shaped : (n : ℕ) → n ≤ row_count → T (chain_good (field_good v) after_field 0 (up_to (field_at l part) n)) → (k : ℕ) → k < n → row_shaped v l k ≡ true
  unfolding up_to field_at row_shaped
  rows-shaped zero h t k g = absurd (omega arith)
  rows-shaped (suc n) h t k g =
      let p = parted v 0 (up_to (field_at l part) n) (field_at l part n) t in
      by_le n k
      (λ q. let z : k ≡ n = omega arith in rw z (is_true _ (row-shaped n p.1.0 h (get_or l.present n false) p.1.1)))
      (λ q. rows-shaped n (omega arith) p.0 k q)

  list_shaped_lem : T (list_good v (fields_of l part)) → T (list_shaped v l)
  unfolding list_shaped list_good
  list_shaped_lem t = so _ (all_of (row_shaped v l) row_count (rows-shaped row_count (omega arith) t))

-- a record whose sets are within their slots and that says a well-shaped content is well-shaped
pub content_shaped : {O : Type 0} (r : Record) (part : ℕ → ℕ → O) → InSlots r.software → InSlots r.hardware → T (well_shaped (content_with part r)) → T (well_shaped_record r)
unfolding well_shaped_record head_shaped well_shaped
content_shaped r part i j t =
    let v = r.attestation.version in
    let t₁ = and_right (known_version v) _ t in
    let t₂ = and_right (leb r.attestation.level (level_top v)) _ t₁ in
    let t₃ = and_right (leb r.keymint.version top32) _ t₂ in
    let t₄ = and_right (leb r.keymint.level (level_top v)) _ t₃ in
    and_both (head_shaped v r.attestation.level r.keymint.version r.keymint.level) _
    (and_both (known_version v) _ (and_left (known_version v) _ t)
    (and_both (leb r.keymint.version top32) _ (and_left (leb r.keymint.version top32) _ t₂)
    (and_both (leb r.attestation.level (level_top v)) _ (and_left (leb r.attestation.level (level_top v)) _ t₁)
    (and_left (leb r.keymint.level (level_top v)) _ t₃))))
    (and_both (list_shaped v r.software) _ (list_shaped_lem v r.software part i (and_left (list_good v (fields_of r.software part)) _ t₄))
    (list_shaped_lem v r.hardware part j (and_right (list_good v (fields_of r.software part)) _ t₄)))
