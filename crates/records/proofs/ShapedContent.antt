-- A well-shaped record says a well-shaped content, whatever bytes its parts lie in. Fields come in ascending number, since
-- the rows do: what stands before a row leaves a least number that is at most the row's. Assumes nothing.
use mathlib.Core.Path.{◌≡◌, refl}
use mathlib.Core.Bool.{Bool, true, false, ◌&&◌}
use mathlib.Core.Option.{none, some}
use mathlib.Core.List.{List, [], ◌∷◌, ◌++◌}
use Prim.Native.Nat.{ℕ, zero, suc, ◌+◌, ◌<◌, ◌≤◌}
use native.Mathlib.Omega.{arith}
use lib.Dec.{T, leb, ltb, leb→le, le→leb, ltb→lt, lt→ltb}
use lib.ListN.{get_or, take}
use Rattle.answer.specs.Answer.{pick}
use Rattle.answer.proofs.Logic.{and_left, and_right, and_both}
use Rattle.codec.specs.Element.{chain_good}
use Rattle.schema.specs.Table.{Kind, set, number32, number64, null, octets, root, row_at, known_version, held_in, level_top, hashed, top32, row_count}
use Rattle.schema.specs.Content.{FieldWith, field, member_good, after_member, hash_good, value_good, row_good, field_good, after_field, list_good, well_shaped}
use Rattle.schema.proofs.Table.{above}
use Rattle.records.specs.declared.NumberSet.{NumberSet}
use Rattle.records.specs.declared.FieldList.{FieldList}
use Rattle.records.specs.declared.Record.{Record}
use Rattle.records.specs.Content.{set_at, members_of, value_at, field_at, up_to, fields_of, content_with}
use Rattle.records.specs.Rows.{all_below}
use Rattle.records.specs.Shape.{member_shaped, set_shaped, same, root_shaped, value_shaped, row_shaped, list_shaped, head_shaped, well_shaped_record}
use Rattle.records.proofs.Rowwise.{all_at}
use Rattle.records.proofs.Fields.{row_found}

is_true : (b : Bool) → T b → b ≡ true
is_true true t = refl
is_true false t = absurd t

so : (b : Bool) → b ≡ true → T b
so b e = rw e tt

-- ---- sets

-- n members, the first not below least, each above the one before and within its top
members_good : (l : List ℕ) (n i least : ℕ) → i + n ≤ 16 → (0 < n → least ≤ get_or l 0 0)
    → ((j : ℕ) → j < n → get_or l j 0 ≤ top32) → ((j : ℕ) → suc j < n → get_or l j 0 < get_or l (suc j) 0)
    → T (chain_good member_good after_member (i, least) (take n l))
members_good [] zero i least h f t a = tt
members_good [] (suc n) i least h f t a = tt
members_good (x ∷ l) zero i least h f t a = tt
members_good (x ∷ l) (suc n) i least h f t a =
    and_both (member_good (i, least) x) _
    (and_both (ltb i 16) _ (lt→ltb i 16 (omega arith)) (and_both (leb x top32) (leb least x) (le→leb x top32 (t 0 (omega arith))) (le→leb least x (f (omega arith)))))
    (members_good l n (i + 1) (x + 1) (omega arith) (λ g. omega (arith, a 0 (omega arith))) (λ j g. t (suc j) (omega arith)) (λ j g. a (suc j) (omega arith)))

set_good_lem : (g : NumberSet) → T (set_shaped g) → T (chain_good member_good after_member (0, 0) (members_of g))
unfolding set_shaped
set_good_lem g t =
    let n = leb→le g.count 16 (and_left (leb g.count 16) _ t) in
    let e = is_true (all_below (member_shaped g.members) g.count) (and_right (leb g.count 16) _ t) in
    members_good g.members g.count 0 0 (omega arith) (λ h. omega arith)
    (λ j h. top g.members j (all_at (member_shaped g.members) g.count j h e))
    (λ j h. rise g.members j (all_at (member_shaped g.members) g.count (suc j) h e))
  where
    top : (l : List ℕ) (j : ℕ) → member_shaped l j ≡ true → get_or l j 0 ≤ top32
    top l zero e = leb→le (get_or l zero 0) top32 (so _ e)
    top l (suc j) e = leb→le (get_or l (suc j) 0) top32 (and_left (leb (get_or l (suc j) 0) top32) _ (so _ e))

    rise : (l : List ℕ) (j : ℕ) → member_shaped l (suc j) ≡ true → get_or l j 0 < get_or l (suc j) 0
    rise l j e = ltb→lt (get_or l j 0) (get_or l (suc j) 0) (and_right (leb (get_or l (suc j) 0) top32) _ (so _ e))

-- ---- values

hash_good_lem : {O : Type 0} (a b : Bool) (bs : O) → T (same a b) → T (hash_good b (pick a (some bs) none))
unfolding hash_good pick
hash_good_lem true true bs t = tt
hash_good_lem true false bs t = t
hash_good_lem false true bs t = t
hash_good_lem false false bs t = tt

value_good_lem : {O : Type 0} (v : ℕ) (l : FieldList) (part : ℕ → ℕ → O) (n k : ℕ) (d : Kind) → T (value_shaped v d (get_or l.values k 0) (set_at l n) l.root) → T (value_good v d (value_at l part n d k))
unfolding value_shaped value_good value_at root_shaped pick
value_good_lem v l part n k set t = set_good_lem (set_at l n) t
value_good_lem v l part n k number32 t = t
value_good_lem v l part n k number64 t = t
value_good_lem v l part n k null t = tt
value_good_lem v l part n k octets t = tt
value_good_lem v l part n k root t =
    let r = l.root in
    and_both (leb r.state 3) _ (and_left (leb r.state 3) _ t)
    (hash_good_lem r.hashed (hashed v) (part r.hash.start r.hash.len) (and_right (leb r.state 3) _ t))

-- ---- fields in order

-- the least number that may follow
abbrev least_after : {O : Type 0} → ℕ → List (FieldWith O) → ℕ
least_after low [] = low
least_after low (f ∷ fs) = least_after (f.number + 1) fs

-- one more field at the end, or none
module _ {O : Type 0} (v : ℕ) (b : Bool) (f : FieldWith O) where
  more : (low : ℕ) (xs : List (FieldWith O)) → T (chain_good (field_good v) after_field low xs) → (b ≡ true → T (field_good v (least_after low xs) f)) → T (chain_good (field_good v) after_field low (xs ++ pick b (f ∷ []) []))
  unfolding pick
  more low [] t g = first b g
    where
      first : (a : Bool) → (a ≡ true → T (field_good v low f)) → T (chain_good (field_good v) after_field low (pick a (f ∷ []) []))
      first true g = and_both (field_good v low f) true (g refl) tt
      first false g = tt
  more low (x ∷ xs) t g =
      and_both (field_good v low x) _ (and_left (field_good v low x) _ t)
      (more (x.number + 1) xs (and_right (field_good v low x) _ t) g)

  after_more : (low : ℕ) (xs : List (FieldWith O)) → least_after low (xs ++ pick b (f ∷ []) []) ≡ pick b (f.number + 1) (least_after low xs)
  unfolding pick
  after_more low [] = one b
    where
      one : (a : Bool) → least_after low (pick a (f ∷ []) []) ≡ pick a (f.number + 1) low
      one true = refl
      one false = refl
  after_more low (x ∷ xs) = after_more (x.number + 1) xs

module _ {O : Type 0} (v : ℕ) (l : FieldList) (part : ℕ → ℕ → O) where
  field_good_lem : (k low : ℕ) → k < row_count → T (row_shaped v l k) → get_or l.present k false ≡ true → low ≤ (row_at k).number → T (field_good v low (field (row_at k).number (value_at l part (row_at k).number (row_at k).kind k)))
  unfolding field_good row_good row_shaped pick
  field_good_lem k low h t e g =
      let u : T (held_in v (row_at k) && value_shaped v (row_at k).kind (get_or l.values k 0) (set_at l (row_at k).number) l.root) = rw e at t in
      rw (row_found k h)
      (and_both (leb low (row_at k).number) _ (le→leb low (row_at k).number g)
      (and_both (held_in v (row_at k)) _ (and_left (held_in v (row_at k)) _ u) (value_good_lem v l part (row_at k).number k (row_at k).kind (and_right (held_in v (row_at k)) _ u))))

  -- the first n rows: in order, and below every row that follows
  record Rows (n : ℕ) : Type 0 where
    good : T (chain_good (field_good v) after_field 0 (up_to (field_at l part) n))
    low : (k : ℕ) → n ≤ k → k < row_count → least_after 0 (up_to (field_at l part) n) ≤ (row_at k).number

  next_low : (b : Bool) (n low k : ℕ) → low ≤ (row_at n).number → n < k → k < row_count → pick b ((row_at n).number + 1) low ≤ (row_at k).number
  unfolding pick
  next_low true n low k i h g = omega (arith, above n k h g)
  next_low false n low k i h g = omega (arith, above n k h g)

  rows_good : all_below (row_shaped v l) row_count ≡ true → (n : ℕ) → n ≤ row_count → Rows n
  unfolding up_to field_at
  rows_good e zero h = record { good = tt; low = λ k i g. omega arith }
  rows_good e (suc n) h =
      let p = rows_good e n (omega arith) in
      let x = field (row_at n).number (value_at l part (row_at n).number (row_at n).kind n) in
      let b = get_or l.present n false in
      let xs = up_to (field_at l part) n in
      record {
        good = more v b x 0 xs p.good (λ q. field_good_lem n (least_after 0 xs) h (so _ (all_at (row_shaped v l) row_count n h e)) q (p.low n (omega arith) h));
        low = λ k i g. rw (after_more v b x 0 xs) (next_low b n (least_after 0 xs) k (p.low n (omega arith) h) i g);
      }

  list_good_lem : T (list_shaped v l) → T (list_good v (fields_of l part))
  unfolding list_shaped list_good
  list_good_lem t = (rows_good (is_true (all_below (row_shaped v l) row_count) t) row_count (omega arith)).good

-- what a well-shaped record says is well-shaped
pub shaped_content : {O : Type 0} (r : Record) (part : ℕ → ℕ → O) → T (well_shaped_record r) → T (well_shaped (content_with part r))
unfolding well_shaped_record head_shaped well_shaped
shaped_content r part t =
    let v = r.attestation.version in
    let h = and_left (head_shaped v r.attestation.level r.keymint.version r.keymint.level) _ t in
    let q = and_right (head_shaped v r.attestation.level r.keymint.version r.keymint.level) _ t in
    let h₁ = and_right (known_version v) _ h in
    let h₂ = and_right (leb r.keymint.version top32) _ h₁ in
    and_both (known_version v) _ (and_left (known_version v) _ h)
    (and_both (leb r.attestation.level (level_top v)) _ (and_left (leb r.attestation.level (level_top v)) _ h₂)
    (and_both (leb r.keymint.version top32) _ (and_left (leb r.keymint.version top32) _ h₁)
    (and_both (leb r.keymint.level (level_top v)) _ (and_right (leb r.attestation.level (level_top v)) _ h₂)
    (and_both (list_good v (fields_of r.software part)) _ (list_good_lem v r.software part (and_left (list_shaped v r.software) _ q))
    (list_good_lem v r.hardware part (and_right (list_shaped v r.software) _ q))))))
