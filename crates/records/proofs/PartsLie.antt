-- A record whose places lie in n octets has its parts inside them. Assumes nothing.
use mathlib.Core.Path.{◌≡◌, refl, subst}
use mathlib.Core.Bool.{Bool, true, false}
use mathlib.Core.Option.{none, some}
use mathlib.Core.List.{List, [], ◌∷◌, ◌++◌}
use Prim.Native.Nat.{ℕ, zero, suc, ◌+◌, ◌<◌, ◌≤◌}
use native.Mathlib.Omega.{arith}
use lib.Dec.{T, le→leb}
use lib.ListN.{get_or}
use Rattle.answer.specs.Answer.{pick}
use Rattle.answer.proofs.Logic.{by_le, and_both}
use Rattle.schema.specs.Table.{Kind, set, number32, number64, null, octets, root, row_at, row_count}
use Rattle.schema.specs.Content.{FieldWith, field, Place, place_at}
use Rattle.schema.specs.Parts.{HashIs, ValueIs, FieldsAre, EachPart}
use Rattle.records.specs.Content.{value_at, field_at, up_to, fields_of, places_of}
use Rattle.records.specs.Parts.{part_inside, root_inside, content_inside, row_inside, list_inside, parts_inside}
use Rattle.records.specs.declared.Part.{Part}
use Rattle.records.specs.declared.FieldList.{FieldList}
use Rattle.records.specs.declared.Record.{Record}
use Rattle.records.proofs.ContentShaped.{all_of}

module _ (n : ℕ) where
  abbrev pub Lies : Place → Type 0
  Lies p = p.start + p.len ≤ n

  parted : (xs ys : List (FieldWith Place)) → FieldsAre Lies (xs ++ ys) → FieldsAre Lies xs × FieldsAre Lies ys
  parted [] ys y = (tt, y)
  parted (x ∷ xs) ys y = let p = parted xs ys y.1 in ((y.0, p.0), p.1)

  at_row : (F : ℕ → List (FieldWith Place)) (m k : ℕ) → k < m → FieldsAre Lies (up_to F m) → FieldsAre Lies (F k)
  unfolding up_to
  at_row F zero k h y = absurd (omega arith)
  at_row F (suc m) k h y =
      let p = parted (up_to F m) (F m) y in
      by_le m k (λ l. let e : m ≡ k = omega arith in subst (λ (j : ℕ). FieldsAre Lies (F j)) e p.1) (λ l. at_row F m k l p.0)

  part-inside : (p : Part) → p.start + p.len ≤ n → T (part_inside p n)
  part-inside p h = le→leb (p.start + p.len) n h

  hash-inside : (b : Bool) (h : Part) → HashIs Lies (pick b (some (place_at h.start h.len)) none) → T (pick b (part_inside h n) true)
  unfolding pick
  hash-inside true h y = part-inside h y
  hash-inside false h y = tt

  content_inside_lem : (l : FieldList) (m k : ℕ) (d : Kind) → ValueIs Lies (value_at l place_at m d k) → T (content_inside d (get_or l.values k 0) (get_or l.sizes k 0) l.root n)
  unfolding value_at content_inside root_inside
  content_inside_lem l m k set y = tt
  content_inside_lem l m k number32 y = tt
  content_inside_lem l m k number64 y = tt
  content_inside_lem l m k null y = tt
  content_inside_lem l m k octets y = le→leb (get_or l.values k 0 + get_or l.sizes k 0) n y
  content_inside_lem l m k root y = and_both (part_inside l.root.key n) _ (part-inside l.root.key y.0) (hash-inside l.root.hashed l.root.hash y.1)

  is_true : (b : Bool) → T b → b ≡ true
  is_true true t = refl
  is_true false t = absurd t

  row_inside_lem : (l : FieldList) → FieldsAre Lies (fields_of l place_at) → (k : ℕ) → k < row_count → row_inside l n k ≡ true
  unfolding row_inside field_at pick
  row_inside_lem l y k h = is_true _ (go (get_or l.present k false) (at_row (field_at l place_at) row_count k h y))
    where
      go : (b : Bool) → FieldsAre Lies (pick b (field (row_at k).number (value_at l place_at (row_at k).number (row_at k).kind k) ∷ []) []) → T (pick b (content_inside (row_at k).kind (get_or l.values k 0) (get_or l.sizes k 0) l.root n) true)
      go true z = content_inside_lem l (row_at k).number k (row_at k).kind z.0
      go false z = tt

  list_inside_lem : (l : FieldList) → FieldsAre Lies (fields_of l place_at) → T (list_inside l n)
  unfolding list_inside
  list_inside_lem l y = rw (all_of (row_inside l n) row_count (row_inside_lem l y)) tt

  pub parts_lie : (r : Record) → EachPart Lies (places_of r) → T (parts_inside r n)
  unfolding parts_inside
  parts_lie r y =
      and_both (part_inside r.challenge n) _ (part-inside r.challenge y.0)
      (and_both (part_inside r.unique n) _ (part-inside r.unique y.1)
      (and_both (list_inside r.software n) _ (list_inside_lem r.software y.2) (list_inside_lem r.hardware y.3)))
