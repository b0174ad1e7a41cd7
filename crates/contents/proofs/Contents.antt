-- A field's content as the code answers it, by the field's kind. Assumes nothing.
use mathlib.Core.Path.{◌≡◌, refl, sym, ◌∙◌}
use mathlib.Core.Bool.{true, false, true≢false}
use mathlib.Core.Logic.{inl, inr}
use mathlib.Core.List.{List, [], ◌∷◌}
use Prim.Native.Nat.{ℕ}
use native.Mathlib.Omega.{arith}
use lib.Dec.{leb}
use lib.Seq.{slice}
use denote.Enum.Declared.{tag_of}
use types.Run.{OneOf}
use Rattle.std.specs.Prelude.{Result, Ok, Err}
use Rattle.answer.specs.Answer.{Answer, got, bind, answer_of}
use Rattle.answer.specs.declared.Refusal.{Refusal}
use Rattle.answer.specs.declared.Refused.{Refused}
use Rattle.codec.specs.Element.{exactly, under}
use Rattle.schema.specs.Table as table
use Rattle.schema.specs.Table.{rows, row_at, top32, top64}
use Rattle.schema.specs.Rows.{of_kind}
use Rattle.schema.specs.Content.{num, nul, oct, nums, trust, place_at}
use Rattle.schema.specs.Decode as decode
use Rattle.schema.specs.declared.Kind.{Kind}
use Rattle.schema.specs.contracts.Kind as kinds
use Rattle.schema.specs.Decode.{read_integer, read_octets, read_null, read_set, read_root, read_value, as_place}
use Rattle.records.specs.Content.{members_of}
use Rattle.records.specs.declared.NumberSet.{NumberSet}
use Rattle.records.specs.declared.RootOfTrust.{RootOfTrust}
use Rattle.contents.specs.Leaf.{read_number}
use Rattle.contents.specs.Set.{of_members}
use Rattle.records.specs.Empty.{empty_set, empty_root}
use Rattle.contents.specs.Root.{Trust, trust_of, of_trust}
use Rattle.contents.specs.Content.{Stored, content_value, of_plain, is_plain, PlainRead}
use Rattle.contents.specs.declared.content.Plain.{Plain}

-- ---- by the kind

pub not_plain : (k : Kind) → OneOf (0 ∷ 5 ∷ []) (tag_of kinds.the_type k) → is_plain (of_kind k) ≡ false
unfolding is_plain
not_plain Kind.Set o = refl
not_plain Kind.Root o = refl
not_plain Kind.Number32 (inl q) = absurd (omega arith)
not_plain Kind.Number32 (inr q) = absurd (omega arith)
not_plain Kind.Number64 (inl q) = absurd (omega arith)
not_plain Kind.Number64 (inr q) = absurd (omega arith)
not_plain Kind.Null (inl q) = absurd (omega arith)
not_plain Kind.Null (inr q) = absurd (omega arith)
not_plain Kind.Octets (inl q) = absurd (omega arith)
not_plain Kind.Octets (inr q) = absurd (omega arith)

abbrev pub set_stored : NumberSet → Stored
set_stored g = record { value = 0; size = 0; set = g; root = empty_root }

abbrev pub root_stored : RootOfTrust → Stored
root_stored r = record { value = 0; size = 0; set = empty_set; root = r }

plainly : {A B : Type 0} (h : A → B) (f : ℕ → ℕ → A) (r : Result Plain Refused) (M : Answer A) → of_plain f r ≡ M → of_plain (λ v z. h (f v z)) r ≡ bind M (λ a. got (h a))
unfolding bind
plainly h f (Ok p) M e = rw (← e) refl
plainly h f (Err r) M e = rw (← e) refl

module _ (s : List ℕ) (at end : ℕ) (r : Result Plain Refused) where
  pub as_number32 : (k : Kind) → k ≡ Kind.Number32 → of_plain (λ v z. v) r ≡ exactly 9 (read_number 2 top32) at (slice at end s) → PlainRead (of_kind k) at (slice at end s) r
  unfolding content_value read_value under read_integer read_number is_plain
  as_number32 k q e = record { is = λ y v p. rw q (plainly num (λ v z. v) r _ e); none = λ y. absurd (true≢false (rw q at y)) }

  pub as_number64 : (k : Kind) → k ≡ Kind.Number64 → of_plain (λ v z. v) r ≡ exactly 9 (read_number 2 top64) at (slice at end s) → PlainRead (of_kind k) at (slice at end s) r
  unfolding content_value read_value under read_integer read_number is_plain
  as_number64 k q e = record { is = λ y v p. rw q (plainly num (λ v z. v) r _ e); none = λ y. absurd (true≢false (rw q at y)) }

  pub as_null : (k : Kind) → k ≡ Kind.Null → of_plain (λ v z. tt) r ≡ exactly 9 read_null at (slice at end s) → PlainRead (of_kind k) at (slice at end s) r
  unfolding content_value read_value under is_plain
  as_null k q e = record { is = λ y v p. rw q (plainly (λ (u : Unit {0}). nul) (λ v z. tt) r _ e); none = λ y. absurd (true≢false (rw q at y)) }

  pub as_octets_lem : (k : Kind) → k ≡ Kind.Octets → of_plain place_at r ≡ exactly 9 (read_octets as_place) at (slice at end s) → PlainRead (of_kind k) at (slice at end s) r
  unfolding content_value read_value under is_plain
  as_octets_lem k q e = record { is = λ y v p. rw q (plainly oct place_at r _ e); none = λ y. absurd (true≢false (rw q at y)) }

-- a set and 704
module _ (s : List ℕ) (at : ℕ) where
  pub as_none : (k : Kind) → OneOf (0 ∷ 5 ∷ []) (tag_of kinds.the_type k) → PlainRead (of_kind k) at s (Err (record { 0 = Refusal.WrongElement; 1 = at }))
  as_none k o = record { is = λ y. absurd (true≢false (sym y ∙ not_plain k o)); none = λ y. refl }

module _ (s : List ℕ) (at end : ℕ) where
  stored_as : {V A B : Type 0} (h : A → B) (f : V → A) (r : Result V Refused) (M : Answer A) → answer_of f r ≡ M → answer_of (λ v. h (f v)) r ≡ bind M (λ a. got (h a))
  unfolding bind
  stored_as h f (Ok v) M e = rw (← e) refl
  stored_as h f (Err r) M e = rw (← e) refl

  pub as_set : (k : Kind) → k ≡ Kind.Set → (r : Result NumberSet Refused) → of_members r ≡ exactly 9 read_set at (slice at end s)
      → (v p : ℕ) → answer_of (λ g. content_value (of_kind k) (set_stored g)) r ≡ read_value as_place v (of_kind k) p at (slice at end s)
  unfolding content_value read_value under
  as_set k q r e v p = rw q (stored_as nums members_of r _ e)

  pub as_root : (k : Kind) → k ≡ Kind.Root → (v p : ℕ) (r : Result RootOfTrust Refused) → of_trust r ≡ exactly 9 (read_root as_place (leb 3 v)) at (slice at end s)
      → answer_of (λ t. content_value (of_kind k) (root_stored t)) r ≡ read_value as_place v (of_kind k) p at (slice at end s)
  unfolding content_value read_value under table.hashed
  as_root k q v p r e = rw q (stored_as (λ (t : Trust). trust (decode.root_from t)) trust_of r _ e)

-- ---- kinds that are plain

pub is_plain_lem : (k : Kind) → (k ≡ Kind.Set → ⊥) → (k ≡ Kind.Root → ⊥) → is_plain (of_kind k) ≡ true
unfolding is_plain
is_plain_lem Kind.Number32 o p = refl
is_plain_lem Kind.Number64 o p = refl
is_plain_lem Kind.Null o p = refl
is_plain_lem Kind.Octets o p = refl
is_plain_lem Kind.Set o p = absurd (o refl)
is_plain_lem Kind.Root o p = absurd (p refl)

pub plain_row : (row : ℕ) → is_plain (row_at row).kind ≡ true → (row ≡ 0 → ⊥) × (row ≡ 3 → ⊥) × (row ≡ 4 → ⊥) × (row ≡ 7 → ⊥) × (row ≡ 26 → ⊥)
unfolding is_plain rows
plain_row row t = ((λ q. true≢false (sym (rw q at t))), (λ q. true≢false (sym (rw q at t))), (λ q. true≢false (sym (rw q at t))), (λ q. true≢false (sym (rw q at t))), (λ q. true≢false (sym (rw q at t))))
