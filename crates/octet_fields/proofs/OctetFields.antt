-- Asking for an octet field by its row, as the code does, is asking for it by its number (`asked_by_number`); and what each
-- answer means (`asked-exactly`). Assumes nothing.
use mathlib.Core.Path.{◌≡◌, refl, sym, ap, ◌∙◌}
use mathlib.Core.Bool.{Bool, true, false}
use mathlib.Core.Option.{Option, none, some}
use Prim.Native.Nat.{ℕ, ◌+◌, ◌<◌, ◌≤◌}
use native.Mathlib.Omega.{arith}
use lib.Dec.{leb→le, le→leb}
use lib.ListN.{get_or}
use borrow.Author.Tests.{lt-leb}
use Rattle.answer.specs.Answer.{Answer, got, refused, guard, pick}
use Rattle.answer.specs.Refusal.{ill_shaped}
use Rattle.answer.proofs.Logic.{by_le}
use Rattle.answer.proofs.Answer.{refused-got, guard_yes, guard_case}
use Rattle.schema.specs.Table.{Kind, set, number32, number64, null, octets, root, row, rows, row_at, index_of, row_count}
use Rattle.schema.specs.Content.{ValueWith, num, nul, oct, nums, trust, Place, place_at}
use Rattle.schema.proofs.Table.{find-place}
use Rattle.records.specs.declared.FieldList.{FieldList}
use Rattle.records.specs.declared.Record.{Record}
use Rattle.records.specs.Content.{value_at, fields_of}
use Rattle.records.specs.Fields.{field_value}
use Rattle.records.specs.Parts.{inside}
use Rattle.octet_fields.specs.AskedRow.{asked_in, asked_at}
use Rattle.octet_fields.specs.Asked.{list_of, asked_of, asked_octets}
use Rattle.octet_fields.specs.Statements.{AskedExactly}
use Rattle.records.proofs.Fields.{place_below, no_row_has, row-value}
use Rattle.octet_fields.proofs.Asking.{no_row}

number_at : (n : ℕ) → index_of rows n < row_count → (row_at (index_of rows n)).number ≡ n
unfolding rows
number_at n h = (find-place rows n (row 0 null 1 0) h).1

module _ (l : FieldList) (len : ℕ) where
  by_kind : (d : Kind) (b : Bool) (n k : ℕ) → asked_in d b (get_or l.values k 0) (get_or l.sizes k 0) len ≡ asked_of (pick b (some (value_at l place_at n d k)) none) len
  unfolding asked_in asked_of value_at pick
  by_kind set true n k = refl
  by_kind set false n k = refl
  by_kind number32 true n k = refl
  by_kind number32 false n k = refl
  by_kind number64 true n k = refl
  by_kind number64 false n k = refl
  by_kind null true n k = refl
  by_kind null false n k = refl
  by_kind octets true n k = refl
  by_kind octets false n k = refl
  by_kind root true n k = refl
  by_kind root false n k = refl

  -- the row of a number answers for it
  pub asked_by_number : (n : ℕ) → asked_at l (index_of rows n) len ≡ asked_of (field_value (fields_of l place_at) n) len
  unfolding asked_at asked_of rows
  asked_by_number n =
      by_le row_count (index_of rows n)
      (λ h. sym (no_row l n len (index_of rows n) refl h) ∙ rw (no_row_has l place_at row_count n (λ j i e. absurd (omega (arith, rw e at (place_below rows (row 0 null 1 0) j i))))) refl)
      (λ h. by_kind (row_at (index_of rows n)).kind (get_or l.present (index_of rows n) false) (row_at (index_of rows n)).number (index_of rows n)
      ∙ ap (λ (o : Option (ValueWith Place)). asked_of o len) (sym (row-value l place_at (index_of rows n) h) ∙ ap (field_value (fields_of l place_at)) (number_at n h)))

-- the list that is asked
module _ (r : Record) (hardware : Bool) (number len : ℕ) where
  pub asked_hardware : hardware ≡ true → asked_at r.hardware (index_of rows number) len ≡ asked_octets r hardware number len
  unfolding asked_octets pick
  asked_hardware e = rw e (asked_by_number r.hardware len number)

  pub asked_software : hardware ≡ false → asked_at r.software (index_of rows number) len ≡ asked_octets r hardware number len
  unfolding asked_octets pick
  asked_software e = rw e (asked_by_number r.software len number)

-- ---- what each answer means, of a value that is there or not

no_part : {a : ℕ × ℕ} → ◌≡◌ {A = Answer (Option (ℕ × ℕ))} (got none) (got (some a)) → ⊥
no_part e = let z : ◌≡◌ {A = ℕ} 0 1 = cc in omega arith

no_refusal : {a : Option (ℕ × ℕ)} {k p : ℕ} → got a ≡ refused k p → ⊥
no_refusal e = refused-got (sym e)

module _ (len : ℕ) where
  part_of : (o : Option (ValueWith Place)) (a z : ℕ) → asked_of o len ≡ got (some (a, z)) → (o ≡ some (oct (place_at a z))) × (a + z ≤ len)
  unfolding asked_of
  part_of none a z e = absurd (no_part e)
  part_of (some (num n)) a z e = absurd (no_part e)
  part_of (some nul) a z e = absurd (no_part e)
  part_of (some (oct p)) a z e =
      guard_case _ _ _ _ e λ t f.
      let w : ◌≡◌ {A = ℕ × ℕ} (p.start, p.len) (a, z) = cc in
      let m : p.start ≡ a = ap (λ (x : ℕ × ℕ). x.0) w in
      let n : p.len ≡ z = ap (λ (x : ℕ × ℕ). x.1) w in
      (rw (← m, ← n) refl, omega (arith, leb→le (p.start + p.len) len t))
  part_of (some (nums l)) a z e = absurd (no_part e)
  part_of (some (trust r)) a z e = absurd (no_part e)

  of_part : (o : Option (ValueWith Place)) (a z : ℕ) → o ≡ some (oct (place_at a z)) → a + z ≤ len → asked_of o len ≡ got (some (a, z))
  unfolding asked_of
  of_part o a z e h = rw e (guard_yes (inside a z len) ill_shaped 0 _ (le→leb (a + z) len h))

  absent_of : (o : Option (ValueWith Place)) → asked_of o len ≡ got none → (p : Place) → o ≡ some (oct p) → ⊥
  unfolding asked_of
  absent_of o e p q = guard_case (inside p.start p.len len) ill_shaped 0 _ (rw q at e) λ t f. no_part (sym f)

  of_absent : (o : Option (ValueWith Place)) → ((p : Place) → o ≡ some (oct p) → ⊥) → asked_of o len ≡ got none
  unfolding asked_of
  of_absent none f = refl
  of_absent (some (num n)) f = refl
  of_absent (some nul) f = refl
  of_absent (some (oct p)) f = absurd (f p refl)
  of_absent (some (nums l)) f = refl
  of_absent (some (trust r)) f = refl

  outside_of : (o : Option (ValueWith Place)) → asked_of o len ≡ refused 20 0 → (p : Place) × (o ≡ some (oct p)) × (len < p.start + p.len)
  unfolding asked_of
  outside_of none e = absurd (no_refusal e)
  outside_of (some (num n)) e = absurd (no_refusal e)
  outside_of (some nul) e = absurd (no_refusal e)
  outside_of (some (oct p)) e =
      by_le (p.start + p.len) len
      (λ h. absurd (no_refusal (sym (guard_yes (inside p.start p.len len) ill_shaped 0 (got (some (p.start, p.len))) (le→leb (p.start + p.len) len h)) ∙ e)))
      (λ h. (p, refl, h))
  outside_of (some (nums l)) e = absurd (no_refusal e)
  outside_of (some (trust r)) e = absurd (no_refusal e)

  of_outside : (o : Option (ValueWith Place)) (p : Place) → o ≡ some (oct p) → len < p.start + p.len → asked_of o len ≡ refused 20 0
  unfolding asked_of guard
  of_outside o p e h = rw (e, lt-leb (p.start + p.len) len h) refl

pub asked-exactly : AskedExactly
unfolding asked_octets
asked-exactly r hardware number len =
    let o = field_value (fields_of (list_of r hardware) place_at) number in
    record {
      part = λ a z. (λ e. part_of len o a z e, λ y. of_part len o a z y.0 y.1);
      absent = (absent_of len o, of_absent len o);
      outside = (outside_of len o, λ y. of_outside len o y.0 y.1 y.2);
    }
