-- Asking for an octet field: each answer of the code is that of `asked_octets`, and what an answer with a part came from.
-- Assumes nothing.
use mathlib.Core.Path.{◌≡◌, refl, sym, ap, ◌∙◌}
use mathlib.Core.Bool.{Bool, true, false}
use mathlib.Core.Option.{Option, none, some}
use mathlib.Core.List.{List, []}
use Prim.Native.Nat.{ℕ, ◌+◌, ◌-◌, ◌≤◌}
use native.Mathlib.Omega.{arith}
use lib.Dec.{leb→le}
use lib.ListN.{length, get_or, take, drop, get_or-eq_default}
use Rattle.answer.specs.Answer.{Answer, got, refused, guard, pick}
use Rattle.answer.specs.Refusal.{ill_shaped}
use Rattle.answer.proofs.Answer.{got_inj, guard_case}
use Rattle.schema.specs.Table.{Kind, set, number32, number64, null, octets, root, row, rows, row_at, index_of, row_count}
use Rattle.schema.specs.Content.{ValueWith, num, nul, oct, nums, trust, Place, place_at}
use Rattle.schema.specs.Rows.{of_kind, of_row}
use Rattle.schema.specs.declared.Row.{Row}
use Rattle.schema.specs.declared.Kind as kinds
use Rattle.records.specs.declared.FieldList.{FieldList}
use Rattle.records.specs.declared.Record.{Record}
use Rattle.std.specs.Prelude as code
use Rattle.std.specs.Prelude.{Result, Ok, Err}
use Rattle.answer.specs.declared.Refused.{Refused}
use Rattle.records.specs.declared.Part.{Part}
use Rattle.records.specs.Content.{fields_of}
use Rattle.records.specs.Fields.{field_value}
use Rattle.records.specs.Parts.{inside, part_inside}
use Rattle.octet_fields.specs.AskedRow.{asked_in, asked_part, asked_at}
use Rattle.octet_fields.specs.Asked.{list_of, asked_of, asked_octets, octet_field_of, start_asked, moved_on, of_asked}

-- ---- a present octet field

module _ (p : Part) (len : ℕ) (a : Bool) (e : a ≡ part_inside p len) where
  pub part-outside : a ≡ false → refused ill_shaped 0 ≡ asked_part p len
  unfolding asked_in guard pick
  part-outside n = rw (← e, n) refl

  pub part-there : a ≡ true → got (some (p.start, p.len)) ≡ asked_part p len
  unfolding asked_in guard pick
  part-there n = rw (← e, n) refl

-- ---- a row of a list

no_part : (k : Kind) (start size len : ℕ) → got none ≡ asked_in k false start size len
unfolding asked_in pick
no_part set start size len = refl
no_part number32 start size len = refl
no_part number64 start size len = refl
no_part null start size len = refl
no_part octets start size len = refl
no_part root start size len = refl

other_kind : (k : kinds.Kind) (p : Bool) (start size len : ℕ) → (k ≡ kinds.Kind.Octets → ⊥) → got none ≡ asked_in (of_kind k) p start size len
unfolding asked_in
other_kind kinds.Kind.Set p start size len o = refl
other_kind kinds.Kind.Number32 p start size len o = refl
other_kind kinds.Kind.Number64 p start size len o = refl
other_kind kinds.Kind.Null p start size len o = refl
other_kind kinds.Kind.Octets p start size len o = absurd (o refl)
other_kind kinds.Kind.Root p start size len o = refl

module _ (l : FieldList) (number len k : ℕ) (i : k ≡ index_of rows number) where
  pub no_row : row_count ≤ k → got none ≡ asked_at l (index_of rows number) len
  unfolding asked_at asked_in rows
  no_row h = rw (← i, get_or-eq_default rows (row 0 null 1 0) h) refl

  pub field-absent : get_or l.present k false ≡ false → got none ≡ asked_at l (index_of rows number) len
  unfolding asked_at
  field-absent n = rw (← i, n) (no_part (row_at k).kind (get_or l.values k 0) (get_or l.sizes k 0) len)

  module _ (r : Row) (f : of_row r ≡ row_at k) where
    pub no_octets : (r.kind ≡ kinds.Kind.Octets → ⊥) → got none ≡ asked_at l (index_of rows number) len
    unfolding asked_at
    no_octets o = rw (← i, ← f) (other_kind r.kind (get_or l.present k false) (get_or l.values k 0) (get_or l.sizes k 0) len o)

    pub its_octets : (a : Answer (Option (ℕ × ℕ))) → get_or l.present k false ≡ true → r.kind ≡ kinds.Kind.Octets
        → a ≡ asked_in octets true (get_or l.values k 0) (get_or l.sizes k 0) len → a ≡ asked_at l (index_of rows number) len
    unfolding asked_at
    its_octets a n q g = rw (← i, ← f, q, n) g

pub no_row_at : (l : FieldList) (number len : ℕ) → row_count ≡ index_of rows number → got none ≡ asked_at l (index_of rows number) len
no_row_at l number len i = no_row l number len row_count i (omega arith)

-- ---- back from an answer

none_some : {A : Type 0} {a : A} → none ≡ some a → ⊥
none_some e = let z : ◌≡◌ {A = ℕ} 0 1 = cc in omega arith

-- a part that is answered lies inside
inside_of : (o : Option (ValueWith Place)) (len a z : ℕ) → asked_of o len ≡ got (some (a, z)) → a + z ≤ len
unfolding asked_of
inside_of none len a z e = absurd (none_some (got_inj e))
inside_of (some (num n)) len a z e = absurd (none_some (got_inj e))
inside_of (some nul) len a z e = absurd (none_some (got_inj e))
inside_of (some (oct p)) len a z e =
    guard_case (inside p.start p.len len) ill_shaped 0 (got (some (p.start, p.len))) e λ t f.
    let w : ◌≡◌ {A = ℕ × ℕ} (p.start, p.len) (a, z) = cc in
    let m : p.start ≡ a = ap (λ (x : ℕ × ℕ). x.0) w in
    let n : p.len ≡ z = ap (λ (x : ℕ × ℕ). x.1) w in
    omega (arith, leb→le (p.start + p.len) len t)
inside_of (some (nums l)) len a z e = absurd (none_some (got_inj e))
inside_of (some (trust r)) len a z e = absurd (none_some (got_inj e))

module _ (s : List ℕ) (r : Record) (hardware : Bool) (number : ℕ) (x : Result (code.Option Part) Refused) (e : of_asked x ≡ asked_octets r hardware number (length s)) where
  pub asked-inside : (p : Part) → x ≡ Ok (code.Some p) → p.start + p.len ≤ length s
  unfolding asked_octets
  asked-inside p f = inside_of (field_value (fields_of (list_of r hardware) place_at) number) (length s) p.start p.len (sym e ∙ ap of_asked f)

  pub asked-part : (p : Part) → x ≡ Ok (code.Some p) → take (p.start + p.len - p.start) (drop p.start s) ≡ octet_field_of s r hardware number
  asked-part p f =
      let n : p.start + p.len - p.start ≡ p.len = omega arith in
      rw (n, ← e, f) refl

  pub absent-part : x ≡ Ok code.None → [] ≡ octet_field_of s r hardware number
  absent-part f = rw (← e, f) refl

  pub refused-part : (n : Refused) → x ≡ Err n → [] ≡ octet_field_of s r hardware number
  refused-part n f = rw (← e, f) refl

  -- and it begins where the answer says
  pub asked-start : (p : Part) → x ≡ Ok (code.Some p) → p.start ≡ start_asked (asked_octets r hardware number (length s))
  asked-start p f = rw (← e, f) refl

  pub absent-start : x ≡ Ok code.None → 0 ≡ start_asked (asked_octets r hardware number (length s))
  absent-start f = rw (← e, f) refl

  pub refused-start : (n : Refused) → x ≡ Err n → 0 ≡ start_asked (asked_octets r hardware number (length s))
  refused-start n f = rw (← e, f) refl

pub moved : (at : ℕ × ℕ) (m n o : ℕ) → m ≡ n → o ≡ at.1 + m → ◌≡◌ {A = ℕ × ℕ} (at.0, o) (moved_on at n)
moved at m n o e q = rw (q, e) refl
