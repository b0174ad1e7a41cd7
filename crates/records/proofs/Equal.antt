-- Records are equal, by document 01's own words, exactly when they say the same content. One way row by row; the other by
-- looking each row's number up in the content. Assumes nothing.
use mathlib.Core.Path.{◌≡◌, refl, sym, ap, ◌∙◌}
use mathlib.Core.Bool.{Bool, true, false, true≢false}
use mathlib.Core.Option.{none, some}
use mathlib.Core.List.{List, [], ◌∷◌}
use Prim.Native.Nat.{ℕ, zero, suc, ◌<◌}
use native.Mathlib.Omega.{arith}
use Rattle.answer.specs.Answer.{pick}
use Rattle.schema.specs.Table.{row_at, row_count}
use Rattle.schema.specs.Content.{Value, Field, field, Content}
use Rattle.records.specs.declared.FieldList.{FieldList}
use Rattle.records.specs.declared.Record.{Record}
use Rattle.records.specs.Content.{octets_at, field_at, up_to, fields_of, content_of}
use Rattle.records.specs.Fields.{field_value}
use Rattle.records.specs.Equal.{present_at, content_at, SameRow, SameFields, Equal}
use Rattle.records.proofs.Fields.{row-value}

joined : (a b : Bool) (v w : Value) (n : ℕ) → a ≡ b → (a ≡ true → v ≡ w) → pick a (field n v ∷ []) [] ≡ pick b (field n w ∷ []) []
unfolding pick
joined true true v w n h g = rw (g refl) refl
joined true false v w n h g = absurd (true≢false h)
joined false true v w n h g = absurd (true≢false (sym h))
joined false false v w n h g = refl

parted : (a b : Bool) (v w : Value) → pick a (some v) none ≡ pick b (some w) none → (a ≡ b) × (a ≡ true → v ≡ w)
unfolding pick
parted true true v w e = (refl, λ h. cc)
parted true false v w e = absurd (let z : ◌≡◌ {A = ℕ} 0 1 = cc in omega arith)
parted false true v w e = absurd (let z : ◌≡◌ {A = ℕ} 0 1 = cc in omega arith)
parted false false v w e = (refl, λ h. absurd (true≢false (sym h)))

module _ (l : FieldList) (s : List ℕ) (l' : FieldList) (s' : List ℕ) where
  row_fields : (k : ℕ) → SameRow l s l' s' k → field_at l (octets_at s) k ≡ field_at l' (octets_at s') k
  unfolding field_at
  row_fields k e = joined (present_at l k) (present_at l' k) (content_at l s k) (content_at l' s' k) (row_at k).number e.held e.says

  rows_fields : (n : ℕ) → ((k : ℕ) → k < n → SameRow l s l' s' k) → up_to (field_at l (octets_at s)) n ≡ up_to (field_at l' (octets_at s')) n
  unfolding up_to
  rows_fields zero e = refl
  rows_fields (suc n) e = rw (rows_fields n (λ k h. e k (omega arith)), row_fields n (e n (omega arith))) refl

  -- lists that hold the same rows say the same fields, and the other way
  pub same_fields : SameFields l s l' s' → fields_of l (octets_at s) ≡ fields_of l' (octets_at s')
  same_fields e = rows_fields row_count e

  pub fields_same : fields_of l (octets_at s) ≡ fields_of l' (octets_at s') → SameFields l s l' s'
  fields_same e k h =
      let q = parted (present_at l k) (present_at l' k) (content_at l s k) (content_at l' s' k) (sym (row-value l (octets_at s) k h) ∙ (ap (λ (fs : List Field). field_value fs (row_at k).number) e ∙ row-value l' (octets_at s') k h)) in
      record { held = q.0; says = q.1 }

module _ (r : Record) (s : List ℕ) (r' : Record) (s' : List ℕ) where
  -- equal records say the same
  pub equal_content : Equal r s r' s' → content_of r s ≡ content_of r' s'
  equal_content e =
      rw (e.version, e.level, e.keymint, e.keymint_level, e.challenge, e.unique, same_fields r.software s r'.software s' e.software, same_fields r.hardware s r'.hardware s' e.hardware) refl

  -- records that say the same are equal
  pub content_equal : content_of r s ≡ content_of r' s' → Equal r s r' s'
  content_equal e = record {
    version = ap (λ (c : Content). c.version) e;
    level = ap (λ (c : Content). c.level) e;
    keymint = ap (λ (c : Content). c.keymint) e;
    keymint_level = ap (λ (c : Content). c.keymint_level) e;
    challenge = ap (λ (c : Content). c.challenge) e;
    unique = ap (λ (c : Content). c.unique) e;
    software = fields_same r.software s r'.software s' (ap (λ (c : Content). c.software) e);
    hardware = fields_same r.hardware s r'.hardware s' (ap (λ (c : Content). c.hardware) e);
  }
