-- Which refusals a read can give: 1 to 14, and where the first pass accepts 8 to 14. Whatever becomes of octets, each reader
-- of specs/Decode.antt keeps to its own numbers over elements that the first pass took. Assumes nothing.
use mathlib.Core.Path.{◌≡◌, sym, ◌∙◌}
use mathlib.Core.Bool.{Bool, true, false}
use mathlib.Core.Option.{Option, none, some}
use mathlib.Core.List.{List, [], ◌∷◌, append-nil}
use Prim.Native.Nat.{ℕ, ◌≤◌}
use native.Mathlib.Omega.{arith}
use lib.Dec.{eqb, eqb→eq}
use lib.ListN.{length}
use Rattle.answer.specs.Answer.{Answer, got, refused}
use Rattle.answer.specs.Refusal.{spare_bytes, wrong_element, bad_content}
use Rattle.answer.proofs.Answer.{got_inj, refused-got, guard_yes, bind_case, bind-refuses, guard_case, guard-refuses}
use Rattle.codec.specs.Octets.{Taken}
use Rattle.codec.specs.Header.{Identifier, identifier, holds}
use Rattle.codec.specs.Integer.{integer_of}
use Rattle.codec.specs.Element.{tagged, exactly}
use Rattle.codec.specs.Tree.{Node, none, and, octets_of, run_octets, Each, Within}
use Rattle.codec.proofs.Tree.{first_pass_sound}
use Rattle.codec.proofs.Ranges.{Run, InRange, Ranged, Shortens, RangedIn, held, element_alone, element_ranged, element_shortens, tagged_ranged, tagged_shortens, exactly_ranged, both_ranged, under_ranged, chain_ranged}
use Rattle.codec.proofs.Refusals.{first_pass_refuses}
use Rattle.schema.specs.Statements.{ReadingRefuses, AfterFirstPass}
use Rattle.schema.specs.Table.{Kind, set, number32, number64, null, octets, root, Row, rows, find, level_top, hashed, top32, top64}
use Rattle.schema.specs.Content.{num, nul, oct, nums, trust, after_member, after_field}
use Rattle.schema.specs.Decode.{read_integer, read_enumerated, boolean_of, read_boolean, null_of, read_null, read_member, read_set, read_version, read_octets, read_hash, root_from, root_parts, read_root, read_value, row_content, field_content, read_field, read_list, Eight, read_eight, decode_with, read_with}
use Rattle.codec.specs.Limits.{extension_bytes, extension_depth, extension_elements}

-- the schema's own refusals
abbrev Own : ℕ → Type 0
Own = InRange 8 14

own : {n k : ℕ} → 8 ≤ n → n ≤ 14 → n ≡ k → Own k
own a b e = (omega arith, omega arith)

is_9 : Own 9
is_9 = (omega arith, omega arith)

is_10 : {k : ℕ} → 10 ≡ k → Own k
is_10 e = (omega arith, omega arith)

refusal_number : {A : Type 0} {k p n q : ℕ} → ◌≡◌ {A = Answer A} (refused k p) (refused n q) → k ≡ n
refusal_number e = cc

not_got : {A : Type 0} {a : A} {k q : ℕ} → got a ≡ refused k q → ⊥
not_got e = refused-got (sym e)

-- ---- leaves

integer_refuses : (top p : ℕ) (bs : List ℕ) (k q : ℕ) → integer_of top bad_content p bs ≡ refused k q → Own k
unfolding integer_of
integer_refuses top p [] k q e = is_10 (refusal_number e)
integer_refuses top p (a ∷ []) k q e = guard-refuses _ _ _ _ e is_10 λ t e₁. guard-refuses _ _ _ _ e₁ is_10 (λ u e₂. absurd (not_got e₂))
integer_refuses top p (a ∷ b ∷ r) k q e = guard-refuses _ _ _ _ e is_10 λ t e₁. guard-refuses _ _ _ _ e₁ is_10 λ u e₂. guard-refuses _ _ _ _ e₂ is_10 (λ v e₃. absurd (not_got e₃))

integer_ranged : (top : ℕ) → Ranged 8 14 (read_integer top)
unfolding read_integer
integer_ranged top = tagged_ranged 8 14 wrong_element (identifier 0 2) _ is_9 (λ p q bs h k r e. integer_refuses top p bs k r e)

integer_shortens : (top : ℕ) → Shortens 8 14 (read_integer top)
unfolding read_integer
integer_shortens top = tagged_shortens 8 14 wrong_element (identifier 0 2) _ is_9 (λ p q bs h k r e. integer_refuses top p bs k r e)

enumerated_ranged : (top : ℕ) → Ranged 8 14 (read_enumerated top)
unfolding read_enumerated
enumerated_ranged top = tagged_ranged 8 14 wrong_element (identifier 0 10) _ is_9 (λ p q bs h k r e. integer_refuses top p bs k r e)

boolean_refuses : (p : ℕ) (bs : List ℕ) (k q : ℕ) → boolean_of p bs ≡ refused k q → Own k
unfolding boolean_of
boolean_refuses p [] k q e = is_10 (refusal_number e)
boolean_refuses p (a ∷ []) k q e = guard-refuses _ _ _ _ e is_10 (λ t e₁. absurd (not_got e₁))
boolean_refuses p (a ∷ b ∷ r) k q e = is_10 (refusal_number e)

boolean_ranged : Ranged 8 14 read_boolean
unfolding read_boolean
boolean_ranged = tagged_ranged 8 14 wrong_element (identifier 0 1) _ is_9 (λ p q bs h k r e. boolean_refuses p bs k r e)

null_refuses : (p : ℕ) (bs : List ℕ) (k q : ℕ) → null_of p bs ≡ refused k q → Own k
unfolding null_of
null_refuses p [] k q e = absurd (not_got e)
null_refuses p (a ∷ r) k q e = is_10 (refusal_number e)

null_ranged : Ranged 8 14 read_null
unfolding read_null
null_ranged = tagged_ranged 8 14 wrong_element (identifier 0 5) _ is_9 (λ p q bs h k r e. null_refuses p bs k r e)

member_ranged : (s : ℕ × ℕ) → Ranged 8 14 (read_member s)
unfolding read_member
member_ranged s = record {
  refuses = λ p bs r k q e.
      guard-refuses _ _ _ _ e (own (omega arith) (omega arith)) λ t e₁.
      bind-refuses _ _ e₁ (λ d. (integer_ranged top32).refuses p bs r k q d) λ w d e₂.
      guard-refuses _ _ _ _ e₂ (own (omega arith) (omega arith)) (λ u e₃. absurd (not_got e₃));
  onward = λ p bs r w e.
      guard_case _ _ _ _ e λ t e₁.
      bind_case _ _ e₁ λ v d e₂.
      guard_case _ _ _ _ e₂ λ u e₃.
      rw (← got_inj e₃) ((integer_ranged top32).onward p bs r v d);
}

member_shortens : (s : ℕ × ℕ) → Shortens 8 14 (read_member s)
unfolding read_member
member_shortens s p bs r w e =
    guard_case _ _ _ _ e λ t e₁.
    bind_case _ _ e₁ λ v d e₂.
    guard_case _ _ _ _ e₂ λ u e₃.
    rw (← got_inj e₃) (integer_shortens top32 p bs r v d)

set_ranged : Ranged 8 14 read_set
unfolding read_set holds
set_ranged = tagged_ranged 8 14 wrong_element (identifier 1 17) _ is_9 (chain_ranged 8 14 read_member after_member member_ranged member_shortens true tt (0, 0))

version_ranged : Ranged 8 14 read_version
unfolding read_version
version_ranged =
    tagged_ranged 8 14 wrong_element (identifier 0 2) _ is_9
    (λ p q bs h k r e. bind-refuses _ _ e (λ d. integer_refuses top32 p bs k r d) λ v d e₁. guard-refuses _ _ _ _ e₁ (own (omega arith) (omega arith)) (λ t e₂. absurd (not_got e₂)))

-- ---- what holds an OCTET STRING

module _ {O : Type 0} (keep : ℕ → List ℕ → O) where
  octets_ranged : Ranged 8 14 (read_octets keep)
  unfolding read_octets
  octets_ranged = tagged_ranged 8 14 wrong_element (identifier 0 4) _ is_9 (λ p q bs h k r e. absurd (not_got e))

  hash_ranged : (h : Bool) → Ranged 8 14 (read_hash keep h)
  unfolding read_hash
  hash_ranged true = record {
    refuses = λ p bs r k q e. bind-refuses _ _ e (λ d. octets_ranged.refuses p bs r k q d) (λ w d u. absurd (not_got u));
    onward = λ p bs r w e. bind_case _ _ e λ v d u. rw (← got_inj u) (octets_ranged.onward p bs r v d);
  }
  hash_ranged false = record { refuses = λ p bs r k q e. absurd (not_got e); onward = λ p bs r w e. rw (← got_inj e) (r, omega arith) }

  root_ranged : (h : Bool) → Ranged 8 14 (read_root keep h)
  unfolding read_root root_parts holds
  root_ranged h =
      tagged_ranged 8 14 wrong_element (identifier 1 16) _ is_9
      (exactly_ranged 8 14 true tt wrong_element (root_parts keep h) is_9
      (both_ranged 8 14 _ _ octets_ranged λ k. both_ranged 8 14 _ _ boolean_ranged λ b. both_ranged 8 14 _ _ (enumerated_ranged 3) λ n. hash_ranged h))

  value_ranged : (v : ℕ) (k : Kind) → RangedIn 8 14 true (read_value keep v k)
  unfolding read_value
  value_ranged v number32 = under_ranged 8 14 true num _ (exactly_ranged 8 14 true tt wrong_element (read_integer top32) is_9 (integer_ranged top32))
  value_ranged v number64 = under_ranged 8 14 true num _ (exactly_ranged 8 14 true tt wrong_element (read_integer top64) is_9 (integer_ranged top64))
  value_ranged v null = under_ranged 8 14 true (λ u. nul) _ (exactly_ranged 8 14 true tt wrong_element read_null is_9 null_ranged)
  value_ranged v octets = under_ranged 8 14 true oct _ (exactly_ranged 8 14 true tt wrong_element (read_octets keep) is_9 octets_ranged)
  value_ranged v set = under_ranged 8 14 true nums _ (exactly_ranged 8 14 true tt wrong_element read_set is_9 set_ranged)
  value_ranged v root = under_ranged 8 14 true (λ t. trust (root_from t)) _ (exactly_ranged 8 14 true tt wrong_element (read_root keep (hashed v)) is_9 (root_ranged (hashed v)))

  row_ranged : (v low n : ℕ) (o : Option Row) → RangedIn 8 14 true (row_content keep v low n o)
  unfolding row_content
  row_ranged v low n none p q bs h k r e = own (omega arith) (omega arith) (refusal_number e)
  row_ranged v low n (some w) p q bs h k r e =
      guard-refuses _ _ _ _ e (own (omega arith) (omega arith)) λ t e₁.
      guard-refuses _ _ _ _ e₁ (own (omega arith) (omega arith)) λ u e₂.
      bind-refuses _ _ e₂ (λ d. value_ranged v w.kind p q bs h k r d) (λ x d y. absurd (not_got y))

  -- a field's form has bit 6, so that it holds elements
  field_inner : (v low : ℕ) (i : Identifier) → RangedIn 8 14 (holds i) (field_content keep v low i)
  unfolding field_content holds
  field_inner v low i p q bs h k r e =
      guard-refuses _ _ _ _ e (λ s. rw (← s) is_9) λ t e₁.
      row_ranged v low i.number (find rows i.number) p q bs (λ y. h (rw (eqb→eq i.form 5 t) tt)) k r e₁

  field_ranged : (v low : ℕ) → Ranged 8 14 (read_field keep v low)
  unfolding read_field
  field_ranged v low = element_ranged 8 14 wrong_element (field_content keep v low) is_9 (field_inner v low)

  field_shortens : (v low : ℕ) → Shortens 8 14 (read_field keep v low)
  unfolding read_field
  field_shortens v low = element_shortens 8 14 wrong_element (field_content keep v low) is_9 (field_inner v low)

  list_ranged : (v : ℕ) → Ranged 8 14 (read_list keep v)
  unfolding read_list holds
  list_ranged v = tagged_ranged 8 14 wrong_element (identifier 1 16) _ is_9 (chain_ranged 8 14 (read_field keep v) after_field (field_ranged v) (field_shortens v) true tt 0)

  eight_ranged : Ranged 8 14 (read_eight keep)
  unfolding read_eight
  eight_ranged =
      both_ranged 8 14 _ _ version_ranged λ v.
      both_ranged 8 14 _ _ (enumerated_ranged (level_top v)) λ l.
      both_ranged 8 14 _ _ (integer_ranged top32) λ k.
      both_ranged 8 14 _ _ (enumerated_ranged (level_top v)) λ m.
      both_ranged 8 14 _ _ octets_ranged λ c.
      both_ranged 8 14 _ _ octets_ranged λ u.
      both_ranged 8 14 _ _ (list_ranged v) λ s. list_ranged v

  outer_ranged : Ranged 8 14 (tagged wrong_element (identifier 1 16) (λ p q cs. exactly wrong_element (read_eight keep) q cs))
  unfolding holds
  outer_ranged = tagged_ranged 8 14 wrong_element (identifier 1 16) _ is_9 (exactly_ranged 8 14 true tt wrong_element (read_eight keep) is_9 eight_ranged)

  -- over bytes that the first pass took as the tree t
  module _ (bs : List ℕ) (t : Node) (w : Within extension_bytes extension_depth extension_elements bs t) where
    run : Run bs
    unfolding Each run_octets
    run = record { depth = 8; start = 0; elements = and t none; der = (w.der, tt); whole = append-nil (octets_of t) ∙ w.whole }

    outer_alone : (x : Taken (Eight O)) → tagged wrong_element (identifier 1 16) (λ p q cs. exactly wrong_element (read_eight keep) q cs) 0 bs ≡ got x → x.rest ≡ []
    unfolding tagged holds
    outer_alone x e = element_alone 8 14 wrong_element _ is_9 (held 8 14 wrong_element (identifier 1 16) _ is_9 (exactly_ranged 8 14 true tt wrong_element (read_eight keep) is_9 eight_ranged)) 0 8 0 t w.der x (rw w.whole e)

    decode_refuses : (k q : ℕ) → decode_with keep bs ≡ refused k q → Own k
    unfolding decode_with exactly
    decode_refuses k q e =
        bind-refuses _ _ e
        (λ d. bind-refuses _ _ d (λ u. outer_ranged.refuses 0 bs run k q u)
        (λ x u y. absurd (not_got (sym (guard_yes (eqb (length x.rest) 0) spare_bytes x.next (got x.val) (rw (outer_alone x u) tt)) ∙ y))))
        (λ c d u. absurd (not_got u))

pub after_first_pass : AfterFirstPass
unfolding read_with
after_first_pass O keep bs t o e k q r =
    bind-refuses _ _ r (λ d. absurd (refused-got (sym d ∙ e)))
    (λ u d v. bind-refuses _ _ v (λ f. decode_refuses keep bs t (first_pass_sound extension_bytes extension_depth extension_elements bs t o e) k q f) (λ c f g. absurd (not_got g)))

pub reading_refuses : ReadingRefuses
unfolding read_with
reading_refuses O keep bs o k q r =
    bind-refuses _ _ r (λ d. let n = first_pass_refuses extension_bytes extension_depth extension_elements bs k q d in (omega arith, omega arith))
    (λ t d v. let n = after_first_pass O keep bs t o d k q r in (omega arith, omega arith))
