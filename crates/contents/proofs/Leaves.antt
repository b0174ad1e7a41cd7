-- What the leaves answer, in plain variables: an element opened (`leaf_no`, `leaf_is`) and its content. Assumes nothing.
use mathlib.Core.Path.{◌≡◌, refl, sym, ◌∙◌}
use mathlib.Core.Bool.{Bool, true, false}
use mathlib.Core.List.{List, [], ◌∷◌}
use Prim.Native.Nat.{ℕ, suc, ◌-◌, ◌<◌, ◌≤◌}
use native.Mathlib.Omega.{arith}
use lib.ListN.{length, get_or}
use lib.Seq.{slice, slice_empty, slice-cons, length-slice}
use borrow.Author.Tests.{ne_eqb}
use Rattle.std.specs.Prelude.{Option, Some, None, Result}
use Rattle.std.specs.Option.{ok_or}
use Rattle.answer.specs.Answer.{Answer, got, refused, guard, bind, answer_of}
use Rattle.answer.specs.declared.Refusal.{Refusal}
use Rattle.answer.specs.declared.Refused.{Refused}
use Rattle.codec.specs.Octets.{taken}
use Rattle.codec.specs.Integer.{integer_of}
use Rattle.schema.specs.Decode.{read_octets, boolean_of, read_boolean, null_of, read_null, as_place}
use Rattle.schema.specs.Content.{place_at}
use Rattle.contents.specs.Element.{opened_as}
use Rattle.contents.specs.Leaf.{read_number, of_value}
use Rattle.contents.proofs.Open.{leaf_no, leaf_is}

module _ (s : List ℕ) (at end : ℕ) where
  pub number_no : (tag top k p : ℕ) → refused k p ≡ opened_as 0 tag at (slice at end s) → refused k p ≡ read_number tag top at (slice at end s)
  unfolding read_number
  number_no tag top k p e = leaf_no _ at 0 tag s end k p e

  module _ (tag top b x : ℕ) (e : got (taken (b, slice b x s) x (slice x end s)) ≡ opened_as 0 tag at (slice at end s)) where
    pub number_wrong : ((p : ℕ) → refused 10 p ≡ integer_of top 10 p (slice b x s)) → refused 10 at ≡ read_number tag top at (slice at end s)
    unfolding read_number bind
    number_wrong f = rw (← f at) at (leaf_is (λ p q bs. integer_of top 10 p bs) at 0 tag s end b x e)

    pub number_is_lem : (n : ℕ) → ((p : ℕ) → got n ≡ integer_of top 10 p (slice b x s)) → got (taken n x (slice x end s)) ≡ read_number tag top at (slice at end s)
    unfolding read_number bind
    number_is_lem n f = rw (← f at) at (leaf_is (λ p q bs. integer_of top 10 p bs) at 0 tag s end b x e)

    -- the same of the code's value, and of the refusal that it makes where there is none
    pub number_of_value : (v : Option ℕ) → ((p : ℕ) → of_value p v ≡ integer_of top 10 p (slice b x s)) → (r : Result ℕ Refused) → r ≡ ok_or v (record { 0 = Refusal.BadContent; 1 = at })
        → answer_of (λ n. taken n x (slice x end s)) r ≡ read_number tag top at (slice at end s)
    number_of_value (Some n) f r q = rw q (number_is_lem n f)
    number_of_value None f r q = rw q (number_wrong f)

  pub octets_no : (k p : ℕ) → refused k p ≡ opened_as 0 4 at (slice at end s) → refused k p ≡ read_octets as_place at (slice at end s)
  unfolding read_octets
  octets_no k p e = leaf_no _ at 0 4 s end k p e

  pub octets-is : (b x : ℕ) → got (taken (b, slice b x s) x (slice x end s)) ≡ opened_as 0 4 at (slice at end s) → x ≤ length s → got (taken (place_at b (x - b)) x (slice x end s)) ≡ read_octets as_place at (slice at end s)
  unfolding read_octets bind
  octets-is b x e l = rw (← length-slice b x s l) refl ∙ leaf_is _ at 0 4 s end b x e

  pub boolean_no : (k p : ℕ) → refused k p ≡ opened_as 0 1 at (slice at end s) → refused k p ≡ read_boolean at (slice at end s)
  unfolding read_boolean
  boolean_no k p e = leaf_no _ at 0 1 s end k p e

  module _ (b x : ℕ) (e : got (taken (b, slice b x s) x (slice x end s)) ≡ opened_as 0 1 at (slice at end s)) (h : b ≤ x) (l : x ≤ length s) where
    boolean : (M : Answer Bool) → boolean_of at (slice b x s) ≡ M → bind M (λ a. got (taken a x (slice x end s))) ≡ read_boolean at (slice at end s)
    unfolding read_boolean
    boolean M q = rw (← q) refl ∙ leaf_is _ at 0 1 s end b x e

    octet_one : x - b ≡ 1 → slice b x s ≡ get_or s b 0 ∷ []
    octet_one z =
        let q : suc b ≡ x = omega arith in
        let t : slice (suc b) x s ≡ [] = rw q (slice_empty x s) in
        slice-cons b x s 0 (omega arith) l ∙ rw t

    not_one : (bs : List ℕ) → (length bs ≡ 1 → ⊥) → boolean_of at bs ≡ refused 10 at
    unfolding boolean_of
    not_one [] n = refl
    not_one (a ∷ []) n = absurd (n refl)
    not_one (a ∷ c ∷ r) n = refl

    pub boolean_long : (x - b ≡ 1 → ⊥) → refused 10 at ≡ read_boolean at (slice at end s)
    unfolding bind
    boolean_long z = boolean (refused 10 at) (not_one (slice b x s) (λ q. z (sym (length-slice b x s l) ∙ q)))

    pub boolean_false : x - b ≡ 1 → get_or s b 0 ≡ 0 → got (taken false x (slice x end s)) ≡ read_boolean at (slice at end s)
    unfolding bind boolean_of guard
    boolean_false z q = boolean (got false) (rw (octet_one z, q) refl)

    pub boolean_true : x - b ≡ 1 → (get_or s b 0 ≡ 0 → ⊥) → get_or s b 0 ≡ 255 → got (taken true x (slice x end s)) ≡ read_boolean at (slice at end s)
    unfolding bind boolean_of guard
    boolean_true z n q = boolean (got true) (rw (octet_one z, q) refl)

    pub boolean_other : x - b ≡ 1 → (get_or s b 0 ≡ 0 → ⊥) → (get_or s b 0 ≡ 255 → ⊥) → refused 10 at ≡ read_boolean at (slice at end s)
    unfolding bind boolean_of guard
    boolean_other z n q = boolean (refused 10 at) (rw (octet_one z, ne_eqb (get_or s b 0) 0 n, ne_eqb (get_or s b 0) 255 q) refl)

  pub null_no : (k p : ℕ) → refused k p ≡ opened_as 0 5 at (slice at end s) → refused k p ≡ read_null at (slice at end s)
  unfolding read_null
  null_no k p e = leaf_no _ at 0 5 s end k p e

  module _ (b x : ℕ) (e : got (taken (b, slice b x s) x (slice x end s)) ≡ opened_as 0 5 at (slice at end s)) where
    pub null_is : b ≡ x → got (taken tt x (slice x end s)) ≡ read_null at (slice at end s)
    unfolding read_null bind null_of
    null_is h = let t : slice b x s ≡ [] = rw h (slice_empty x s) in rw t at (leaf_is (λ p q bs. null_of p bs) at 0 5 s end b x e)

    not_none : (p : ℕ) (bs : List ℕ) → 0 < length bs → refused 10 p ≡ null_of p bs
    unfolding null_of
    not_none p [] h = absurd (omega arith)
    not_none p (a ∷ bs) h = refl

    pub null_some : b ≤ x → x ≤ length s → (b ≡ x → ⊥) → refused 10 at ≡ read_null at (slice at end s)
    unfolding read_null bind
    null_some h l n = rw (← not_none at (slice b x s) (omega (arith, length-slice b x s l))) at (leaf_is (λ p q bs. null_of p bs) at 0 5 s end b x e)
