-- Each function's answer is the defined one: the tests in their order, then what the called function answers.
-- Assumes nothing.
use mathlib.Core.Path.{◌≡◌, refl, sym, ap, subst, ◌∙◌}
use mathlib.Core.Bool.{not}
use mathlib.Core.List.{List, [], ◌∷◌}
use mathlib.Core.Option.{Option}
use Prim.Native.Nat.{ℕ, ◌<◌, ◌≤◌}
use lib.Dec.{eqb}
use lib.ListN.{length, set}
use borrow.Author.Tests.{le-leb, lt-leb}
use Rattle.answer.specs.Answer.{Answer, got, refused, guard, bind}
use Rattle.answer.specs.Refusal.{short_image}
use Rattle.codec.specs.Octets.{splice}
use Rattle.codec.proofs.Splice.{splice-nothing, splice_stores}
use Rattle.records.specs.declared.Record.{Record}
use Rattle.octet_fields.specs.Asked.{asked_octets}
use Rattle.writer.specs.Written.{written, left_by}
use Rattle.ruling.specs.Ruling.{Permit, ruling}
use Rattle.ruling.specs.declared.request.Request.{Request}
use Rattle.enrolment.specs.Enrolled.{enrolled}
use Rattle.image.specs.Image.{record_in}
use Rattle.sculldrip.specs.Calls.{at_least, of_image, beside, leaves, write_image, write_leaves, ask_image, request_of, rule_image, enrol_image, enrol_beside}

-- ---- the number of an answer, and what it leaves

module _ {A : Type 0} {x a : Answer A} (e : x ≡ a) where
  left-words : (words : A → List ℕ) (old : List ℕ) {new : List ℕ} → new ≡ leaves words x old → new ≡ leaves words a old
  left-words words old {new} h = subst (λ (y : Answer A). new ≡ leaves words y old) e h

-- both clauses at once
module _ {A : Type 0} (count : A → ℕ) (words : A → List ℕ) (old : List ℕ) {x a : Answer A} (e : x ≡ a) {new : List ℕ} where
  pub answered : new ≡ leaves words x old → (beside count x ≡ beside count a) × (new ≡ leaves words a old)
  answered q = (ap (beside count) e, left-words e words old q)

-- ---- the tests before

module _ {A : Type 0} (n : ℕ) (words : List ℕ) (next : Answer A) where
  pub too_few : length words < n → refused short_image 0 ≡ at_least n words next
  unfolding guard
  too_few h = rw (lt-leb n (length words) h) refl

  pub enough : n ≤ length words → next ≡ at_least n words next
  unfolding guard
  enough h = rw (le-leb n (length words) h) refl

module _ {A : Type 0} (image : List ℕ) (next : Record → Answer A) where
  pub no_record : (k p : ℕ) → refused k p ≡ record_in image → refused k p ≡ of_image image next
  unfolding bind
  no_record k p e = rw (← e) refl

  pub of_record : (r : Record) → got r ≡ record_in image → next r ≡ of_image image next
  unfolding bind
  of_record r e = rw (← e) refl

-- ---- enrol

module _ (image s expected : List ℕ) where
  pub enrol_none : (k p : ℕ) → refused k p ≡ record_in image → refused k p ≡ enrol_beside image s expected
  unfolding enrol_image
  enrol_none k p e = ap (beside (λ u. 0)) (no_record image (λ r. enrolled r s expected) k p e)

  pub enrol_is : (r : Record) → got r ≡ record_in image → (a : Answer (Unit {0})) → a ≡ enrolled r s expected → beside (λ u. 0) a ≡ enrol_beside image s expected
  unfolding enrol_image
  enrol_is r e a w = ap (beside (λ u. 0)) (w ∙ of_record image (λ r. enrolled r s expected) r e)

-- ---- write

module _ (image s out : List ℕ) where
  pub write_none : (k p : ℕ) → refused k p ≡ record_in image → (refused k p ≡ write_image image s out) × (out ≡ write_leaves image s out)
  unfolding write_image bind
  write_none k p e = rw (← e) (refl, refl)

  pub write_is : (r : Record) → got r ≡ record_in image → {a : Answer ℕ} {new : List ℕ} → a ≡ written r s out → new ≡ left_by r s out → (a ≡ write_image image s out) × (new ≡ write_leaves image s out)
  unfolding write_image bind
  write_is r e w l = rw (← e) (w, l)

-- ---- rule

module _ (image request permit : List ℕ) where
  pub rule_no_request : length request < 16 → refused short_image 0 ≡ rule_image image request permit
  unfolding rule_image
  rule_no_request h = too_few 16 request _ h

  pub rule_no_permit : 16 ≤ length request → length permit < 4 → refused short_image 0 ≡ rule_image image request permit
  unfolding rule_image
  rule_no_permit p h = too_few 4 permit _ h ∙ enough 16 request _ p

  module _ (p : 16 ≤ length request) (q : 4 ≤ length permit) where
    inner : {x : Answer Permit} → x ≡ of_image image (λ r. ruling r (request_of request)) → x ≡ rule_image image request permit
    unfolding rule_image
    inner e = e ∙ (enough 4 permit _ q ∙ enough 16 request _ p)

    pub rule_none : (k p : ℕ) → refused k p ≡ record_in image → refused k p ≡ rule_image image request permit
    rule_none k p e = inner (no_record image (λ r. ruling r (request_of request)) k p e)

    pub rule_is : (r : Record) → got r ≡ record_in image → {u : Request} → u ≡ request_of request → {a : Answer Permit} → a ≡ ruling r u → a ≡ rule_image image request permit
    rule_is r e g w = inner (w ∙ (ap (λ (y : Request). ruling r y) g ∙ of_record image (λ r. ruling r (request_of request)) r e))

-- a permit's words, stored one after the other
pub permit_stored : (old : List ℕ) (a b c d : ℕ) → 4 ≤ length old → set (set (set (set old 0 a) 1 b) 2 c) 3 d ≡ splice old 0 (a ∷ b ∷ c ∷ d ∷ [])
permit_stored old a b c d h = splice_stores old 0 (a ∷ b ∷ c ∷ d ∷ []) h

-- ---- octets

module _ (image : List ℕ) (hardware number len : ℕ) (part : List ℕ) where
  pub ask_no_part : length part < 2 → refused short_image 0 ≡ ask_image image hardware number len part
  unfolding ask_image
  ask_no_part h = too_few 2 part _ h

  module _ (q : 2 ≤ length part) where
    asks : {x : Answer (Option (ℕ × ℕ))} → x ≡ of_image image (λ r. asked_octets r (not (eqb hardware 0)) number len) → x ≡ ask_image image hardware number len part
    unfolding ask_image
    asks e = e ∙ enough 2 part _ q

    pub ask_none : (k p : ℕ) → refused k p ≡ record_in image → refused k p ≡ ask_image image hardware number len part
    ask_none k p e = asks (no_record image (λ r. asked_octets r (not (eqb hardware 0)) number len) k p e)

    pub ask_is : (r : Record) → got r ≡ record_in image → {a : Answer (Option (ℕ × ℕ))} → a ≡ asked_octets r (not (eqb hardware 0)) number len → a ≡ ask_image image hardware number len part
    ask_is r e w = asks (w ∙ of_record image (λ r. asked_octets r (not (eqb hardware 0)) number len) r e)

-- a part's words, stored one after the other; none where there is none
pub part_stored : (old : List ℕ) (a b : ℕ) → 2 ≤ length old → set (set old 0 a) 1 b ≡ splice old 0 (a ∷ b ∷ [])
part_stored old a b h = splice_stores old 0 (a ∷ b ∷ []) h

pub no_part : (old : List ℕ) → old ≡ splice old 0 []
no_part old = sym (splice-nothing old 0)
