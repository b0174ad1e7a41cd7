-- An element opened, as the code answers it; and that each reader of the schema is an element opened and then its
-- content. Assumes nothing.
use mathlib.Core.Path.{◌≡◌, refl, ◌∙◌}
use mathlib.Core.Bool.{Bool, true, false, ◌&&◌}
use mathlib.Core.List.{List}
use Prim.Native.Nat.{ℕ, ◌+◌, ◌-◌, ◌<◌, ◌≤◌}
use native.Mathlib.Nat.{le_refl}
use native.Mathlib.Omega.{arith}
use lib.Dec.{ltb, eqb}
use lib.ListN.{length, take, drop, length-take, length-drop}
use lib.Seq.{slice, length-slice, take-length}
use borrow.Author.Tests.{lt-ltb, le-ltb, eq-eqb, ne_eqb}
use Rattle.answer.specs.Answer.{Answer, got, refused, guard, bind}
use Rattle.codec.specs.Octets.{Taken, taken}
use Rattle.codec.specs.Header.{Identifier, identifier, header, read_header}
use Rattle.codec.specs.Header as codec
use Rattle.codec.specs.Element.{element, tagged}
use Rattle.der.proofs.Elements.{rest_part, front_part}
use Rattle.contents.specs.Element.{Opened, opening, opened, opened_as}

-- ---- a part of the bytes, as the code lends it

pub span_is : (s : List ℕ) (b x : ℕ) → b ≤ x → x ≤ length s → take (x - b) (drop b s) ≡ slice b x s
span_is s b x h l = let q : b + (x - b) ≡ x = omega arith in rw q at (rw (take-length s) at (front_part s b (length s) (x - b) (le_refl _) (omega arith)))

-- ---- as the code answers it

length_slice_none : (at end : ℕ) (s : List ℕ) → end ≤ at → length (slice at end s) ≡ 0
length_slice_none at end s h = length-drop at (take end s) ∙ omega (arith, length-take end s)

module _ (s : List ℕ) (at end : ℕ) where
  pub open_missing : end ≤ at → refused 9 at ≡ opened at (slice at end s)
  unfolding opened element guard
  open_missing h = rw (le-ltb 0 (length (slice at end s)) (omega (arith, length_slice_none at end s h))) refl

  module _ (fit : end ≤ length s) (h : at < end) where
    some : ltb 0 (length (slice at end s)) ≡ true
    some = lt-ltb 0 (length (slice at end s)) (omega (arith, length-slice at end s fit))

    pub open_no : (k p : ℕ) → refused k p ≡ read_header at (slice at end s) → refused k p ≡ opened at (slice at end s)
    unfolding opened element guard bind
    open_no k p e = rw (some, ← e) refl

    pub open_is : (f n z b : ℕ) → got (taken (header (identifier f n) z) b (slice b end s)) ≡ read_header at (slice at end s) → b + z ≤ end
        → got (taken (opening (identifier f n) b (slice b (b + z) s)) (b + z) (slice (b + z) end s)) ≡ opened at (slice at end s)
    unfolding opened element guard bind
    open_is f n z b e j = rw (some, ← e, rest_part, front_part s b end z fit j) refl

-- ---- an element, and then its content

module _ {A : Type 0} (content : Identifier → ℕ → ℕ → List ℕ → Answer A) (p : ℕ) where
  unfoldable pub content_after : Taken Opened → Answer (Taken A)
  content_after w = bind (content w.val.id p w.val.body w.val.octets) λ a. got (taken a w.next w.rest)

  guarded : (b : Bool) (M : Answer (Taken codec.Header))
      → guard b 9 p (bind M λ h. bind (content h.val.id p h.next (take h.val.size h.rest)) λ a. got (taken a (h.next + h.val.size) (drop h.val.size h.rest)))
      ≡ bind (guard b 9 p (bind M λ h. bind (got (opening h.val.id h.next (take h.val.size h.rest))) λ a. got (taken a (h.next + h.val.size) (drop h.val.size h.rest)))) content_after
  unfolding guard bind content_after
  guarded true (got h) = refl
  guarded true (refused k q) = refl
  guarded false M = refl

  pub element_open : (bs : List ℕ) → element 9 content p bs ≡ bind (opened p bs) content_after
  unfolding opened element
  element_open bs = guarded (ltb 0 (length bs)) (read_header p bs)

-- ---- an element of a known identifier

module _ (s : List ℕ) (at end form number : ℕ) where
  pub tagged_no : (k p : ℕ) → refused k p ≡ opened at (slice at end s) → refused k p ≡ opened_as form number at (slice at end s)
  unfolding opened_as tagged bind
  tagged_no k p e = rw (element_open, ← e) refl

  module _ (f n b x : ℕ) (e : got (taken (opening (identifier f n) b (slice b x s)) x (slice x end s)) ≡ opened at (slice at end s)) where
    pub tagged-form : (f ≡ form → ⊥) → refused 9 at ≡ opened_as form number at (slice at end s)
    unfolding opened_as tagged content_after bind guard
    tagged-form h = rw (element_open, ← e, ne_eqb f form h) refl

    pub tagged-number : f ≡ form → (n ≡ number → ⊥) → refused 9 at ≡ opened_as form number at (slice at end s)
    unfolding opened_as tagged content_after bind guard
    tagged-number h l = rw (element_open, ← e, eq-eqb f form h, ne_eqb n number l) refl

    pub tagged_is : f ≡ form → n ≡ number → got (taken (b, slice b x s) x (slice x end s)) ≡ opened_as form number at (slice at end s)
    unfolding opened_as tagged content_after bind guard
    tagged_is h l = rw (element_open, ← e, eq-eqb f form h, eq-eqb n number l) refl

-- its reader is the element opened and then its content
module _ {A : Type 0} (content : ℕ → ℕ → List ℕ → Answer A) (p form number : ℕ) where
  unfoldable pub after_tagged : Taken (ℕ × List ℕ) → Answer (Taken A)
  after_tagged w = bind (content p w.val.0 w.val.1) λ a. got (taken a w.next w.rest)

  guarded_tag : (b : Bool) (q x : ℕ) (cs r : List ℕ)
      → bind (guard b 9 p (content p q cs)) (λ a. got (taken a x r)) ≡ bind (bind (guard b 9 p (got (q, cs))) (λ a. got (taken a x r))) after_tagged
  unfolding guard bind after_tagged
  guarded_tag true q x cs r = refl
  guarded_tag false q x cs r = refl

  same_tag : (M : Answer (Taken Opened))
      → bind M (content_after (λ j p q bs. guard (eqb j.form form && eqb j.number number) 9 p (content p q bs)) p)
      ≡ bind (bind M (content_after (λ j p q bs. guard (eqb j.form form && eqb j.number number) 9 p (got (q, bs))) p)) after_tagged
  unfolding bind content_after
  same_tag (got o) = guarded_tag (eqb o.val.id.form form && eqb o.val.id.number number) o.val.body o.next o.val.octets o.rest
  same_tag (refused k q) = refl

  pub tagged_open : (bs : List ℕ) → tagged 9 (identifier form number) content p bs ≡ bind (opened_as form number p bs) after_tagged
  unfolding opened_as tagged
  tagged_open bs = rw (element_open, element_open) (same_tag (opened p bs))

  module _ (s : List ℕ) (end : ℕ) where
    pub leaf_no : (k q : ℕ) → refused k q ≡ opened_as form number p (slice p end s) → refused k q ≡ tagged 9 (identifier form number) content p (slice p end s)
    unfolding bind
    leaf_no k q e = rw (tagged_open, ← e) refl

    pub leaf_is : (b x : ℕ) → got (taken (b, slice b x s) x (slice x end s)) ≡ opened_as form number p (slice p end s)
        → bind (content p b (slice b x s)) (λ a. got (taken a x (slice x end s))) ≡ tagged 9 (identifier form number) content p (slice p end s)
    unfolding bind after_tagged
    leaf_is b x e = rw (tagged_open, ← e) refl
