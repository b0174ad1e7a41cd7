-- The first six of the eight as the code reads them, in pairs; and that the eight are these six and two lists.
-- Assumes nothing.
use mathlib.Core.Path.{◌≡◌, refl, sym, ◌∙◌}
use mathlib.Core.Bool.{Bool, true, false}
use mathlib.Core.List.{List}
use Prim.Native.Nat.{ℕ, ◌≤◌}
use native.Mathlib.Omega.{arith}
use lib.Dec.{T, leb}
use lib.Seq.{slice}
use Rattle.answer.specs.Answer.{Answer, got, refused, guard, bind, pick}
use Rattle.codec.specs.Octets.{Taken, taken}
use Rattle.codec.specs.Integer.{integer_of}
use Rattle.codec.specs.Element.{both}
use Rattle.schema.specs.Table.{known_version, level_top, top32}
use Rattle.schema.specs.Content.{FieldWith, Place}
use Rattle.schema.specs.Decode.{read_integer, read_enumerated, read_octets, read_list, read_version, read_eight, as_place}
use Rattle.contents.specs.Leaf.{read_number}
use Rattle.contents.specs.Element.{opened_as}
use Rattle.contents.specs.Head.{heading, lists_after, read_attestation, read_keymint, read_names, level_after, head_after, read_head, KnownVersion}
use Rattle.contents.proofs.Open.{after_tagged, tagged_open}
use Rattle.contents.proofs.Members.{number_small}

-- ---- tests of a version

pub level_small : (v : ℕ) → level_top v ≤ 2
unfolding level_top pick
level_small v = small (leb 3 v)
  where
    small : (b : Bool) → pick b 2 1 ≤ 2
    small true = omega arith
    small false = omega arith

-- ---- the version: a number, and then whether it is known

checked : (p x : ℕ) (r : List ℕ) (M : Answer ℕ)
    → bind (bind M λ v. guard (known_version v) 8 p (got v)) (λ a. got (taken a x r)) ≡ bind (bind M (λ a. got (taken a x r))) λ w. guard (known_version w.val) 8 p (got w)
unfolding bind guard
checked p x r (got v) = test (known_version v)
  where
    test : (b : Bool) → bind (guard b 8 p (got v)) (λ a. got (taken a x r)) ≡ guard b 8 p (got (taken v x r))
    test true = refl
    test false = refl
checked p x r (refused k q) = refl

tag_checked : (p : ℕ) (M : Answer (Taken (ℕ × List ℕ)))
    → bind M (after_tagged (λ p q bs. bind (integer_of top32 10 p bs) λ v. guard (known_version v) 8 p (got v)) p 0 2)
    ≡ bind (bind M (after_tagged (λ p q bs. integer_of top32 10 p bs) p 0 2)) λ w. guard (known_version w.val) 8 p (got w)
unfolding bind after_tagged
tag_checked p (got o) = checked p o.next o.rest (integer_of top32 10 p o.val.1)
tag_checked p (refused k q) = refl

version-number : (p : ℕ) (bs : List ℕ) → read_version p bs ≡ bind (read_number 2 top32 p bs) λ w. guard (known_version w.val) 8 p (got w)
unfolding read_version read_number
version-number p bs = rw (tagged_open, tagged_open) (tag_checked p (opened_as 0 2 p bs))

known_of : (n : ℕ) (b : Bool) → b ≡ known_version n → b ≡ true → T (known_version n)
known_of n b q u = let z : known_version n ≡ true = sym q ∙ u in rw z tt

module _ (s : List ℕ) (at end : ℕ) where
  pub version_no : (k p : ℕ) → refused k p ≡ read_number 2 top32 at (slice at end s) → refused k p ≡ read_version at (slice at end s)
  unfolding bind
  version_no k p e = rw (version-number, ← e) refl

  module _ (n x : ℕ) (e : got (taken n x (slice x end s)) ≡ read_number 2 top32 at (slice at end s)) (b : Bool) (q : b ≡ known_version n) where
    pub version-is : b ≡ true → got (taken n x (slice x end s)) ≡ read_version at (slice at end s)
    unfolding bind guard
    version-is u = rw (version-number, ← e, ← q, u) refl

    pub version_unknown : b ≡ false → refused 8 at ≡ read_version at (slice at end s)
    unfolding bind guard
    version_unknown u = rw (version-number, ← e, ← q, u) refl

    pub version_known : b ≡ true → KnownVersion n
    version_known u = (known_of n b q u, number_small s at end 2 top32 n x e)

-- ---- a version and its level

module _ (s : List ℕ) (at end : ℕ) where
  module _ (v top : ℕ) where
    pub level_no : (k p : ℕ) → refused k p ≡ read_number 10 top at (slice at end s) → refused k p ≡ level_after v top at (slice at end s)
    unfolding level_after read_enumerated read_number bind
    level_no k p e = rw (← e) refl

    pub level-is : (n x : ℕ) → got (taken n x (slice x end s)) ≡ read_number 10 top at (slice at end s) → got (taken (v, n) x (slice x end s)) ≡ level_after v top at (slice at end s)
    unfolding level_after read_enumerated read_number bind
    level-is n x e = rw (← e) refl

  pub attestation_no : (k p : ℕ) → refused k p ≡ read_version at (slice at end s) → refused k p ≡ read_attestation at (slice at end s)
  unfolding read_attestation both bind
  attestation_no k p e = rw (← e) refl

  pub attestation-is : (n x top : ℕ) (t : Answer (Taken (ℕ × ℕ))) → got (taken n x (slice x end s)) ≡ read_version at (slice at end s) → top ≡ level_top n → t ≡ level_after n top x (slice x end s)
      → t ≡ read_attestation at (slice at end s)
  unfolding read_attestation level_after both bind
  attestation-is n x top t e u q = rw (← e, ← u) q

  pub keymint_no : (v k p : ℕ) → refused k p ≡ read_number 2 top32 at (slice at end s) → refused k p ≡ read_keymint v at (slice at end s)
  unfolding read_keymint read_integer read_number both bind
  keymint_no v k p e = rw (← e) refl

  pub keymint-is : (v n x top : ℕ) (t : Answer (Taken (ℕ × ℕ))) → got (taken n x (slice x end s)) ≡ read_number 2 top32 at (slice at end s) → top ≡ level_top v → t ≡ level_after n top x (slice x end s)
      → t ≡ read_keymint v at (slice at end s)
  unfolding read_keymint level_after read_integer read_number both bind
  keymint-is v n x top t e u q = rw (← e, ← u) q

  -- ---- the challenge and the unique id

  pub names_no : (k p : ℕ) → refused k p ≡ read_octets as_place at (slice at end s) → refused k p ≡ read_names at (slice at end s)
  unfolding read_names both bind
  names_no k p e = rw (← e) refl

  module _ (c : Place) (x : ℕ) (e : got (taken c x (slice x end s)) ≡ read_octets as_place at (slice at end s)) where
    pub names_one : (k p : ℕ) → refused k p ≡ read_octets as_place x (slice x end s) → refused k p ≡ read_names at (slice at end s)
    unfolding read_names both bind
    names_one k p e₂ = rw (← e, ← e₂) refl

    pub names_is : (u : Place) (y : ℕ) → got (taken u y (slice y end s)) ≡ read_octets as_place x (slice x end s) → got (taken (c, u) y (slice y end s)) ≡ read_names at (slice at end s)
    unfolding read_names both bind
    names_is u y e₂ = rw (← e, ← e₂) refl

  -- ---- the six

  pub head_no : (k p : ℕ) → refused k p ≡ read_attestation at (slice at end s) → refused k p ≡ read_head at (slice at end s)
  unfolding read_head bind
  head_no k p e = rw (← e) refl

  module _ (a : ℕ × ℕ) (x : ℕ) (e : got (taken a x (slice x end s)) ≡ read_attestation at (slice at end s)) where
    pub head_keymint_no : (k p : ℕ) → refused k p ≡ read_keymint a.0 x (slice x end s) → refused k p ≡ read_head at (slice at end s)
    unfolding read_head head_after bind
    head_keymint_no k p e₂ = rw (← e, ← e₂) refl

    module _ (m : ℕ × ℕ) (y : ℕ) (e₂ : got (taken m y (slice y end s)) ≡ read_keymint a.0 x (slice x end s)) where
      pub head_names_no : (k p : ℕ) → refused k p ≡ read_names y (slice y end s) → refused k p ≡ read_head at (slice at end s)
      unfolding read_head head_after bind
      head_names_no k p e₃ = rw (← e, ← e₂, ← e₃) refl

      pub head_is : (n : Place × Place) (z : ℕ) → got (taken n z (slice z end s)) ≡ read_names y (slice y end s) → got (taken (heading a m n) z (slice z end s)) ≡ read_head at (slice at end s)
      unfolding read_head head_after bind
      head_is n z e₃ = rw (← e, ← e₂, ← e₃) refl

pub bind-same : {A : Type 0} (M : Answer A) → bind M (λ w. got w) ≡ M
unfolding bind
bind-same (got a) = refl
bind-same (refused k p) = refl

-- ---- the eight: the six, and two lists

module _ {A B : Type 0} where
  bind-eq : (M : Answer A) (f g : A → Answer B) → ((a : A) → f a ≡ g a) → bind M f ≡ bind M g
  unfolding bind
  bind-eq (got a) f g h = h a
  bind-eq (refused k p) f g h = refl

  bind-bind : {C : Type 0} (M : Answer A) (f : A → Answer B) (g : B → Answer C) → bind (bind M f) g ≡ bind M λ a. bind (f a) g
  unfolding bind
  bind-bind (got a) f g = refl
  bind-bind (refused k p) f g = refl

  bind_then : {C : Type 0} (M : Answer A) (f : A → B) (g : B → Answer C) → bind (bind M λ a. got (f a)) g ≡ bind M λ a. g (f a)
  unfolding bind
  bind_then (got a) f g = refl
  bind_then (refused k p) f g = refl

module _ {A B D : Type 0} (rd : ℕ → List ℕ → Answer (Taken A)) (rd' : A → ℕ → List ℕ → Answer (Taken B)) where
  abbrev after_both : (Taken (A × B) → Answer D) → Taken A → Answer D
  after_both g a = bind (rd' a.val a.next a.rest) λ b. g (taken (a.val, b.val) b.next b.rest)

  -- two, and whatever follows them
  both_then : (g : Taken (A × B) → Answer D) (p : ℕ) (bs : List ℕ) → bind (both rd rd' p bs) g ≡ bind (rd p bs) (after_both g)
  unfolding both
  both_then g p bs =
      bind-bind (rd p bs) (λ a. bind (rd' a.val a.next a.rest) λ b. got (taken (a.val, b.val) b.next b.rest)) g
      ∙ bind-eq (rd p bs) (λ a. bind (bind (rd' a.val a.next a.rest) λ b. got (taken (a.val, b.val) b.next b.rest)) g) (after_both g)
      (λ a. bind_then (rd' a.val a.next a.rest) (λ b. taken (a.val, b.val) b.next b.rest) g)

-- two are taken together, and the third after them
module _ {A B C D : Type 0} (rd : ℕ → List ℕ → Answer (Taken A)) (rd' : A → ℕ → List ℕ → Answer (Taken B)) (rd'' : A → B → ℕ → List ℕ → Answer (Taken C)) (g : Taken (A × (B × C)) → Answer D) where
  abbrev third_after : Taken (A × B) → Answer D
  third_after w = bind (rd'' w.val.0 w.val.1 w.next w.rest) λ c. g (taken (w.val.0, (w.val.1, c.val)) c.next c.rest)

  pairs : (p : ℕ) (bs : List ℕ) → bind (both rd (λ a. both (rd' a) (rd'' a)) p bs) g ≡ bind (both rd rd' p bs) third_after
  pairs p bs =
      both_then rd (λ a. both (rd' a) (rd'' a)) g p bs
      ∙ (bind-eq (rd p bs) (after_both rd (λ a. both (rd' a) (rd'' a)) g) (after_both rd rd' third_after)
      (λ a. both_then (rd' a.val) (rd'' a.val) (λ b. g (taken (a.val, b.val) b.next b.rest)) a.next a.rest)
      ∙ sym (both_then rd rd' third_after p bs))

-- the eight from the third and from the fifth on
abbrev from_names : ℕ → ℕ → List ℕ → Answer (Taken (Place × (Place × (List (FieldWith Place) × List (FieldWith Place)))))
from_names v = both (read_octets as_place) λ c. both (read_octets as_place) λ u. both (read_list as_place v) λ s. read_list as_place v

abbrev from_keymint : ℕ → ℕ → List ℕ → Answer (Taken (ℕ × (ℕ × (Place × (Place × (List (FieldWith Place) × List (FieldWith Place)))))))
from_keymint v = both (read_integer top32) λ k. both (read_enumerated (level_top v)) λ m. from_names v

module _ (a : ℕ × ℕ) where
  lists_split : (k : ℕ × ℕ) (n : Place × Place) (p : ℕ) (bs : List ℕ)
      → bind (both (read_list as_place a.0) (λ s. read_list as_place a.0) p bs) (λ c. got (taken (a.0, (a.1, (k.0, (k.1, (n.0, (n.1, c.val)))))) c.next c.rest)) ≡ lists_after (heading a k n) p bs
  lists_split k n p bs = both_then (read_list as_place a.0) (λ s. read_list as_place a.0) _ p bs

  names_split : (k : ℕ × ℕ) (p : ℕ) (bs : List ℕ)
      → bind (from_names a.0 p bs) (λ c. got (taken (a.0, (a.1, (k.0, (k.1, c.val)))) c.next c.rest)) ≡ bind (read_names p bs) λ n. lists_after (heading a k n.val) n.next n.rest
  unfolding read_names
  names_split k p bs =
      pairs (read_octets as_place) (λ c. read_octets as_place) (λ c u. both (read_list as_place a.0) λ s. read_list as_place a.0) _ p bs
      ∙ bind-eq (read_names p bs) _ _ (λ n. lists_split k n.val n.next n.rest)

  keymint_split : (p : ℕ) (bs : List ℕ)
      → bind (from_keymint a.0 p bs) (λ c. got (taken (a.0, (a.1, c.val)) c.next c.rest)) ≡ bind (head_after a p bs) λ h. lists_after h.val h.next h.rest
  unfolding read_keymint head_after
  keymint_split p bs =
      pairs (read_integer top32) (λ k. read_enumerated (level_top a.0)) (λ k m. from_names a.0) _ p bs
      ∙ (bind-eq (read_keymint a.0 p bs) _ _ (λ k. names_split k.val k.next k.rest ∙ sym (bind_then (read_names k.next k.rest) (λ n. taken (heading a k.val n.val) n.next n.rest) _))
      ∙ sym (bind-bind (read_keymint a.0 p bs) _ _))

pub eight_split : (p : ℕ) (bs : List ℕ) → read_eight as_place p bs ≡ bind (read_head p bs) λ h. lists_after h.val h.next h.rest
unfolding read_eight read_attestation read_head
eight_split p bs =
    sym (bind-same (read_eight as_place p bs))
    ∙ (pairs read_version (λ v. read_enumerated (level_top v)) (λ v l. from_keymint v) (λ w. got w) p bs
    ∙ (bind-eq (read_attestation p bs) _ _ (λ a. keymint_split a.val a.next a.rest)
    ∙ sym (bind-bind (read_attestation p bs) _ _)))
