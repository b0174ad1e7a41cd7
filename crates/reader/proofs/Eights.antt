-- What stands around a KeyDescription's two lists: the first pass, the outermost SEQUENCE and the six of the head before
-- them; one law for each answer. Assumes nothing.
use mathlib.Core.Path.{◌≡◌, refl, sym, ◌∙◌}
use mathlib.Core.Bool.{Bool, true, false}
use mathlib.Core.List.{List}
use Prim.Native.Nat.{ℕ, ◌≤◌}
use native.Mathlib.Omega.{arith}
use native.Mathlib.Nat.{le_refl}
use lib.Dec.{eqb}
use lib.ListN.{length}
use lib.Seq.{slice, length-slice, take-length}
use borrow.Author.Tests.{eq-eqb, ne_eqb}
use Rattle.answer.specs.Answer.{Answer, got, refused, guard, bind}
use Rattle.answer.proofs.Answer.{got_inj, refused-got, refused_as}
use Rattle.answer.proofs.Logic.{by_le}
use Rattle.codec.specs.Octets.{Taken, taken}
use Rattle.codec.specs.Header.{identifier}
use Rattle.codec.specs.Element.{tagged, exactly}
use Rattle.codec.specs.Tree.{Node, nodes, first_pass}
use Rattle.schema.specs.Content.{Places, Place}
use Rattle.schema.specs.Decode.{Eight, eight_from, read_eight, decode_with, read_with, read_places, as_place}
use Rattle.std.specs.Prelude.{Ok}
use Rattle.der.specs.Walk.{node_count}
use Rattle.contents.specs.Element.{opened_as}
use Rattle.contents.specs.Head.{heading_of, read_head, HeadInside, lists_after}
use Rattle.reader.specs.Eight.{lists_from, ListsAt}
use Rattle.contents.specs.declared.head.Head.{Head}
use Rattle.contents.proofs.Open.{leaf_no, leaf_is}
use Rattle.contents.proofs.Heads.{eight_split}
use Rattle.codec.specs.Limits.{extension_bytes, extension_depth, extension_elements}

-- ---- nothing is left just where the holder stops

pub none_left : (s : List ℕ) (x end : ℕ) → x ≤ end → end ≤ length s → eqb (length (slice x end s)) 0 ≡ eqb x end
none_left s x end h fit =
    by_le end x
    (λ l. rw (eq-eqb x end (omega arith), eq-eqb (length (slice x end s)) 0 (omega (arith, length-slice x end s fit))) refl)
    (λ l. rw (ne_eqb x end (omega arith), ne_eqb (length (slice x end s)) 0 (λ q. omega (arith, length-slice x end s fit))) refl)

abbrev with_count : ℕ → Answer Places → Answer (Places × ℕ)
with_count n M = bind M (λ c. got (c, n))

-- ---- after the first pass

module _ (s : List ℕ) where
  walked_no : (k p : ℕ) (M : Answer Node) → refused k p ≡ node_count M → ◌≡◌ {A = Answer (Places × ℕ)} (bind M (λ t. with_count (nodes t) (decode_with as_place s))) (refused k p)
  unfolding bind
  walked_no k p (got t) z = absurd (refused-got z)
  walked_no k p (refused j l) z = sym (refused_as z)

  pub walk_no : (k p : ℕ) → refused k p ≡ node_count (first_pass extension_bytes extension_depth extension_elements s) → read_places s ≡ refused k p
  unfolding read_with
  walk_no k p e = walked_no k p (first_pass extension_bytes extension_depth extension_elements s) e

  walked_is : (n : ℕ) (M : Answer Node) → got n ≡ node_count M → bind M (λ t. with_count (nodes t) (decode_with as_place s)) ≡ with_count n (decode_with as_place s)
  unfolding bind
  walked_is n (got t) z = rw (got_inj z) refl
  walked_is n (refused j l) z = absurd (refused-got (sym z))

  walk_is : (n : ℕ) → got n ≡ node_count (first_pass extension_bytes extension_depth extension_elements s) → read_places s ≡ with_count n (decode_with as_place s)
  unfolding read_with
  walk_is n e = walked_is n (first_pass extension_bytes extension_depth extension_elements s) e

-- ---- the outermost SEQUENCE: 9 for more in it and 7 for more after it, as `lists_from` has them

outer : ℕ → ℕ → List ℕ → Answer (Eight Place)
outer p q cs = exactly 9 (read_eight as_place) q cs

abbrev ended : ℕ → Answer (Taken (Eight Place)) → Answer (Places × ℕ)
ended n M = with_count n (bind (bind M (λ v. guard (eqb (length v.rest) 0) 7 v.next (got v.val))) (λ t. got (eight_from t)))

module _ (n x : ℕ) (r : List ℕ) where
  after : (t : Eight Place) (b : Bool) → with_count n (bind (guard b 7 x (got t)) (λ t. got (eight_from t))) ≡ guard b 7 x (got (eight_from t, n))
  unfolding bind guard
  after t true = refl
  after t false = refl

  around : (t : Eight Place) (y : ℕ) (b : Bool) → ended n (bind (guard b 9 y (got t)) (λ a. got (taken a x r))) ≡ guard b 9 y (guard (eqb (length r) 0) 7 x (got (eight_from t, n)))
  unfolding bind guard
  around t y true = after t (eqb (length r) 0)
  around t y false = refl

  in_order : (M : Answer (Taken (Eight Place)))
      → ended n (bind (bind M (λ w. guard (eqb (length w.rest) 0) 9 w.next (got w.val))) (λ a. got (taken a x r)))
      ≡ bind M (λ w. guard (eqb (length w.rest) 0) 9 w.next (guard (eqb (length r) 0) 7 x (got (eight_from w.val, n))))
  unfolding bind
  in_order (got w) = around w.val w.next (eqb (length w.rest) 0)
  in_order (refused k p) = refl

decode_outer : (s : List ℕ) (n : ℕ) → with_count n (decode_with as_place s) ≡ ended n (tagged 9 (identifier 1 16) outer 0 (slice 0 (length s) s))
unfolding decode_with exactly outer
decode_outer s n = rw take-length refl

module _ (s : List ℕ) (n : ℕ) (e : got n ≡ node_count (first_pass extension_bytes extension_depth extension_elements s)) where
  all : read_places s ≡ ended n (tagged 9 (identifier 1 16) outer 0 (slice 0 (length s) s))
  all = walk_is s n e ∙ decode_outer s n

  pub outer_no : (k p : ℕ) → refused k p ≡ opened_as 1 16 0 (slice 0 (length s) s) → read_places s ≡ refused k p
  unfolding bind
  outer_no k p e₁ = all ∙ rw (← leaf_no outer 0 1 16 s (length s) k p e₁) refl

  module _ (b x : ℕ) (e₁ : got (taken (b, slice b x s) x (slice x (length s) s)) ≡ opened_as 1 16 0 (slice 0 (length s) s)) where
    here : (M : Answer (Taken (Eight Place))) → read_eight as_place b (slice b x s) ≡ M
        → read_places s ≡ bind M (λ v. guard (eqb (length v.rest) 0) 9 v.next (guard (eqb (length (slice x (length s) s)) 0) 7 x (got (eight_from v.val, n))))
    unfolding outer exactly
    here M z = all ∙ (rw (← leaf_is outer 0 1 16 s (length s) b x e₁, z) refl ∙ in_order n x (slice x (length s) s) M)

    pub six_no : (k p : ℕ) → refused k p ≡ read_head b (slice b x s) → read_places s ≡ refused k p
    unfolding bind
    six_no k p e₂ = here (refused k p) (rw (eight_split, ← e₂) refl)

    module _ (h : Head) (y : ℕ) (e₂ : got (taken (heading_of h) y (slice y x s)) ≡ read_head b (slice b x s)) where
      lists : read_eight as_place b (slice b x s) ≡ lists_after (heading_of h) y (slice y x s)
      unfolding bind
      lists = rw (eight_split, ← e₂) refl

      pub opened-to : x ≤ length s → HeadInside b x (Ok (record { val = h; next = y })) → ListsAt s n h y x
      unfolding lists_from
      opened-to l g = record {
        fits = l;
        inside = (omega (arith, g.0), g.1);
        reads = here _ lists ∙ rw (none_left s x (length s) l (le_refl _)) refl;
      }
