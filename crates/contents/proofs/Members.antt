-- The members of a set, one at a time: what each turn of the loop reads, and what it stores. Assumes nothing.
use mathlib.Core.Path.{◌≡◌, refl, sym, ◌∙◌}
use mathlib.Core.List.{List, [], ◌∷◌, ◌++◌}
use Prim.Native.Nat.{ℕ, ◌+◌, ◌<◌, ◌≤◌}
use native.Mathlib.Omega.{arith}
use native.Mathlib.Numerals.{add-one}
use lib.Dec.{leb→le}
use lib.ListN.{length, get_or, take, set, length-set, replicate, get_or-replicate}
use lib.Seq.{slice, take-suc-set, get_or-set_other}
use borrow.Author.Tests.{lt-ltb, le-ltb, le-leb, lt-leb}
use Rattle.answer.specs.Answer.{Answer, got, refused, guard, bind}
use Rattle.answer.proofs.Answer.{guard_case, bind_case, got_inj, refused-got}
use Rattle.codec.specs.Octets.{Taken, taken}
use Rattle.codec.specs.Integer.{integer_of}
use Rattle.codec.specs.Element.{element, tagged, chain}
use Rattle.schema.specs.Table.{top32}
use Rattle.schema.specs.Content.{after_member}
use Rattle.schema.specs.Decode.{read_integer, read_member, read_set}
use Rattle.contents.specs.Leaf.{read_number}
use Rattle.contents.specs.Element.{opened_as}
use Rattle.contents.specs.Set.{members_from}
use Rattle.records.specs.Slots.{SetInSlots}
use Rattle.records.specs.Clear.{SpareClear}
use Rattle.contents.proofs.Open.{leaf_no, leaf_is}
use Rattle.contents.proofs.Chains.{Ahead, ahead_start, ahead_refused, ahead_more, ahead_end}

-- ---- a number that was read is within its top

integer_top : (top n p : ℕ) (bs : List ℕ) (v : ℕ) → integer_of top n p bs ≡ got v → v ≤ top
unfolding integer_of
integer_top top n p [] v e = absurd (refused-got e)
integer_top top n p (a ∷ []) v e = guard_case _ _ _ _ e λ t e₁. guard_case _ _ _ _ e₁ λ u e₂. rw (← got_inj e₂) (leb→le a top u)
integer_top top n p (a ∷ b ∷ r) v e = guard_case _ _ _ _ e λ t e₁. guard_case _ _ _ _ e₁ λ u e₂. guard_case _ _ _ _ e₂ λ y e₃. rw (← got_inj e₃) (leb→le _ top y)

pub number_top : (tag top p : ℕ) (bs : List ℕ) (w : Taken ℕ) → read_number tag top p bs ≡ got w → w.val ≤ top
unfolding read_number tagged element
number_top tag top p bs w e =
    guard_case _ _ _ _ e λ t e₁.
    bind_case _ _ e₁ λ h eh e₂.
    bind_case _ _ e₂ λ a ea e₃.
    guard_case _ _ _ _ ea λ u e₄.
    rw (← got_inj e₃) (integer_top top 10 p _ a e₄)

pub number_small : (s : List ℕ) (at end tag top n x : ℕ) → got (taken n x (slice x end s)) ≡ read_number tag top at (slice at end s) → n ≤ top
number_small s at end tag top n x e = number_top tag top at (slice at end s) (taken n x (slice x end s)) (sym e)

-- ---- one member

module _ (s : List ℕ) (end p n low : ℕ) where
  member_many : 16 ≤ n → read_member (n, low) p (slice p end s) ≡ refused 14 p
  unfolding read_member guard
  member_many h = rw (le-ltb n 16 h) refl

  module _ (h : n < 16) where
    member_no : (k q : ℕ) → refused k q ≡ read_number 2 top32 p (slice p end s) → read_member (n, low) p (slice p end s) ≡ refused k q
    unfolding read_member read_integer read_number guard bind
    member_no k q e = rw (lt-ltb n 16 h, ← e) refl

    module _ (v x : ℕ) (e : got (taken v x (slice x end s)) ≡ read_number 2 top32 p (slice p end s)) where
      member_order_lem : v < low → read_member (n, low) p (slice p end s) ≡ refused 13 p
      unfolding read_member read_integer read_number guard bind
      member_order_lem l = rw (lt-ltb n 16 h, ← e, lt-leb low v l) refl

      member_is : low ≤ v → read_member (n, low) p (slice p end s) ≡ got (taken v x (slice x end s))
      unfolding read_member read_integer read_number guard bind
      member_is l = rw (lt-ltb n 16 h, ← e, le-leb low v l) refl

-- ---- the loop

-- n members are stored, and the rest is ahead
pub record Gathered (s : List ℕ) (at end : ℕ) (members : List ℕ) (place low n : ℕ) : Type 0 where
  pub from : at ≤ place
  pub to : place ≤ end
  pub few : n ≤ 16
  pub slots : length members ≡ 16
  pub spare : (k : ℕ) → n ≤ k → k < 16 → get_or members k 0 ≡ 0
  pub ahead : Ahead read_member after_member s end (members_from at (slice at end s)) (take n members) (n, low) place

module _ (s : List ℕ) (at end : ℕ) (fit : end ≤ length s) where
  pub gathered_none : at ≤ end → Gathered s at end (replicate 16 0) at 0 0
  unfolding members_from
  gathered_none h = record { from = omega arith; to = h; few = omega arith; slots = refl; spare = λ k p q. get_or-replicate {A = ℕ} 16 k 0 0 q; ahead = ahead_start read_member after_member s end fit (0, 0) at }

  module _ (members : List ℕ) (place low n : ℕ) (g : Gathered s at end members place low n) where
    whole : Answer (List ℕ)
    whole = members_from at (slice at end s)

    refuses : (k q : ℕ) → place < end → read_member (n, low) place (slice place end s) ≡ refused k q → refused k q ≡ members_from at (slice at end s)
    refuses k q h w = ahead_refused read_member after_member s end fit _ (take n members) (n, low) place g.ahead k q h w

    pub gathered_many : place < end → 16 ≤ n → refused 14 place ≡ members_from at (slice at end s)
    gathered_many h l = refuses 14 place h (member_many s end place n low l)

    module _ (h : place < end) (l : n < 16) where
      pub gathered_no : (k q : ℕ) → refused k q ≡ read_number 2 top32 place (slice place end s) → refused k q ≡ members_from at (slice at end s)
      gathered_no k q e = refuses k q h (member_no s end place n low l k q e)

      module _ (v x : ℕ) (e : got (taken v x (slice x end s)) ≡ read_number 2 top32 place (slice place end s)) where
        pub gathered_order : v < low → refused 13 place ≡ members_from at (slice at end s)
        gathered_order o = refuses 13 place h (member_order_lem s end place n low l v x e o)

        pub gathered_more : place < x → x ≤ end → low ≤ v → Gathered s at end (set members n v) x (v + 1) (n + 1)
        gathered_more i j o =
            let b = g.from in
            let m : take (n + 1) (set members n v) ≡ take n members ++ (v ∷ []) = rw add-one (take-suc-set members n v (omega (arith, g.slots))) in
            record {
              from = omega arith;
              to = j;
              few = omega arith;
              slots = length-set members n v ∙ g.slots;
              spare = λ k p q. get_or-set_other members n k v 0 (λ u. absurd (omega arith)) ∙ g.spare k (omega arith) q;
              ahead = rw m (ahead_more read_member after_member s end fit _ (take n members) (n, low) place g.ahead x v h i (member_is s end place n low l v x e o));
            }

    pub gathered_slots : SetInSlots (record { members = members; count = n }) × SpareClear (record { members = members; count = n })
    gathered_slots = ((g.few, g.slots), g.spare)

    pub gathered_all : end ≤ place → got (take n members) ≡ members_from at (slice at end s)
    gathered_all h = ahead_end read_member after_member s end fit _ (take n members) (n, low) place g.ahead g.to h

-- ---- the set

module _ (s : List ℕ) (at end : ℕ) where
  pub set_no : (k p : ℕ) → refused k p ≡ opened_as 1 17 at (slice at end s) → refused k p ≡ read_set at (slice at end s)
  unfolding read_set
  set_no k p e = leaf_no _ at 1 17 s end k p e

  module _ (b x : ℕ) (e : got (taken (b, slice b x s) x (slice x end s)) ≡ opened_as 1 17 at (slice at end s)) where
    pub set_members_no : (k p : ℕ) → refused k p ≡ members_from b (slice b x s) → refused k p ≡ read_set at (slice at end s)
    unfolding read_set members_from bind
    set_members_no k p q = rw (← q) at (leaf_is (λ p q bs. chain read_member after_member (0, 0) q bs) at 1 17 s end b x e)

    pub set_is : (l : List ℕ) → got l ≡ members_from b (slice b x s) → got (taken l x (slice x end s)) ≡ read_set at (slice at end s)
    unfolding read_set members_from bind
    set_is l q = rw (← q) at (leaf_is (λ p q bs. chain read_member after_member (0, 0) q bs) at 1 17 s end b x e)
