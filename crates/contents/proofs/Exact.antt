-- Exactly one element: what follows it is empty where its end is its holder's, and an extra element else.
-- Assumes nothing.
use mathlib.Core.Path.{◌≡◌, refl, sym, ◌∙◌}
use mathlib.Core.Bool.{Bool, true, false}
use mathlib.Core.List.{List, []}
use Prim.Native.Nat.{ℕ, ◌<◌, ◌≤◌}
use native.Mathlib.Omega.{arith}
use lib.Dec.{eqb}
use lib.ListN.{length}
use lib.Seq.{slice, slice_empty, length-slice}
use borrow.Author.Tests.{eq-eqb, ne_eqb}
use Rattle.answer.specs.Answer.{Answer, got, refused, guard, bind, pick}
use Rattle.answer.proofs.Logic.{by_le}
use Rattle.codec.specs.Octets.{Taken, taken}
use Rattle.codec.specs.Element.{exactly}
use Rattle.std.specs.Prelude.{Result, Ok, Err, IfOk}
use Rattle.answer.specs.Answer.{answer_of}
use Rattle.answer.specs.declared.Refusal.{Refusal}
use Rattle.answer.specs.declared.Refused.{Refused}
use Rattle.contents.specs.Taken.{exactly_taken}
use Rattle.contents.specs.declared.taken.Taken as code

module _ {A : Type 0} (rd : ℕ → List ℕ → Answer (Taken A)) (p : ℕ) where
  pub exactly_no : (bs : List ℕ) (k q : ℕ) → rd p bs ≡ refused k q → exactly 9 rd p bs ≡ refused k q
  unfolding exactly bind
  exactly_no bs k q e = rw e refl

  module _ (s : List ℕ) (end : ℕ) (a : A) (x : ℕ) (e : rd p (slice p end s) ≡ got (taken a x (slice x end s))) where
    pub exactly_extra : end ≤ length s → x < end → exactly 9 rd p (slice p end s) ≡ refused 9 x
    unfolding exactly bind guard
    exactly_extra fit h = rw (e, ne_eqb (length (slice x end s)) 0 (λ z. omega (arith, length-slice x end s fit))) refl

    pub exactly-is : x ≡ end → exactly 9 rd p (slice p end s) ≡ got a
    unfolding exactly bind guard
    exactly-is h = let z : slice x end s ≡ [] = rw h (slice_empty end s) in rw (e, z) refl

module _ {A : Type 0} (rd : ℕ → List ℕ → Answer (Taken A)) (s : List ℕ) (at end : ℕ) (fit : end ≤ length s) where
  pub exact_no : (k p : ℕ) → rd at (slice at end s) ≡ refused k p → exactly 9 rd at (slice at end s) ≡ refused k p
  exact_no k p e = exactly_no rd at (slice at end s) k p e

  pub exact_extra : (a : A) (x : ℕ) → rd at (slice at end s) ≡ got (taken a x (slice x end s)) → x < end → exactly 9 rd at (slice at end s) ≡ refused 9 x
  exact_extra a x e h = exactly_extra rd at s end a x e fit h

  pub exact_whole : (a : A) (x : ℕ) → rd at (slice at end s) ≡ got (taken a x (slice x end s)) → x ≡ end → exactly 9 rd at (slice at end s) ≡ got a
  exact_whole a x e h = exactly-is rd at s end a x e h

  -- the element is all, or something follows it
  pub exact_is : (a : A) (x : ℕ) → rd at (slice at end s) ≡ got (taken a x (slice x end s)) → x ≤ end → pick (eqb x end) (got a) (refused 9 x) ≡ exactly 9 rd at (slice at end s)
  unfolding pick
  exact_is a x e h =
      by_le end x
      (λ l. let q : x ≡ end = omega arith in rw (eq-eqb x end q) (sym (exact_whole a x e q)))
      (λ l. rw (ne_eqb x end (omega arith)) (sym (exact_extra a x e l)))

-- ---- as the code has it: what was taken, and then whether it is all

abbrev picked : {V : Type 0} → Bool → V → ℕ → Result V Refused
picked b v x = pick b (Ok v) (Err (record { 0 = Refusal.WrongElement; 1 = x }))

module _ {V A : Type 0} (f : V → A) (rd : ℕ → List ℕ → Answer (Taken A)) (s : List ℕ) (at end : ℕ) (fit : end ≤ length s) where
  seen : (b : Bool) (v : V) (x : ℕ) → answer_of f (picked b v x) ≡ pick b (got (f v)) (refused 9 x)
  unfolding pick
  seen true v x = refl
  seen false v x = refl

  pub exactly_no_taken : (k p : ℕ) → refused k p ≡ rd at (slice at end s) → refused k p ≡ exactly 9 rd at (slice at end s)
  exactly_no_taken k p e = sym (exact_no rd s at end fit k p (sym e))

  pub exactly_as : (w : code.Taken V) (r : Result V Refused) → got (taken (f w.val) w.next (slice w.next end s)) ≡ rd at (slice at end s) → w.next ≤ end → r ≡ exactly_taken w end
      → answer_of f r ≡ exactly 9 rd at (slice at end s)
  exactly_as w r e h q = rw q (seen (eqb w.next end) w.val w.next ∙ exact_is rd s at end fit (f w.val) w.next (sym e) h)

pub exactly_kept : {V : Type 0} (P : V → Type 0) (w : code.Taken V) (end : ℕ) (r : Result V Refused) → P w.val → r ≡ exactly_taken w end → IfOk r P
unfolding pick
exactly_kept P w end r i q = rw q (kept (eqb w.next end))
  where
    kept : (b : Bool) → IfOk (picked b w.val w.next) P
    kept true = i
    kept false = tt
