-- What a tag of the code says, and what a test of the tags that are there finds; and membership. Assumes nothing.
use mathlib.Core.Path.{◌≡◌, refl}
use mathlib.Core.Bool.{Bool, true, false, ◌&&◌, ◌||◌}
use mathlib.Core.List.{List, [], ◌∷◌}
use Rattle.std.specs.List.{list_any}
use Prim.Native.Nat.{ℕ}
use lib.Dec.{eqb}
use borrow.Author.Tests.{le-ltb, lt-ltb, le-leb, lt-leb, eq-eqb, ne_eqb, not-true, not-false}
use Rattle.std.specs.Prelude.{Some, None, is_some, MatchOption, IsTrue}
use Rattle.std.specs.Prelude as code
use Rattle.records.specs.Content.{members_of}
use Rattle.records.specs.declared.NumberSet.{NumberSet}
use Rattle.checks.specs.Tags.{there, allows, both_allow, member, set_allows}
use Rattle.checks.specs.Code.{given, seen, of_tag, of_set_tag}

pub there-given : {A : Type 0} (b : Bool) (a : A) → there (given b a) ≡ b
unfolding there given
there-given true a = refl
there-given false a = refl

-- for checks that are tests of numbers alone
pub ruleset tests = (le-ltb, lt-ltb, le-leb, lt-leb, eq-eqb, ne_eqb)

-- a tag is there where the code has one
pub there-seen : {T A : Type 0} (f : T → A) (o : code.Option T) → there (seen f o) ≡ is_some o
unfolding there
there-seen f None = refl
there-seen f (Some x) = refl

-- for checks that ask just whether a tag is there
pub ruleset known = (there-seen)

-- ---- a tag of each list, where the code asks a test of those that are there

module _ {T : Type 0} (Gives : T → Bool → Type 0) (f : T → Bool) (m : (x : T) (b : Bool) → Gives x b → b ≡ f x) where
  one-allows : (o : code.Option T) (r : Bool) → MatchOption o (IsTrue r) (λ x. Gives x r) → r ≡ allows f (of_tag o)
  unfolding allows
  one-allows None r t = t
  one-allows (Some x) r t = m x r t

  pub both-allowed : (s h : code.Option T) (r k : Bool) → MatchOption s (IsTrue r) (λ x. Gives x r) → MatchOption h (IsTrue k) (λ x. Gives x k) → (r && k) ≡ both_allow f (of_tag s) (of_tag h)
  both-allowed s h r k p q = rw (one-allows s r p, one-allows h k q) refl

-- a test of what a tag stands for, as a test of the code's
allows-seen : {T A : Type 0} (v : T → A) (f : A → Bool) (o : code.Option T) → allows f (seen v o) ≡ allows (λ x. f (v x)) (of_tag o)
unfolding allows
allows-seen v f None = refl
allows-seen v f (Some x) = refl

-- ---- membership

pub member_found : (n : ℕ) (xs : List ℕ) → list_any (λ x. eqb x n) xs ≡ member n xs
unfolding member
member_found n [] = refl
member_found n (x ∷ xs) = rw (member_found n xs) refl

pub sets-allowed : (n : ℕ) (s h : code.Option NumberSet) (i j k : Bool) → i ≡ is_some s → j ≡ is_some h → k ≡ both_allow (λ g. member n (members_of g)) (of_tag s) (of_tag h)
    → ((i || j) && k) ≡ set_allows n (of_set_tag s) (of_set_tag h)
sets-allowed n s h i j k e f g =
    rw (there-seen members_of s, there-seen members_of h, allows-seen members_of (member n) s, allows-seen members_of (member n) h, e, f, g) refl
