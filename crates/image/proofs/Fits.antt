-- Words that are tested one by one, and what the tests say of a word. Assumes nothing.
use mathlib.Core.Path.{◌≡◌, refl, sym, ap, ◌∙◌}
use mathlib.Core.Bool.{Bool, true, false, not, ◌&&◌, and_assoc}
use mathlib.Core.List.{List}
use mathlib.Core.Logic.{◌↔◌}
use Prim.Native.Nat.{ℕ, ◌-◌, ◌<◌, ◌≤◌, min}
use native.Mathlib.Omega.{arith}
use lib.Dec.{eqb, leb, leb→le}
use lib.ListN.{length, get_or, take, drop, length-drop}
use lib.Seq.{take_all, length-take-le, get_or-take}
use borrow.Author.Tests.{le-leb, lt-ltb, le-ltb, eq-eqb, ne_eqb}
use Rattle.answer.specs.Answer.{pick}
use Rattle.answer.proofs.Logic.{by_le}
use Rattle.schema.specs.Table.{top32, rows, index_of}
use Rattle.image.specs.Image.{set_fits, root_fits, list_fits, words_fit, at_most_at, flag_at, narrow_at, slots_below}
use Rattle.records.specs.Rows.{all_below}
use Rattle.records.proofs.Rowwise.{all_at, all_agree}
use Rattle.records.proofs.ContentShaped.{all_of}

-- a test of each is the test of all
pub each_at_most : (w : List ℕ) (top n : ℕ) (b : Bool) → (b ≡ true) ↔ ((k : ℕ) → k < n → get_or w k 0 ≤ top) → b ≡ all_below (at_most_at top w) n
each_at_most w top n true e = sym (all_of (at_most_at top w) n (λ k h. le-leb (get_or w k 0) top (e.0 refl k h)))
each_at_most w top n false e = go (all_below (at_most_at top w) n) refl
  where
    go : (b : Bool) → all_below (at_most_at top w) n ≡ b → false ≡ b
    go true p = e.1 (λ k h. leb→le (get_or w k 0) top (rw (all_at (at_most_at top w) n k h p) tt))
    go false p = refl

-- the first n words stand in a part as in the whole
pub front_at_most : (w : List ℕ) (top n : ℕ) → n ≤ length w → all_below (at_most_at top (take n w)) (length (take n w)) ≡ all_below (at_most_at top w) n
front_at_most w top n h =
    rw (length-take-le n w h)
    (all_agree (at_most_at top (take n w)) (at_most_at top w) n (λ k q. ap (λ (x : ℕ). leb x top) (get_or-take n w k 0 q)))

-- what the test of a word says of it
pub at_most : (w : List ℕ) (k top : ℕ) → leb (get_or w k 0) top ≡ true → get_or w k 0 ≤ top
at_most w k top e = leb→le (get_or w k 0) top (rw e tt)

pub all_at_most : (w : List ℕ) (n k top : ℕ) → k < n → all_below (λ i. leb (get_or w i 0) top) n ≡ true → get_or w k 0 ≤ top
all_at_most w n k top h e = at_most w k top (all_at (λ i. leb (get_or w i 0) top) n k h e)

-- ---- the part of a slice from a word on

pub from-drop : {A : Type 0} (f : List ℕ → A) (w : List ℕ) (k : ℕ) {x : A} → x ≡ f (take (length w - k) (drop k w)) → x ≡ f (drop k w)
from-drop f w k e = e ∙ ap f (take_all (length w - k) (drop k w) (omega (arith, length-drop k w)))

-- ---- the tests in the code's order

-- a test is made where those before it, x, passed; y is what it gives and v what is known then
pub next_true : {x y a b v : Bool} → x ≡ a → x ≡ true → v ≡ y → y ≡ b → v ≡ a && b
next_true e t q f = q ∙ (f ∙ rw (← e, t) refl)

pub next_false : {x a v : Bool} (b : Bool) → x ≡ a → x ≡ false → v ≡ x → v ≡ a && b
next_false b e t q = q ∙ rw (← e, t) refl

-- as many slots as the code looks at
slots_min : (n : ℕ) → min n 16 ≡ slots_below n
unfolding pick
slots_min n = by_le 16 n (λ h. rw (le-ltb n 16 h) (omega arith)) (λ h. rw (lt-ltb n 16 h) (omega arith))

module _ (flag : ℕ) (w : List ℕ) where
  -- a field that is absent
  module _ (h : flag ≡ 1 → ⊥) where
    pub set-absent : not (eqb flag 1) ≡ set_fits flag w
    unfolding set_fits pick
    set-absent = rw (ne_eqb flag 1 h) refl

    pub root-absent : not (eqb flag 1) ≡ root_fits flag w
    unfolding root_fits pick
    root-absent = rw (ne_eqb flag 1 h) refl

  -- one that is there
  module _ (f : flag ≡ 1) where
    pub set-there : 17 ≤ length w → {m : ℕ} → m ≡ min (get_or w 16 0) 16 → {b : Bool} → b ≡ all_below (at_most_at top32 (take m w)) (length (take m w)) → b ≡ set_fits flag w
    unfolding set_fits pick
    set-there h {m} s e =
        let n : m ≤ length w = omega (arith, s) in
        rw (eq-eqb flag 1 f) (e ∙ (front_at_most w top32 m n ∙ ap (all_below (narrow_at w)) (s ∙ slots_min (get_or w 16 0))))

    pub root-there : flag_at w 2 && narrow_at w 3 && flag_at w 4 ≡ root_fits flag w
    unfolding root_fits pick
    root-there = rw (eq-eqb flag 1 f) (and_assoc (flag_at w 2) (narrow_at w 3) (flag_at w 4))

-- the flags of 1, 5, 6, 203 and 704 are those of rows 0, 3, 4, 7 and 26
pub list_tests : (w : List ℕ)
    → list_fits w
    ≡ (all_below (flag_at w) 42
    && (set_fits (get_or w 0 0) (drop 126 w)
    && (set_fits (get_or w 3 0) (drop 143 w)
    && (set_fits (get_or w 4 0) (drop 160 w)
    && (set_fits (get_or w 7 0) (drop 177 w)
    && root_fits (get_or w 26 0) (drop 194 w))))))
unfolding list_fits rows index_of pick
list_tests w = refl

-- what is known after the first test and after each set's
module _ (w : List ℕ) where
  abbrev pub flags-fit : Bool
  flags-fit = all_below (flag_at w) 42

  abbrev pub purpose-fits : Bool
  purpose-fits = flags-fit && set_fits (get_or w 0 0) (drop 126 w)

  abbrev pub digest-fits : Bool
  digest-fits = purpose-fits && set_fits (get_or w 3 0) (drop 143 w)

  abbrev pub padding-fits : Bool
  padding-fits = digest-fits && set_fits (get_or w 4 0) (drop 160 w)

  abbrev pub mgf-fits : Bool
  mgf-fits = padding-fits && set_fits (get_or w 7 0) (drop 177 w)

  pub list_whole : mgf-fits && root_fits (get_or w 26 0) (drop 194 w) ≡ list_fits w
  list_whole = simp and_assoc (sym (list_tests w))

  pub words_whole : all_below (narrow_at w) 4 && list_fits (drop 8 w) && list_fits (drop 209 w) ≡ words_fit w
  unfolding words_fit
  words_whole = and_assoc (all_below (narrow_at w) 4) (list_fits (drop 8 w)) (list_fits (drop 209 w))
