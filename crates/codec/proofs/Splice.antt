-- One write after another is one write; a write of one octet is a store. Assumes nothing.
use mathlib.Core.Path.{◌≡◌}
use mathlib.Core.List.{List, [], ◌∷◌, ◌++◌, append_assoc}
use Prim.Native.Nat.{ℕ, suc, ◌+◌, ◌<◌, ◌≤◌}
use native.Mathlib.Omega.{arith}
use native.Mathlib.Numerals.{add-one}
use native.Mathlib.Nat.{add-zero, add-suc, suc-add, add_assoc}
use lib.ListN.{length, get_or, take, drop, set, length-append, length-drop, take-append-drop}
use lib.Seq.{sets, sets-eq, take-suc, set_at, set_split, take_at, drop_at, drop-drop, length-take-le}
use Rattle.codec.specs.Octets.{splice}

pub splice-nothing : (old : List ℕ) (p : ℕ) → splice old p [] ≡ old
unfolding splice
splice-nothing old p = rw (add-zero, take-append-drop)

pub splice_one : (old : List ℕ) (p b : ℕ) → p < length old → splice old p (b ∷ []) ≡ set old p b
unfolding splice
splice_one old p b h = rw (set_split old p b h, add-one)

front_length : (old : List ℕ) (p : ℕ) (xs : List ℕ) → p + length xs ≤ length old → length (take p old ++ xs) ≡ p + length xs
front_length old p xs h = let q : p ≤ length old = omega arith in rw (length-append, length-take-le p old q)

pub length-splice : (old : List ℕ) (p : ℕ) (xs : List ℕ) → p + length xs ≤ length old → length (splice old p xs) ≡ length old
unfolding splice
length-splice old p xs h =
    let q : p ≤ length old = omega arith in
    rw (length-append, length-append, length-take-le p old q, length-drop) (omega arith)

-- one write after the other is one write
pub splice-splice : (old : List ℕ) (p : ℕ) (xs ys : List ℕ) → p + length xs ≤ length old → splice (splice old p xs) (p + length xs) ys ≡ splice old p (xs ++ ys)
unfolding splice
splice-splice old p xs ys h =
    rw (
      ← append_assoc (take p old) xs (drop (p + length xs) old),
      take_at (take p old ++ xs) (drop (p + length xs) old) (p + length xs) (front_length old p xs h),
      ← drop-drop (length ys) (p + length xs) ((take p old ++ xs) ++ drop (p + length xs) old),
      drop_at (take p old ++ xs) (drop (p + length xs) old) (p + length xs) (front_length old p xs h),
      drop-drop,
      length-append,
      ← add_assoc p (length xs) (length ys),
    )
    (simp append_assoc)

-- an octet stored in front of a write is one longer write
pub splice_before : (old : List ℕ) (p : ℕ) (bs : List ℕ) (b : ℕ) → suc p + length bs ≤ length old → set (splice old (suc p) bs) p b ≡ splice old p (b ∷ bs)
unfolding splice
splice_before old p bs b h =
    let h1 : p < length old = omega arith in
    let h2 : p ≤ length old = omega arith in
    rw (
      take-suc old p 0 h1,
      append_assoc (take p old) (get_or old p 0 ∷ []) (bs ++ drop (suc p + length bs) old),
      set_at (take p old) (get_or old p 0) (bs ++ drop (suc p + length bs) old) b p (length-take-le p old h2),
      add-suc,
      suc-add,
    )

-- stores one after the other are one write
pub splice_stores : (old : List ℕ) (p : ℕ) (xs : List ℕ) → p + length xs ≤ length old → sets old p xs ≡ splice old p xs
unfolding splice
splice_stores old p xs h = rw (sets-eq xs old p h) (simp append_assoc)
