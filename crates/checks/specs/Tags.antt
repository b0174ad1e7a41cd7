-- Document 01, "The use ruling": a tag of the software list s and of the hardware list h. What is absent says nothing, and of a
-- set only its members count.
use Rattle.std.specs.Prelude.{Bool, true, false, ◌&&◌, ◌||◌, List, [], ◌∷◌, ℕ, eqb}
use Rattle.std.proofs.Math.Option.{Option, none, some}

-- a tag is there, in one list
unfoldable pub there : {A : Type 0} → Option A → Bool
there none = false
there (some a) = true

-- ---- "A tag in either list applies; in both, both must allow. A set tag must be in at least one list."

-- one list's tag allows: an absent one does
unfoldable pub allows : {A : Type 0} → (A → Bool) → Option A → Bool
allows f none = true
allows f (some a) = f a

abbrev pub either : {A : Type 0} → Option A → Option A → Bool
either s h = there s || there h

-- the tag of each list that has it allows
abbrev pub both_allow : {A : Type 0} → (A → Bool) → Option A → Option A → Bool
both_allow f s h = allows f s && allows f h

unfoldable pub member : ℕ → List ℕ → Bool
member n [] = false
member n (x ∷ xs) = eqb x n || member n xs

-- a set tag: in at least one list, and n in each that has it
abbrev pub set_allows : ℕ → Option (List ℕ) → Option (List ℕ) → Bool
set_allows n s h = either s h && both_allow (member n) s h
