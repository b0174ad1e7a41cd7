-- include/sculldrip.h: "an absent field's words are never looked at, nor are slots past a count". Which words are looked at:
-- two images agree where those are the same in both.
use Rattle.std.specs.Prelude.{◌≡◌, List, ℕ, ◌+◌, ◌<◌, ◌≤◌, length, get_or, drop, eqb}
use Rattle.answer.specs.Answer.{pick}
use Rattle.schema.specs.Table.{Kind, set, number32, number64, null, octets, root, row_at}

-- word k is the same in both
abbrev pub Same : List ℕ → List ℕ → ℕ → Type 0
Same w w' k = get_or w k 0 ≡ get_or w' k 0

-- of a set, its count and the slots below it
pub record SameSet (w w' : List ℕ) : Type 0 where
  pub count : Same w w' 16
  pub members : (i : ℕ) → i < 16 → i < get_or w 16 0 → Same w w' i

-- of a root of trust, all but a boot hash that is not there
pub record SameRoot (w w' : List ℕ) : Type 0 where
  pub words : (i : ℕ) → i < 5 → Same w w' i
  pub hash : get_or w 4 0 ≡ 1 → Same w w' 5 × Same w w' 6

-- the first word of the set of this field number, in a list
abbrev pub set_place : ℕ → ℕ
set_place n = pick (eqb n 1) 126 (pick (eqb n 5) 143 (pick (eqb n 6) 160 177))

-- of a field that is there, of this kind and number, in row k
abbrev pub SameValue : Kind → List ℕ → List ℕ → ℕ → ℕ → Type 0
SameValue number32 w w' n k = Same w w' (42 + k)
SameValue number64 w w' n k = Same w w' (42 + k)
SameValue null w w' n k = Unit {0}
SameValue octets w w' n k = Same w w' (42 + k) × Same w w' (84 + k)
SameValue set w w' n k = SameSet (drop (set_place n) w) (drop (set_place n) w')
SameValue root w w' n k = SameRoot (drop 194 w) (drop 194 w')

-- of row k, whether its field is there, and then its words
pub record SameRowWords (w w' : List ℕ) (k : ℕ) : Type 0 where
  pub flag : Same w w' k
  pub value : get_or w k 0 ≡ 1 → SameValue (row_at k).kind w w' (row_at k).number k

-- of two whole images, versions, levels, challenge and uniqueId, and the rows of both lists
pub record Agree (w w' : List ℕ) : Type 0 where
  pub long : 410 ≤ length w
  pub long' : 410 ≤ length w'
  pub head : (k : ℕ) → k < 8 → Same w w' k
  pub software : (k : ℕ) → k < 42 → SameRowWords (drop 8 w) (drop 8 w') k
  pub hardware : (k : ℕ) → k < 42 → SameRowWords (drop 209 w) (drop 209 w') k
