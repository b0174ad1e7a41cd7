-- What refusals say, in the order of their numbers: a number beside its sentence, and which of them is given.
use Rattle.std.specs.Prelude.{◌≡◌, ◌⊎◌, List, [], ◌∷◌, ℕ, ◌<◌}

-- n is among the numbers, and what it says holds
abbrev pub Says : List (ℕ × Type 0) → ℕ → Type 0
Says [] n = ⊥
Says (x ∷ xs) n = ((n ≡ x.0) × x.1) ⊎ Says xs n

-- "in order", "the first that holds": what n says holds, and what no smaller number says does
abbrev pub SaysFirst : List (ℕ × Type 0) → ℕ → Type 0
SaysFirst xs n = Says xs n × ((m : ℕ) → m < n → Says xs m → ⊥)
