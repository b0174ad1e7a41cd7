-- Octets at a place: what readers take from and what writers leave. A reader has a place and the octets from there to
-- its holder's end, and gives a value, the next place and the rest.
use Rattle.std.specs.Prelude.{List, [], ◌∷◌, ◌++◌, ℕ, ◌+◌, ◌<◌, length, take, drop}
use Rattle.answer.specs.Answer.{Answer, got, refused}
use Rattle.answer.specs.Refusal.{runs_out}

-- each number is an octet
abbrev pub Octets : List ℕ → Type 0
Octets [] = Unit {0}
Octets (x ∷ xs) = (x < 256) × Octets xs

-- what was read from the front, the place after it and what is left
pub record Taken (A : Type 0) : Type 0 where
  pub val : A
  pub next : ℕ
  pub rest : List ℕ

abbrev pub taken : {A : Type 0} → A → ℕ → List ℕ → Taken A
taken a p r = record { val = a; next = p; rest = r }

-- the same, its value taken through f
abbrev pub map_taken : {A B : Type 0} → (A → B) → Taken A → Taken B
map_taken f w = taken (f w.val) w.next w.rest

-- octets are taken one at a time: the next one, the place after it and the rest; where none is left, refusal 2 there
unfoldable pub octet : {A : Type 0} → ℕ → List ℕ → (ℕ → ℕ → List ℕ → Answer A) → Answer A
octet p [] k = refused runs_out p
octet p (x ∷ r) k = k x (p + 1) r

-- old with xs in the place of what stood from p on
unfoldable pub splice : List ℕ → ℕ → List ℕ → List ℕ
splice old p xs = take p old ++ (xs ++ drop (p + length xs) old)

-- what a write of xs at p leaves: xs spliced in where it answers a value, and not one octet changed where it refuses
abbrev pub left : {A : Type 0} → Answer A → List ℕ → ℕ → List ℕ → List ℕ
left (got a) old p xs = splice old p xs
left (refused number place) old p xs = old
