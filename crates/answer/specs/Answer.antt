-- What every reader, writer and ruling answers: a value, or a refusal with its number and place (document 01, "Numbers
-- of the reader and writer"). The order of refusals is the nesting of `guard` and `bind`, and nothing else.
use Rattle.std.specs.Prelude.{Bool, true, false, ℕ, Result, Ok, Err}
use Rattle.answer.specs.declared.Refused.{Refused}
use Rattle.answer.specs.Refusal.{number_of}

pub data Answer (A : Type 0) : Type 0 where
  got : A → Answer A
  refused : ℕ → ℕ → Answer A

-- go on where the test passes; else this refusal
unfoldable pub guard : {A : Type 0} → Bool → ℕ → ℕ → Answer A → Answer A
guard true number place next = next
guard false number place next = refused number place

-- one step, and then the next on its value
unfoldable pub bind : {A B : Type 0} → Answer A → (A → Answer B) → Answer B
bind (got a) next = next a
bind (refused number place) next = refused number place

-- the first where the test passes, else the second
unfoldable pub pick : {A : Type 0} → Bool → A → A → A
pick true a b = a
pick false a b = b

-- the same answer, its value taken through f
unfoldable pub map_answer : {A B : Type 0} → (A → B) → Answer A → Answer B
map_answer f (got a) = got (f a)
map_answer f (refused number place) = refused number place

-- what a function of the code answers: its value, seen as f sees it, or the number and the place of its refusal
abbrev pub answer_of : {T A : Type 0} → (T → A) → Result T Refused → Answer A
answer_of f (Ok a) = got (f a)
answer_of f (Err r) = refused (number_of r.0) r.1
