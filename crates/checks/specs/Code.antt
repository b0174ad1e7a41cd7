-- What the code's tags stand for: none where the code has none, and of a set its members.
use Rattle.std.specs.Prelude.{Bool, true, false, List, ℕ, eqb}
use Rattle.std.specs.Prelude.{Some, None}
use Rattle.std.specs.Prelude as code
use Rattle.std.proofs.Math.Option.{Option, none, some}
use Rattle.answer.specs.Answer.{pick}
use Rattle.records.specs.Content.{members_of}
use Rattle.records.specs.declared.NumberSet.{NumberSet}

-- a value that is there or not
unfoldable pub given : {A : Type 0} → Bool → A → Option A
given true a = some a
given false a = none

-- a tag of one list, its value seen as f sees it
abbrev pub seen : {T A : Type 0} → (T → A) → code.Option T → Option A
seen f None = none
seen f (Some x) = some (f x)

abbrev pub of_tag : {T : Type 0} → code.Option T → Option T
of_tag t = seen (λ x. x) t

abbrev pub of_number_tag : code.Option ℕ → Option ℕ
of_number_tag t = of_tag t

-- of a set the members count
abbrev pub of_set_tag : code.Option NumberSet → Option (List ℕ)
of_set_tag t = seen members_of t

-- the algorithm that the lists agree on, as `agreed` with none for 0
unfoldable pub agreed_on : Option ℕ → Option ℕ → Option ℕ
agreed_on none none = none
agreed_on none (some b) = some b
agreed_on (some a) none = some a
agreed_on (some a) (some b) = pick (eqb a b) (some a) none

-- a number that may be absent, with 0 for none
unfoldable pub or_zero : Option ℕ → ℕ
or_zero none = 0
or_zero (some n) = n
