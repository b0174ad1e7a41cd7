-- What the set's answers say in the definitions' terms.
use Rattle.std.specs.Prelude.{◌≡◌, List, [], ◌∷◌, ℕ, Option, Result, IfSome, replicate}
use Rattle.std.proofs.Math.Seq.{slice}
use Rattle.answer.specs.Answer.{Answer, got, answer_of}
use Rattle.answer.specs.declared.Refused.{Refused}
use Rattle.codec.specs.Octets as codec
use Rattle.codec.specs.Element.{chain, exactly}
use Rattle.schema.specs.Content.{after_member}
use Rattle.schema.specs.Decode.{read_member, read_set}
use Rattle.records.specs.Content.{members_of}
use Rattle.records.specs.declared.NumberSet.{NumberSet}
use Rattle.contents.specs.Taken.{of_taken}
use Rattle.contents.specs.declared.taken.Taken.{Taken}

unfoldable pub members_from : ℕ → List ℕ → Answer (List ℕ)
members_from p bs = chain read_member after_member (0, 0) p bs

abbrev pub of_members : Result NumberSet Refused → Answer (List ℕ)
of_members = answer_of members_of

abbrev pub of_set : List ℕ → ℕ → Result (Taken NumberSet) Refused → Answer (codec.Taken (List ℕ))
of_set = of_taken members_of

-- a set of one number below 128, in the five octets from `at` to end; of none nothing is said, and the long way follows
abbrev pub OneMember : List ℕ → ℕ → ℕ → Option ℕ → Type 0
OneMember s at end r = IfSome r (λ n. got (n ∷ []) ≡ exactly 9 read_set at (slice at end s))

abbrev pub set_of_one : ℕ → NumberSet
set_of_one n = record { members = n ∷ replicate 15 0; count = 1 }
