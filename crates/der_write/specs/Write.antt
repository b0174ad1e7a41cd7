-- What the writer's leaves answer and leave.
use Rattle.std.specs.Prelude.{List, ℕ, ◌+◌, length, leb, Result}
use Rattle.answer.specs.declared.Refused.{Refused}
use Rattle.answer.specs.Answer.{Answer, got, guard, answer_of}
use Rattle.answer.specs.Refusal.{bad_identifier, bad_length, output_short}
use Rattle.codec.specs.Octets.{left}
use Rattle.codec.specs.Header.{Identifier, identifier_good, length_good, header_octets}

-- the place after what was put, or its refusal
abbrev pub of_put : Result ℕ Refused → Answer ℕ
of_put = answer_of (λ p. p)

-- the place after n octets at p; "output shorter" (21, place 0) where they do not fit
unfoldable pub room_after : List ℕ → ℕ → ℕ → Answer ℕ
room_after out p n = guard (leb (p + n) (length out)) output_short 0 (got (p + n))

-- the place after xs at p, likewise
unfoldable pub room_for : List ℕ → ℕ → List ℕ → Answer ℕ
room_for out p xs = room_after out p (length xs)

-- what a reader would refuse is not written: 3 or 4 at its place
unfoldable pub header_put : List ℕ → ℕ → Identifier → ℕ → Answer ℕ
header_put out p i n =
    guard (identifier_good i) bad_identifier p
    (guard (length_good n) bad_length p
    (room_for out p (header_octets i n)))

-- the header there, or nothing changed
abbrev pub header_left : List ℕ → ℕ → Identifier → ℕ → List ℕ
header_left out p i n = left (header_put out p i n) out p (header_octets i n)
