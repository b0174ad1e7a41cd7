-- What listing an extension's bytes into an output answers and leaves (document 01, "One extension, whole"), and what is
-- proved of it: ListedWhole. proofs/Said.antt has the theorem, listed-whole.
use Rattle.std.specs.Prelude.{◌≡◌, List, ℕ, ◌≤◌, length}
use Rattle.answer.specs.Answer.{Answer, got, refused}
use Rattle.codec.specs.Octets.{left}
use Rattle.schema.specs.Content.{Content}
use Rattle.schema.specs.Decode.{read}
use Rattle.listing.specs.Room.{needed, refusal_needed, listed}
use Rattle.listing.specs.Text.{listing}

-- the room that listing an answer over n bytes asks for
abbrev pub room : Answer (Content × ℕ) → ℕ → ℕ
room (got c) n = needed n
room (refused number place) n = refusal_needed

-- listing an answer over n bytes into out
abbrev pub listed_as : Answer (Content × ℕ) → ℕ → List ℕ → Answer ℕ
listed_as a n out = listed (room a n) out (listing a)

-- what that leaves of out
abbrev pub left_as : Answer (Content × ℕ) → ℕ → List ℕ → List ℕ
left_as a n out = left (listed_as a n out) out 0 (listing a)

-- listing the bytes s into out
abbrev pub extension_listed : List ℕ → List ℕ → Answer ℕ
extension_listed s out = listed_as (read s) (length s) out

abbrev pub extension_left : List ℕ → List ℕ → List ℕ
extension_left s out = left_as (read s) (length s) out

-- 491,520 octets are enough for any bytes: their listing is written whole
abbrev pub ListedWhole : Type 0
ListedWhole = (s out : List ℕ) → 491520 ≤ length out → extension_listed s out ≡ got (length (listing (read s)))
