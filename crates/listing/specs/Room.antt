-- How much room a listing takes at most, by the length n of the bytes that its octet parts lie in, and what listing
-- into an output answers.
use Rattle.std.specs.Prelude.{List, ℕ, zero, suc, ◌+◌, ◌*◌, length, leb, Result}
use Rattle.answer.specs.declared.Refused.{Refused}
use Rattle.answer.specs.Answer.{Answer, got, guard, answer_of}
use Rattle.answer.specs.Refusal.{output_short}
use Rattle.schema.specs.Table.{Kind, set, number32, number64, null, octets, root, row_at}
use Rattle.schema.specs.Content.{Field, field}
use Rattle.records.specs.declared.FieldList.{FieldList}
use Rattle.records.specs.Content.{octets_at, value_at}

-- how many octets of text a value has for each of the n bytes: two digits an octet, and 704 has two octet parts
abbrev pub parts : Kind → ℕ
parts set = 0
parts number32 = 0
parts number64 = 0
parts null = 0
parts octets = 2
parts root = 4

-- the field of a row, were it present
abbrev pub field_of : FieldList → List ℕ → ℕ → Field
field_of l s k = field (row_at k).number (value_at l (octets_at s) (row_at k).number (row_at k).kind k)

-- at most 384 octets of a row's line are not digits of octets
abbrev pub line_room : ℕ → ℕ → ℕ
line_room n k = 384 + parts (row_at k).kind * n

-- the lines of the rows before the k-th
abbrev pub lines_room : ℕ → ℕ → ℕ
lines_room n zero = 0
lines_room n (suc k) = lines_room n k + line_room n k

-- what an output must have for any record over n bytes: 480 KiB where they are 8,192
abbrev pub needed : ℕ → ℕ
needed n = 32768 + 56 * n

-- the same for a refusal
abbrev pub refusal_needed : ℕ
refusal_needed = 64

-- the code's answer in these terms: how long the text is
abbrev pub of_listed : Result ℕ Refused → Answer ℕ
of_listed r = answer_of (λ n. n) r

-- how long the text is, where the output has the room that is asked of it; a short output is document 01's 21, "output
-- shorter", place 0
unfoldable pub listed : ℕ → List ℕ → List ℕ → Answer ℕ
listed room out text = guard (leb room (length out)) output_short 0 (got (length text))
