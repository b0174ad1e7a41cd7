-- What the reader and the writer, one after the other, answer (document 01, demand 3).
use Rattle.std.specs.Prelude.{◌≡◌, List, ℕ, length, take, leb, Result, Ok, Err}
use Rattle.answer.specs.Answer.{Answer, got, refused, guard, bind}
use Rattle.answer.specs.Refusal.{number_of, output_short}
use Rattle.answer.specs.declared.Refused.{Refused}
use Rattle.schema.specs.Decode.{read}
use Rattle.schema.specs.Count.{count_of}
use Rattle.records.specs.Content.{content_of}
use Rattle.records.specs.Equal.{Equal}
use Rattle.records.specs.Empty.{empty_record}
use Rattle.records.specs.declared.Record.{Record}
use Rattle.reader.specs.Reading.{Reads}
use Rattle.reader.specs.declared.Reading.{Reading}

-- write(read(s)) is s: the reader's refusal, or 21 where the output is shorter than s, or s written
unfoldable pub written_again : List ℕ → List ℕ → Answer ℕ
written_again s out = bind (read s) λ w. guard (leb (length s) (length out)) output_short 0 (got (length s))

-- read(write(r)) equals r: the writer's refusal with a record of nothing beside it; or all that a read of what was written
-- says, which is that it is accepted with the record's count and is equal to r
abbrev pub ReadAgain : Record → List ℕ → Answer ℕ → List ℕ → Answer ℕ → Record → Type 0
ReadAgain r s (got n) after o r' = Reads (take n after) o r' × (o ≡ got (count_of (content_of r s))) × Equal r s r' (take n after)
ReadAgain r s (refused number place) after o r' = (o ≡ refused number place) × (r' ≡ empty_record)

-- the same of the code's answer; a refusal says nothing
abbrev pub AnsweredAgain : Record → List ℕ → Answer ℕ → List ℕ → Result Reading Refused → Type 0
AnsweredAgain r s w after (Ok a) = ReadAgain r s w after (got a.elements) a.said
AnsweredAgain r s w after (Err e) = ReadAgain r s w after (refused (number_of e.0) e.1) empty_record
