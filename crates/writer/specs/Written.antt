-- Document 01, "Numbers of the reader and writer": "Writer: 20, 22, 21; a refusal leaves the output untouched, success
-- changes exactly the encoding's bytes at its front".
use Rattle.std.specs.Prelude.{◌≡◌, Bool, ◌&&◌, List, ℕ, length, leb, Result}
use Rattle.answer.specs.declared.Refused.{Refused}
use Rattle.answer.specs.Answer.{Answer, got, guard, answer_of}
use Rattle.answer.specs.Refusal.{ill_shaped, encoding_too_long, output_short}
use Rattle.codec.specs.Limits.{extension_bytes}
use Rattle.codec.specs.Octets.{left}
use Rattle.schema.specs.Content.{encode}
use Rattle.records.specs.Content.{content_of}
use Rattle.records.specs.Shape.{well_shaped_record}
use Rattle.records.specs.Parts.{parts_inside}
use Rattle.records.specs.declared.Record.{Record}

-- "A well-shaped record's encoding is the DER of this section's SEQUENCE with its values and its present fields"
abbrev pub encoding_of : Record → List ℕ → List ℕ
encoding_of r s = encode (content_of r s)

-- "20 record not well-shaped, or an octet part outside its buffer", s being the buffer
abbrev pub writable : Record → List ℕ → Bool
writable r s = well_shaped_record r && parts_inside r (length s)

-- the encoding's length, or the first refusal of 20, 22, 21
unfoldable pub written : Record → List ℕ → List ℕ → Answer ℕ
written r s out =
    guard (writable r s) ill_shaped 0
    (guard (leb (length (encoding_of r s)) extension_bytes) encoding_too_long 0
    (guard (leb (length (encoding_of r s)) (length out)) output_short 0
    (got (length (encoding_of r s)))))

-- what it leaves in the output
abbrev pub left_by : Record → List ℕ → List ℕ → List ℕ
left_by r s out = left (written r s out) out 0 (encoding_of r s)

-- the code's answer in these terms
abbrev pub of_written : Result ℕ Refused → Answer ℕ
of_written = answer_of (λ n. n)

-- all that the contract of `write` says, its answer seen by `of_written`: writing the record r, its parts in s, answers w and
-- leaves after where the output was out
pub record Writes (r : Record) (s out : List ℕ) (w : Answer ℕ) (after : List ℕ) : Type 0 where
  pub answer : w ≡ written r s out
  pub output : after ≡ left_by r s out
