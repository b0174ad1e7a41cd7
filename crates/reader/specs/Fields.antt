-- What the field list's answers say in the definitions' terms.
use Rattle.std.specs.Prelude.{◌≡◌, List, ℕ, ◌<◌, ◌≤◌, Result, Ok, Err}
use Rattle.std.proofs.Math.Seq.{slice}
use Rattle.answer.specs.Answer.{got, refused, bind}
use Rattle.answer.specs.Refusal.{number_of}
use Rattle.answer.specs.declared.Refused.{Refused}
use Rattle.codec.specs.Octets.{taken}
use Rattle.schema.specs.Table.{row_at, row_count}
use Rattle.schema.specs.Content.{field}
use Rattle.schema.specs.Decode.{read_value, read_field, as_place}
use Rattle.reader.specs.declared.field.FieldHead.{FieldHead}

-- a field that the version holds, in order: reading it is reading its content by the kind of its row
pub record FieldAt (s : List ℕ) (at end v low row n b x : ℕ) : Type 0 where
  pub in_table : row < row_count
  pub is_row : (row_at row).number ≡ n
  pub above : low ≤ n
  pub body : at < b
  pub stop : b ≤ x
  pub inside : x ≤ end
  pub reads : read_field as_place v low at (slice at end s) ≡ bind (read_value as_place v (row_at row).kind at b (slice b x s)) (λ y. got (taken (field n y) x (slice x end s)))

abbrev pub FieldOpened : List ℕ → ℕ → ℕ → ℕ → ℕ → Result FieldHead Refused → Type 0
FieldOpened s at end v low (Ok f) = FieldAt s at end v low f.row f.number f.body f.stop
FieldOpened s at end v low (Err r) = read_field as_place v low at (slice at end s) ≡ refused (number_of r.0) r.1
