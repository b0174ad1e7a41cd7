-- What the contract of the reader's `read` says where it accepts; crates/round_trip shows that it and the writer's `Writes` are
-- said of the functions themselves.
use Rattle.std.specs.Prelude.{List, ℕ}
use Rattle.records.specs.declared.Record.{Record}
use Rattle.answer.specs.Answer.{got}
use Rattle.reader.specs.Reading.{Reads}

-- the bytes s are accepted, with the record r and n elements
abbrev pub ReadsAs : List ℕ → Record → ℕ → Type 0
ReadsAs s r n = Reads s (got n) r
