-- What is answered for an image: its words, where they are those of a record.
use Rattle.std.specs.Prelude.{Result, Ok, Err}
use Rattle.answer.specs.Answer.{Answer, got, refused}
use Rattle.answer.specs.Refusal.{number_of}
use Rattle.answer.specs.declared.Refusal.{Refusal}
use Rattle.records.specs.declared.Record.{Record}
use Rattle.image.specs.Image.{record_of}
use Rattle.image.specs.declared.words.Words.{Words}

-- the record that the words are of, or the refusal
abbrev pub of_words : Result Words Refusal → Answer Record
of_words (Ok w) = got (record_of w.words.now)
of_words (Err n) = refused (number_of n) 0
