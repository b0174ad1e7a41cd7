-- What is proved of images and records. Read RecordBack first, then NotLookedAt. Each is proved under its own name, in
-- proofs/RoundTrip.antt, Again.antt and Agree.antt.
use Rattle.std.specs.Prelude.{◌≡◌, List, ◌++◌, ℕ, take}
use Rattle.records.specs.declared.Record.{Record}
use Rattle.records.specs.Content.{places_of}
use Rattle.records.specs.Shape.{well_shaped_record}
use Rattle.records.specs.Parts.{parts_inside}
use Rattle.image.specs.Image.{image_of, record_of, words_fit}
use Rattle.image.specs.Whole.{WholeRecord}
use Rattle.image.specs.Agree.{Agree}

-- record, image, record: nothing of a record as the code has it is lost, whatever follows its words
abbrev pub RecordBack : Type 0
RecordBack = (r : Record) (rest : List ℕ) → WholeRecord r → record_of (image_of r ++ rest) ≡ r

-- image, record, image: not one word is lost, where they are those of a record
abbrev pub ImageAgain : Type 0
ImageAgain = (w : List ℕ) (r : Record) (rest : List ℕ) → WholeRecord r → w ≡ image_of r ++ rest → image_of (record_of w) ≡ take 410 w

-- all that is asked of an image's record
pub record SameAnswers (w w' : List ℕ) : Type 0 where
  pub fits : words_fit w ≡ words_fit w'
  pub shaped : well_shaped_record (record_of w) ≡ well_shaped_record (record_of w')
  pub inside : (len : ℕ) → parts_inside (record_of w) len ≡ parts_inside (record_of w') len
  pub says : places_of (record_of w) ≡ places_of (record_of w')

-- what is not looked at does not matter
abbrev pub NotLookedAt : Type 0
NotLookedAt = (w w' : List ℕ) → Agree w w' → SameAnswers w w'
