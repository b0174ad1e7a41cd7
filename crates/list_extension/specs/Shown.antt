-- What the program shows of the bytes that it read: their listing, whole (document 01, "One extension, whole").
use Rattle.std.specs.Prelude.{List, ℕ}
use Rattle.schema.specs.Decode.{read}
use Rattle.listing.specs.Text.{listing}

abbrev pub shown : List ℕ → List ℕ
shown s = listing (read s)
