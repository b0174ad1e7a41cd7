-- What putting text at a place of an output leaves: its octets stored one after the other, none of them past the end.
use Rattle.std.specs.Prelude.{◌≡◌, List, [], ◌∷◌, ℕ, ◌+◌, ◌≤◌, length, set, ltb}
use Rattle.answer.specs.Answer.{pick}
use Rattle.listing.specs.declared.Text.{Text}

-- an output, and the place in it where the next octet goes
pub record Output : Type 0 where
  pub octets : List ℕ
  pub place : ℕ

abbrev pub output : List ℕ → ℕ → Output
output xs p = record { octets = xs; place = p }

-- one octet; past the end nothing is stored, and the place stays
unfoldable pub put : Output → ℕ → Output
put o b = pick (ltb o.place (length o.octets)) (output (set o.octets o.place b) (o.place + 1)) o

-- octets one after the other
unfoldable pub puts : Output → List ℕ → Output
puts o [] = o
puts o (b ∷ bs) = puts (put o b) bs

-- the text, of at most `most` octets, was put at the place of old, and left new; both are the same lent output
pub record Puts (old : Text) (text : List ℕ) (most : ℕ) (new : Text) : Type 0 where
  pub same : new.out.ghost_name ≡ old.out.ghost_name
  pub is : output new.out.now new.at ≡ puts (output old.out.now old.at) text
  pub few : length text ≤ most
