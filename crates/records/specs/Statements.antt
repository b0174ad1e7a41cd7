-- What is proved of records. Read EqualContents and MadeSays first. proofs/Stated.antt has the theorem of the same name.
use Rattle.std.specs.Prelude.{◌↔◌, ◌≡◌, List, ℕ, ◌+◌, ◌≤◌, T}
use Rattle.answer.specs.Answer.{got}
use Rattle.codec.specs.Octets.{Octets}
use Rattle.schema.specs.Content.{Places, well_shaped}
use Rattle.schema.specs.Parts.{EachPart}
use Rattle.schema.specs.Decode.{read, read_places}
use Rattle.records.specs.Content.{content_of, places_of}
use Rattle.records.specs.Slots.{InSlots}
use Rattle.records.specs.Shape.{well_shaped_record}
use Rattle.records.specs.Parts.{parts_inside}
use Rattle.records.specs.Equal.{Equal}
use Rattle.records.specs.Made.{record_made}
use Rattle.records.specs.declared.Record.{Record}

-- "Two such records .. are equal exactly when ..": exactly when they say the same
abbrev pub EqualContents : Type 0
EqualContents = (r : Record) (s : List ℕ) (r' : Record) (s' : List ℕ) → Equal r s r' s' ↔ (content_of r s ≡ content_of r' s')

-- a well-shaped record says a well-shaped content, and only such a record does, where no set's count passes its slots
abbrev pub ShapedSays : Type 0
ShapedSays = (r : Record) → T (well_shaped_record r) → T (well_shaped (places_of r))

abbrev pub SaysShaped : Type 0
SaysShaped = (r : Record) → InSlots r.software → InSlots r.hardware → T (well_shaped (places_of r)) → T (well_shaped_record r)

-- a record of the places that were read says the content that was read
abbrev pub PlacesRead : Type 0
PlacesRead = (r : Record) (s : List ℕ) (k : ℕ) → Octets s → read_places s ≡ got (places_of r, k) → read s ≡ got (content_of r s, k)

-- the record that a well-shaped content's places make says just that content
abbrev pub MadeSays : Type 0
MadeSays = (c : Places) → T (well_shaped c) → places_of (record_made c) ≡ c

-- places that lie in n octets are parts inside them
abbrev pub PartsLie : Type 0
PartsLie = (n : ℕ) (r : Record) → EachPart (λ p. p.start + p.len ≤ n) (places_of r) → T (parts_inside r n)
