-- Document 01, of a record: "Its octet parts are the challenge, the uniqueId and those of present fields". What each octet
-- part of a content is.
use Rattle.std.proofs.Math.Option.{Option, none, some}
use Rattle.std.specs.Prelude.{List, [], ◌∷◌}
use Rattle.codec.specs.Octets.{Octets}
use Rattle.schema.specs.Content.{ValueWith, num, nul, oct, nums, trust, FieldWith, ContentWith, Content}

module _ {O : Type 0} (Is : O → Type 0) where
  abbrev pub HashIs : Option O → Type 0
  HashIs none = Unit {0}
  HashIs (some o) = Is o

  abbrev pub ValueIs : ValueWith O → Type 0
  ValueIs (num n) = Unit {0}
  ValueIs nul = Unit {0}
  ValueIs (oct o) = Is o
  ValueIs (nums l) = Unit {0}
  ValueIs (trust r) = Is r.key × HashIs r.hash

  abbrev pub FieldsAre : List (FieldWith O) → Type 0
  FieldsAre [] = Unit {0}
  FieldsAre (f ∷ fs) = ValueIs f.value × FieldsAre fs

  abbrev pub EachPart : ContentWith O → Type 0
  EachPart c = Is c.challenge × Is c.unique × FieldsAre c.software × FieldsAre c.hardware

-- each part is octets
abbrev pub ContentOctets : Content → Type 0
ContentOctets c = EachPart Octets c
