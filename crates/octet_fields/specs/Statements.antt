-- What is proved of asking for an octet field. proofs/OctetFields.antt has the theorem of the same name.
use Rattle.std.specs.Prelude.{◌↔◌, ◌≡◌, Bool, ℕ, ◌+◌, ◌<◌, ◌≤◌}
use Rattle.std.proofs.Math.Option.{none, some}
use Rattle.answer.specs.Answer.{got, refused}
use Rattle.answer.specs.Refusal.{ill_shaped}
use Rattle.schema.specs.Content.{oct, Place, place_at}
use Rattle.records.specs.Content.{fields_of}
use Rattle.records.specs.Fields.{field_value}
use Rattle.records.specs.declared.Record.{Record}
use Rattle.octet_fields.specs.Asked.{list_of, asked_octets}

-- what asking for an octet field answers
pub record AskedMeans (r : Record) (hardware : Bool) (number len : ℕ) : Type 0 where
  -- "handed back as the very part .. that holds it": where the list has octets under the number, just their place
  pub part : (a z : ℕ) → (asked_octets r hardware number len ≡ got (some (a, z))) ↔ (field_value (fields_of (list_of r hardware) place_at) number ≡ some (oct (place_at a z))) × (a + z ≤ len)
  -- "asking for an absent one, or for a number that is no octet field, says absent"
  pub absent : (asked_octets r hardware number len ≡ got none) ↔ ((p : Place) → field_value (fields_of (list_of r hardware) place_at) number ≡ some (oct p) → ⊥)
  -- "a part outside the lent bytes gives 20"
  pub outside : (asked_octets r hardware number len ≡ refused ill_shaped 0) ↔ ((p : Place) × (field_value (fields_of (list_of r hardware) place_at) number ≡ some (oct p)) × (len < p.start + p.len))

abbrev pub AskedExactly : Type 0
AskedExactly = (r : Record) (hardware : Bool) (number len : ℕ) → AskedMeans r hardware number len
