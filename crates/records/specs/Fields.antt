-- What a list of fields says of a number.
use Rattle.std.proofs.Math.Option.{Option, none, some}
use Rattle.std.specs.Prelude.{List, [], ◌∷◌, ℕ, eqb}
use Rattle.answer.specs.Answer.{pick}
use Rattle.schema.specs.Content.{ValueWith, FieldWith}

-- the value of the first field of this number, if there is one
unfoldable pub field_value : {O : Type 0} → List (FieldWith O) → ℕ → Option (ValueWith O)
field_value [] n = none
field_value (f ∷ fs) n = pick (eqb f.number n) (some f.value) (field_value fs n)
