-- Document 01, "KeyDescription": "A set holds at most 16 numbers .., kept with their count": of a record, that no set's
-- count runs past its 16 slots. What a record says cannot show it, as members stop where the slots do.
use Rattle.std.specs.Prelude.{◌≡◌, ◌≤◌, length}
use Rattle.records.specs.declared.NumberSet.{NumberSet}
use Rattle.records.specs.declared.FieldList.{FieldList}

abbrev pub SetInSlots : NumberSet → Type 0
SetInSlots g = (g.count ≤ 16) × (length g.members ≡ 16)

-- each set of a list, absent or not
pub record InSlots (l : FieldList) : Type 0 where
  pub purpose : SetInSlots l.purpose
  pub digest : SetInSlots l.digest
  pub padding : SetInSlots l.padding
  pub mgf : SetInSlots l.mgf
