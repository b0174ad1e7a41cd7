-- `Text::value` meets its contract: one law of `Writes` for each kind. Assumes nothing.
use Rattle.listing.proofs.Writes.{value_set, value_number, value_null, value-octets, value-root}
use Rattle.listing.proofs.Text.value.Goals as goal

pub returns-in-Set : goal.returns-in-Set
returns-in-Set c = search value_set

pub returns-in-Number32 : goal.returns-in-Number32
returns-in-Number32 c = value_number _ _ _ _ _ c.in-Number32.is c.decimal.ensures

pub returns-in-Null : goal.returns-in-Null
returns-in-Null c = search value_null

pub returns-in-Octets : goal.returns-in-Octets
returns-in-Octets c = search value-octets

pub returns-in-Root : goal.returns-in-Root
returns-in-Root c = search value-root
