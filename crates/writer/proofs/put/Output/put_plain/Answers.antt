-- `put_plain` meets its contract, kind by kind. Assumes nothing.
use Rattle.writer.proofs.Puts.{value_number, value-octets, value_null}
use Rattle.writer.proofs.put.Output.put_plain.Goals as goal

pub returns-in-Number32 : goal.returns-in-Number32
returns-in-Number32 c = search value_number

pub returns-in-Octets : goal.returns-in-Octets
returns-in-Octets c = search value-octets

pub returns-in_default : goal.returns-in_default
returns-in_default c = search value_null
