-- `number_size` meets its contract: one octet of identifier and one of length. Assumes nothing.
use Rattle.sizes.proofs.Sizing.{integer_sized, enumerated_sized}
use Rattle.sizes.proofs.number_size.Goals as goal

pub returns-clause-integer : goal.returns-clause-integer
returns-clause-integer c = search integer_sized

pub returns-clause-enumerated : goal.returns-clause-enumerated
returns-clause-enumerated c = search enumerated_sized
