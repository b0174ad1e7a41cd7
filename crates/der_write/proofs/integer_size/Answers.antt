-- `integer_size` meets its contract, from the significant bits. Assumes nothing.
use Rattle.der_write.proofs.Sizes.{integer_size_lem}
use Rattle.der_write.proofs.integer_size.Goals as goal

pub returns-clause-is : goal.returns-clause-is
returns-clause-is c = search integer_size_lem
