-- `identifier_size` meets its contract in each of the three forms. Assumes nothing.
use Rattle.der_write.proofs.Sizes.{identifier-size_one, identifier-size_two, identifier-size_three}
use Rattle.der_write.proofs.identifier_size.Goals as goal

pub returns-in-0-to-30-clause-is : goal.returns-in-0-to-30-clause-is
returns-in-0-to-30-clause-is c = search identifier-size_one

pub returns-in-31-to-127-clause-is : goal.returns-in-31-to-127-clause-is
returns-in-31-to-127-clause-is c = search identifier-size_two

pub returns-in_default-clause-is : goal.returns-in_default-clause-is
returns-in_default-clause-is c = search identifier-size_three
