-- `length_size` meets its contract: one octet below 128, else those of the significant bits and one more. Assumes nothing.
use Rattle.der_write.proofs.Sizes.{length-size-short, length-size-long}
use Rattle.der_write.proofs.length_size.Goals as goal

pub returns-then-n-lt128-clause-is : goal.returns-then-n-lt128-clause-is
returns-then-n-lt128-clause-is c = search length-size-short

pub returns-clause-is : goal.returns-clause-is
returns-clause-is c = search length-size-long
