-- `significant_bits` meets its contract: 64 less the leading zeros of the word. Assumes nothing.
use Rattle.der_write.proofs.Sizes.{bits_64}
use borrow.Author.Rules.{rules}
use Rattle.der_write.proofs.significant_bits.Goals as goal

pub returns : goal.returns
returns c = (search bits_64, search rules)
