-- `Text::decimal` meets its contract: the digits of a tenth of n, and then the last one. Assumes nothing.
use Rattle.listing.proofs.Writes.{decimal-low, decimal_high}
use Rattle.listing.proofs.Text.+decimal.Goals as goal

pub returns-then-n-lt10 : goal.returns-then-n-lt10
returns-then-n-lt10 t c = search decimal-low

pub returns-else-n-lt10 : goal.returns-else-n-lt10
returns-else-n-lt10 t c = search decimal_high
