-- `Text::octet` meets its contract: a store where the place lies in the output, and nothing past it. Assumes nothing.
use Rattle.listing.proofs.Joins.{stored, past}
use Rattle.listing.proofs.Text.octet.Goals as goal

pub returns-then-self : goal.returns-then-self
returns-then-self c = search stored

pub returns-else-self : goal.returns-else-self
returns-else-self c = search past
