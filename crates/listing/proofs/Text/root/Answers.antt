-- `Text::root` meets its contract: key, locked and state, and the hash where there is one. Assumes nothing.
use Rattle.listing.proofs.Writes.{root-hashed, root_unhashed}
use Rattle.listing.proofs.Text.root.Goals as goal

pub returns-then-root : goal.returns-then-root
returns-then-root c = search root-hashed

pub returns-else-root : goal.returns-else-root
returns-else-root c = search root_unhashed
