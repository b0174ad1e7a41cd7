-- `locked_digit` meets its contract: the test is that of `locked_text`. Assumes nothing.
use Rattle.listing.proofs.Writes.{locked_yes, locked_no}
use Rattle.listing.proofs.locked_digit.Goals as goal

pub returns-then-locked : goal.returns-then-locked
returns-then-locked c = rw c.if-locked.true locked_yes

pub returns-else-locked : goal.returns-else-locked
returns-else-locked c = rw c.if-locked.false locked_no
