-- `put_identifier` meets its contract: one law of `Writes` for each of the three forms. Assumes nothing.
use lib.ListN.{length-set}
use Rattle.der_write.proofs.Writes.{has_one, has_two, has_three, has_second, has-first, is_one, is_two, is_three}
use Rattle.der_write.proofs.put_identifier.Goals as goal

pub bounds-out-0 : goal.bounds-out-0
bounds-out-0 c = search has_one

pub returns-then-number-lt31 : goal.returns-then-number-lt31
returns-then-number-lt31 c = search is_one

pub bounds-out-0-2 : goal.bounds-out-0-2
bounds-out-0-2 c = search has-first

pub bounds-out-1 : goal.bounds-out-1
bounds-out-1 c = simp length-set (search has_two)

pub returns-then-number-lt128 : goal.returns-then-number-lt128
returns-then-number-lt128 c = search is_two

pub bounds-out-1-2 : goal.bounds-out-1-2
bounds-out-1-2 c = simp length-set (search has_second)

pub bounds-out-2 : goal.bounds-out-2
bounds-out-2 c = simp length-set (search has_three)

pub returns : goal.returns
returns c = search is_three
