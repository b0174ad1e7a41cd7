-- `Text::list` meets its contract. The invariant: the lines of the rows before this one are put. Assumes nothing.
use Rattle.listing.proofs.Writes.{Listing}
use Rattle.listing.proofs.Text.list.Given as goal

abbrev pub invariant-loop-place : goal.invariant-loop-place
invariant-loop-place l = Listing l.l l.s l.word l.place l.initial.self l.self
