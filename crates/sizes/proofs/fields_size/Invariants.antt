-- `fields_size` meets its contract. The invariant: the fields of the rows before this one are counted. Assumes nothing.
use Rattle.sizes.proofs.Sizing.{Counted}
use Rattle.sizes.proofs.fields_size.Given as goal

abbrev pub invariant-loop-place : goal.invariant-loop-place
invariant-loop-place l = Counted l.l l.s l.place l.n
