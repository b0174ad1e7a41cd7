-- `put_each` meets its contract: the words passed stand in their places. Assumes nothing.
use mathlib.Core.List.{map}
use lib.ListN.{length}
use Rattle.image.proofs.Puts.{Placed}
use Rattle.image.proofs.put.put_each.Given as goal

abbrev pub invariant-loop-k : goal.invariant-loop-k
invariant-loop-k g l = Placed l.initial.out (length l.xs) (map g.T.Word.as_word l.xs) l.out l.k
