-- `ruling::marks::mark_of` meets its contract. The invariant: the mark is that of the tags from i on. Assumes nothing.
use Rattle.ruling.proofs.Bits.{mark_begin, mark_fits, mark_more}
use borrow.Author.Rules.{rules}
use Rattle.ruling.proofs.marks.mark_of.Goals as goal

pub loop-i-init : goal.loop-i-init
loop-i-init c = (search rules, search rules, search rules, search mark_begin)

pub joined-mark-requires : goal.joined-mark-requires
joined-mark-requires c = search mark_fits

pub loop-i-preserved : goal.loop-i-preserved
loop-i-preserved c = (search rules, search rules, search rules, search mark_more)
