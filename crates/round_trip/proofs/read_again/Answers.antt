-- `read_again` meets its contract: what was written reads as an equal record. Assumes nothing.
use mathlib.Core.Path.{sym}
use lib.Seq.{length-take-le}
use Rattle.round_trip.proofs.Again.{wrote_fits, reads_again}
use Rattle.round_trip.proofs.read_again.Goals as goal

pub slice_bounds-read-end : goal.slice_bounds-read-end
slice_bounds-read-end c = wrote_fits c.args.r _ _ _ c.in_ok-n.ensures.output c.type_inv.s _ c.in_ok-n.ensures.answer

pub slice_bounds-read-end-2 : goal.slice_bounds-read-end-2
slice_bounds-read-end-2 c = sym (length-take-le c.in_ok-n.n c.write.new.out (wrote_fits c.args.r _ _ _ c.in_ok-n.ensures.output c.type_inv.s _ c.in_ok-n.ensures.answer))

pub returns-clause-answer : goal.returns-clause-answer
returns-clause-answer c = reads_again c.args.r _ _ _ c.in_ok-n.ensures.output c.type_inv.s _ c.in_ok-n.ensures.answer _ c.read.ensures
