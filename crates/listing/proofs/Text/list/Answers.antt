-- `Text::list` meets its contract. The invariant: the lines of the rows before this one are put. Assumes nothing.
use Rattle.listing.proofs.Writes.{list_start, list_more, list_skip, list_end}
use Rattle.listing.proofs.Text.list.Goals as goal
use Rattle.listing.proofs.Text.list.Goals.{then-l-place, else-l-place}

pub loop-place-init : goal.loop-place-init
loop-place-init c = search list_start

pub loop-place-preserved : goal.loop-place-preserved
loop-place-preserved c =
    let a = c.args in
    elim c.if-l-place.branch [
      | then-l-place w ↦
          rw w.self-is
          (list_more a.l.now a.s.now a.word.now c.loop-place.place w.if-l-place.true c.loop-place.invariant w.field.ensures)
      | else-l-place w ↦
          rw w.self-is
          (list_skip a.l.now a.s.now a.word.now c.loop-place.place w.if-l-place.false c.loop-place.invariant)
    ]

pub returns : goal.returns
returns c = search list_end
