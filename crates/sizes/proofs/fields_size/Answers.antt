-- `fields_size` meets its contract. The invariant: the fields of the rows before this one are counted. Assumes nothing.
use mathlib.Core.Path.{refl}
use Rattle.sizes.proofs.Sizing.{fields_start, fields_more, fields_skip}
use Rattle.sizes.proofs.fields_size.Goals.{then-l-place, else-l-place}
use Rattle.sizes.proofs.fields_size.Goals as goal

pub loop-place-init : goal.loop-place-init
loop-place-init c = fields_start c.args.l c.args.s.now

pub loop-place-preserved : goal.loop-place-preserved
loop-place-preserved c =
    let l = c.args.l in
    let s = c.args.s.now in
    let k = c.loop-place.place in
    elim c.if-l-place.branch [
      | then-l-place w ↦ rw w.n-is (fields_more l s k c.loop-place.n w.value_size-value.result w.element_size.result w.add-n.result w.row_at-row.result w.if-l-place.true w.row_at-row.ensures c.loop-place.invariant (w.value_size-value.ensures k refl refl) w.element_size.ensures w.add-n.ensures)
      | else-l-place w ↦ rw w.n-is (fields_skip l s k c.loop-place.n w.if-l-place.false c.loop-place.invariant)
    ]
