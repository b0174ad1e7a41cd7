-- `put_fields` meets its contract. The invariant: the fields of the rows before this one are put. Assumes nothing.
use mathlib.Core.Path.{refl}
use Rattle.writer.proofs.Puts.{field-number, fields_start, fields_more, fields_skip}
use Rattle.writer.proofs.put.Output.put_fields.Goals.{then-l-place, else-l-place}
use Rattle.writer.proofs.put.Output.put_fields.Goals as goal

pub loop-place-init : goal.loop-place-init
loop-place-init c = fields_start c.args.l c.args.s.now c.args.self.now

pub put_field-requires : goal.put_field-requires
put_field-requires c = field-number c.row_at-row.result c.loop-place.place c.row_at-row.ensures

pub loop-place-preserved : goal.loop-place-preserved
loop-place-preserved c =
    let l = c.args.l in
    let s = c.args.s.now in
    let k = c.loop-place.place in
    elim c.if-l-place.branch [
      | then-l-place w ↦ rw w.self-is (fields_more l s k w.row_at-row.result w.if-l-place.true w.row_at-row.ensures c.loop-place.invariant (w.put_field.ensures k refl refl))
      | else-l-place w ↦ rw w.self-is (fields_skip l s k w.if-l-place.false c.loop-place.invariant)
    ]
