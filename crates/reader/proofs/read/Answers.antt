-- `read` meets its contract: the opening, the two lists and the end over the same bytes. Assumes nothing.
use mathlib.Core.Path.{refl}
use native.Mathlib.Omega.{arith}
use lib.ListN.{length-take}
use lib.Seq.{length-take-le}
use Rattle.answer.proofs.Results.{handed_on}
use Rattle.der.proofs.Elements.{holder_part}
use Rattle.reader.proofs.Bounds.{list_more}
use Rattle.reader.proofs.Readings.{reads_no, software_no, hardware_no, end_extra, end_spare, read_is}
use Rattle.reader.proofs.read.Goals as goal

pub returns-in_err-elements : goal.returns-in_err-elements
returns-in_err-elements c = rw (handed_on _ _ c.from_residual.ensures.1) (reads_no _ _ _ c.in_err-elements.ensures)

pub returns-in_err-middle : goal.returns-in_err-middle
returns-in_err-middle c = rw (handed_on _ _ c.from_residual-in_err-middle.ensures.1) (software_no _ _ _ _ _ c.in_ok-elements.ensures _ _ (rw (holder_part c.args.s.now _ c.in_ok-elements.field-0.stop c.in_ok-elements.field-0.next refl) at c.in_err-middle.ensures.0))

pub returns-in_err-end : goal.returns-in_err-end
returns-in_err-end c = rw (handed_on _ _ c.from_residual-in_err-end.ensures.1) (hardware_no _ _ _ _ _ c.in_ok-elements.ensures _ _ (rw (holder_part c.args.s.now _ c.in_ok-elements.field-0.stop c.in_ok-middle.middle refl, holder_part c.args.s.now _ c.in_ok-elements.field-0.stop c.in_ok-elements.field-0.next refl) at c.in_ok-middle.ensures.0) _ _ (rw (holder_part c.args.s.now _ c.in_ok-elements.field-0.stop c.in_ok-middle.middle refl) at c.in_err-end.ensures.0))

pub returns-then-end-stop : goal.returns-then-end-stop
returns-then-end-stop c = end_extra _ _ _ _ _ c.in_ok-elements.ensures _ _ (rw (holder_part c.args.s.now _ c.in_ok-elements.field-0.stop c.in_ok-middle.middle refl, holder_part c.args.s.now _ c.in_ok-elements.field-0.stop c.in_ok-elements.field-0.next refl) at c.in_ok-middle.ensures.0) _ _ (rw (holder_part c.args.s.now _ c.in_ok-elements.field-0.stop c.in_ok-end.end refl, holder_part c.args.s.now _ c.in_ok-elements.field-0.stop c.in_ok-middle.middle refl) at c.in_ok-end.ensures.0) (rw (length-take-le c.in_ok-elements.field-0.stop c.args.s.now c.in_ok-elements.ensures.fits) at c.in_ok-end.ensures.1.1.0) c.if-end-stop.true

pub returns-then-stop-s : goal.returns-then-stop-s
returns-then-stop-s c = end_spare _ _ _ _ _ c.in_ok-elements.ensures _ _ (rw (holder_part c.args.s.now _ c.in_ok-elements.field-0.stop c.in_ok-middle.middle refl, holder_part c.args.s.now _ c.in_ok-elements.field-0.stop c.in_ok-elements.field-0.next refl) at c.in_ok-middle.ensures.0) _ _ (rw (holder_part c.args.s.now _ c.in_ok-elements.field-0.stop c.in_ok-end.end refl, holder_part c.args.s.now _ c.in_ok-elements.field-0.stop c.in_ok-middle.middle refl) at c.in_ok-end.ensures.0) (rw (length-take-le c.in_ok-elements.field-0.stop c.args.s.now c.in_ok-elements.ensures.fits) at c.in_ok-end.ensures.1.1.0) c.if-end-stop.false c.if-stop-s.true

pub returns : goal.returns
returns c = rw c.record_of-said.ensures (read_is _ _ _ _ _ c.in_ok-elements.ensures _ _ (rw (holder_part c.args.s.now _ c.in_ok-elements.field-0.stop c.in_ok-middle.middle refl, holder_part c.args.s.now _ c.in_ok-elements.field-0.stop c.in_ok-elements.field-0.next refl) at c.in_ok-middle.ensures.0) _ _ (rw (holder_part c.args.s.now _ c.in_ok-elements.field-0.stop c.in_ok-end.end refl, holder_part c.args.s.now _ c.in_ok-elements.field-0.stop c.in_ok-middle.middle refl) at c.in_ok-end.ensures.0) (rw (length-take-le c.in_ok-elements.field-0.stop c.args.s.now c.in_ok-elements.ensures.fits) at c.in_ok-end.ensures.1.1.0) c.if-end-stop.false c.if-stop-s.false c.type_inv.s (list_more _ _ (omega (arith, length-take c.in_ok-elements.field-0.stop c.args.s.now)) _ c.in_ok-middle.ensures.1.1.1) (list_more _ _ (omega (arith, length-take c.in_ok-elements.field-0.stop c.args.s.now)) _ c.in_ok-end.ensures.1.1.1))
