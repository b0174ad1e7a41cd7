-- `read_list` meets its contract: the SEQUENCE opened, and its fields. Assumes nothing.
use mathlib.Core.Path.{refl}
use native.Mathlib.Omega.{arith}
use lib.ListN.{length-take}
use Rattle.answer.proofs.Results.{handed_on}
use Rattle.der.proofs.Elements.{holder_part}
use Rattle.reader.proofs.Bounds.{list_more}
use Rattle.reader.proofs.Filling.{list_no, list_fields_no, list_is}
use Rattle.reader.proofs.fields.read_list.Goals as goal

pub returns-in_err-body : goal.returns-in_err-body
returns-in_err-body c = rw (handed_on _ _ c.from_residual.ensures.1) (list_no _ _ _ _ _ _ c.in_err-body.ensures.is, tt)

pub returns-in_err-read_fields : goal.returns-in_err-read_fields
returns-in_err-read_fields c = rw (handed_on _ _ c.from_residual-in_err-read_fields.ensures.1) (list_fields_no _ _ _ _ _ _ c.in_ok-body.ensures.is _ _ (rw (holder_part c.args.s.now _ c.in_ok-body.field-0.stop c.in_ok-body.field-0.body refl) at c.in_err-read_fields.ensures.0), tt)

pub returns : goal.returns
returns c = (list_is _ _ _ _ _ _ c.in_ok-body.ensures.is _ (rw (holder_part c.args.s.now _ c.in_ok-body.field-0.stop c.in_ok-body.field-0.body refl) at c.in_ok-read_fields.ensures.0), (omega (arith, c.in_ok-body.ensures.inside), (c.in_ok-body.ensures.inside.1.1, list_more _ _ (omega (arith, length-take c.in_ok-body.field-0.stop c.args.s.now)) _ c.in_ok-read_fields.ensures.1)))
