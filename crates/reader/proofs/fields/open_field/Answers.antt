-- `open_field` meets its contract: 9 for its form, 11, 12, or the field's row and content. Assumes nothing.
use Rattle.std.proofs.Common.{rules}
use Rattle.answer.proofs.Results.{handed_on}
use Rattle.reader.proofs.FieldHeads.{field_no, field-form, field_unknown, field-version, field_order_lem, field_is}
use Rattle.reader.proofs.fields.open_field.Goals as goal

pub returns-in_err-form : goal.returns-in_err-form
returns-in_err-form c = rw (handed_on _ _ c.from_residual.ensures.1) (field_no _ _ _ _ _ _ _ c.in_err-form.ensures.is)

pub returns-then-form-ne5 : goal.returns-then-form-ne5
returns-then-form-ne5 c = field-form _ _ _ _ _ _ _ _ _ c.in_ok-form.ensures.is c.if-form-ne5.true

pub returns-then-number-low : goal.returns-then-number-low
returns-then-number-low c = field_order_lem _ _ _ _ _ _ _ _ _ c.in_ok-form.ensures.is c.if-form-ne5.false _ c.in-Some.ensures.is c.in-Some.ensures.inside _ c.row_at.ensures _ c.held.ensures c.if-held.true c.if-number-low.true

pub returns-then-held : goal.returns-then-held
returns-then-held c = field_is _ _ _ _ _ _ _ _ _ c.in_ok-form.ensures.is c.if-form-ne5.false _ c.in-Some.ensures.is c.in-Some.ensures.inside _ c.row_at.ensures _ c.held.ensures c.if-held.true c.if-number-low.false c.in_ok-form.ensures.inside

pub returns-in_default : goal.returns-in_default
returns-in_default c = search (rules, field_unknown)

pub returns : goal.returns
returns c = field-version _ _ _ _ _ _ _ _ _ c.in_ok-form.ensures.is c.if-form-ne5.false _ c.in-Some.ensures.is c.in-Some.ensures.inside _ c.row_at.ensures _ c.held.ensures c.if-held.false
