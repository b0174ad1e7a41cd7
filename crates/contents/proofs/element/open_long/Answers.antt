-- `open_long` meets its contract: the element opened, and then its identifier. Assumes nothing.
use Rattle.answer.proofs.Results.{handed_on}
use Rattle.contents.proofs.Open.{tagged_no, tagged-form, tagged-number, tagged_is}
use Rattle.contents.proofs.element.open_long.Goals as goal

pub returns-in_err-element-clause-is : goal.returns-in_err-element-clause-is
returns-in_err-element-clause-is c = rw (handed_on _ _ c.from_residual.ensures.1) (tagged_no _ _ _ _ _ _ _ c.in_err-element.ensures.is)

pub returns-then-element-form-clause-is : goal.returns-then-element-form-clause-is
returns-then-element-form-clause-is c = tagged-form _ _ _ _ _ _ _ _ _ c.in_ok-element.ensures.is c.if-element-form.true

pub returns-then-element-number-clause-is : goal.returns-then-element-number-clause-is
returns-then-element-number-clause-is c = tagged-number _ _ _ _ _ _ _ _ _ c.in_ok-element.ensures.is c.if-element-form.false c.if-element-number.true

pub returns-clause-is : goal.returns-clause-is
returns-clause-is c = tagged_is _ _ _ _ _ _ _ _ _ c.in_ok-element.ensures.is c.if-element-form.false c.if-element-number.false
