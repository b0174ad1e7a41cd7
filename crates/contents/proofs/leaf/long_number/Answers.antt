-- `long_number` meets its contract: the element opened, and its content. Assumes nothing.
use Rattle.std.specs.Prelude.{Ok, Err}
use Rattle.answer.proofs.Results.{handed_on}
use Rattle.contents.proofs.Open.{span_is}
use Rattle.contents.proofs.Leaves.{number_no, number_of_value}
use Rattle.contents.proofs.leaf.long_number.Goals as goal

pub returns-in_err-body-clause-is : goal.returns-in_err-body-clause-is
returns-in_err-body-clause-is c = rw (handed_on _ _ c.from_residual.ensures.1) (number_no _ _ _ _ _ _ _ c.in_err-body.ensures.is)

pub returns-in_err-val-clause-is : goal.returns-in_err-val-clause-is
returns-in_err-val-clause-is c = rw (handed_on _ _ c.from_residual-in_err-val.ensures.1) (number_of_value _ _ _ _ _ _ _ c.in_ok-body.ensures.is _ (rw (span_is _ _ _ c.in_ok-body.ensures.inside.1.0 c.in_ok-body.ensures.inside.1.1) at c.value_of.ensures) (Err _) c.in_err-val.ensures.value)

pub returns-clause-is : goal.returns-clause-is
returns-clause-is c = number_of_value _ _ _ _ _ _ _ c.in_ok-body.ensures.is _ (rw (span_is _ _ _ c.in_ok-body.ensures.inside.1.0 c.in_ok-body.ensures.inside.1.1) at c.value_of.ensures) (Ok _) c.in_ok-val.ensures.value
