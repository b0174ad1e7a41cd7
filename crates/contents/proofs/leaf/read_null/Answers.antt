-- `read_null` meets its contract: no content. Assumes nothing.
use Rattle.answer.proofs.Results.{handed_on}
use Rattle.contents.proofs.Leaves.{null_no, null_is, null_some}
use Rattle.contents.proofs.leaf.read_null.Goals as goal

pub returns-in_err-body-clause-is : goal.returns-in_err-body-clause-is
returns-in_err-body-clause-is c = rw (handed_on _ _ c.from_residual.ensures.1) (null_no _ _ _ _ _ c.in_err-body.ensures.is)

pub returns-then-body-stop-clause-is : goal.returns-then-body-stop-clause-is
returns-then-body-stop-clause-is c = null_some _ _ _ _ _ c.in_ok-body.ensures.is c.in_ok-body.ensures.inside.1.0 c.in_ok-body.ensures.inside.1.1 c.if-body-stop.true

pub returns-clause-is : goal.returns-clause-is
returns-clause-is c = null_is _ _ _ _ _ c.in_ok-body.ensures.is c.if-body-stop.false
