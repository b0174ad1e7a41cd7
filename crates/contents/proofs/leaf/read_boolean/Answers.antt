-- `read_boolean` meets its contract: one octet, 00 or FF. Assumes nothing.
use Rattle.answer.proofs.Results.{handed_on}
use Rattle.contents.proofs.Leaves.{boolean_no, boolean_long, boolean_false, boolean_true, boolean_other}
use Rattle.contents.proofs.leaf.read_boolean.Goals as goal

pub returns-in_err-body-clause-is : goal.returns-in_err-body-clause-is
returns-in_err-body-clause-is c = rw (handed_on _ _ c.from_residual.ensures.1) (boolean_no _ _ _ _ _ c.in_err-body.ensures.is)

pub returns-then-stop-body-ne1-clause-is : goal.returns-then-stop-body-ne1-clause-is
returns-then-stop-body-ne1-clause-is c = boolean_long _ _ _ _ _ c.in_ok-body.ensures.is c.in_ok-body.ensures.inside.1.0 c.in_ok-body.ensures.inside.1.1 c.if-stop-body-ne1.true

pub returns-then-a-eq0-clause-is : goal.returns-then-a-eq0-clause-is
returns-then-a-eq0-clause-is c = boolean_false _ _ _ _ _ c.in_ok-body.ensures.is c.in_ok-body.ensures.inside.1.0 c.in_ok-body.ensures.inside.1.1 c.if-stop-body-ne1.false c.if-a-eq0.true

pub returns-then-a-clause-is : goal.returns-then-a-clause-is
returns-then-a-clause-is c = boolean_true _ _ _ _ _ c.in_ok-body.ensures.is c.in_ok-body.ensures.inside.1.0 c.in_ok-body.ensures.inside.1.1 c.if-stop-body-ne1.false c.if-a-eq0.false c.if-a.true

pub returns-clause-is : goal.returns-clause-is
returns-clause-is c = boolean_other _ _ _ _ _ c.in_ok-body.ensures.is c.in_ok-body.ensures.inside.1.0 c.in_ok-body.ensures.inside.1.1 c.if-stop-body-ne1.false c.if-a-eq0.false c.if-a.false
