-- `read_octets` meets its contract: the content stays where it is. Assumes nothing.
use Rattle.answer.proofs.Results.{handed_on}
use Rattle.contents.proofs.Leaves.{octets_no, octets-is}
use Rattle.contents.proofs.leaf.read_octets.Goals as goal

pub returns-in_err-body-clause-is : goal.returns-in_err-body-clause-is
returns-in_err-body-clause-is c = rw (handed_on _ _ c.from_residual.ensures.1) (octets_no _ _ _ _ _ c.in_err-body.ensures.is)

pub returns-clause-is : goal.returns-clause-is
returns-clause-is c = octets-is _ _ _ _ _ c.in_ok-body.ensures.is c.in_ok-body.ensures.inside.1.1
