-- `read_attestation` meets its contract. Assumes nothing.
use Rattle.answer.proofs.Results.{handed_on}
use Rattle.contents.proofs.Heads.{attestation_no, attestation-is, level_small}
use Rattle.contents.proofs.head.read_attestation.Goals as goal

pub returns-in_err-read-clause-is : goal.returns-in_err-read-clause-is
returns-in_err-read-clause-is c = rw (handed_on _ _ c.from_residual.ensures.1) (attestation_no _ _ _ _ _ c.in_err-read.ensures.is)

pub read_level-requires : goal.read_level-requires
read_level-requires c = rw c.level_top.ensures (level_small _)

pub returns-clause-is : goal.returns-clause-is
returns-clause-is c = attestation-is _ _ _ _ _ _ _ c.in_ok-read.ensures.is c.level_top.ensures c.read_level.ensures.is
