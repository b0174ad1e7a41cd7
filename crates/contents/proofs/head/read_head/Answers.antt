-- `read_head` meets its contract: the six, in pairs. Assumes nothing.
use Rattle.answer.proofs.Results.{handed_on}
use Rattle.contents.proofs.Heads.{head_no, head_keymint_no, head_names_no, head_is}
use Rattle.contents.proofs.head.read_head.Goals as goal

pub returns-in_err-attestation-clause-is : goal.returns-in_err-attestation-clause-is
returns-in_err-attestation-clause-is c = rw (handed_on _ _ c.from_residual.ensures.1) (head_no _ _ _ _ _ c.in_err-attestation.ensures.is)

pub returns-in_err-keymint-clause-is : goal.returns-in_err-keymint-clause-is
returns-in_err-keymint-clause-is c = rw (handed_on _ _ c.from_residual-in_err-keymint.ensures.1) (head_keymint_no _ _ _ _ _ c.in_ok-attestation.ensures.is _ _ c.in_err-keymint.ensures.is)

pub returns-in_err-names-clause-is : goal.returns-in_err-names-clause-is
returns-in_err-names-clause-is c = rw (handed_on _ _ c.from_residual-in_err-names.ensures.1) (head_names_no _ _ _ _ _ c.in_ok-attestation.ensures.is _ _ c.in_ok-keymint.ensures.is _ _ c.in_err-names.ensures.is)

pub returns-clause-is : goal.returns-clause-is
returns-clause-is c = head_is _ _ _ _ _ c.in_ok-attestation.ensures.is _ _ c.in_ok-keymint.ensures.is _ _ c.in_ok-names.ensures.is
