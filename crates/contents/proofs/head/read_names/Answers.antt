-- `read_names` meets its contract: two OCTET STRINGs. Assumes nothing.
use Rattle.answer.proofs.Results.{handed_on}
use Rattle.contents.proofs.Heads.{names_no, names_one, names_is}
use Rattle.contents.proofs.head.read_names.Goals as goal

pub returns-in_err-challenge-clause-is : goal.returns-in_err-challenge-clause-is
returns-in_err-challenge-clause-is c = rw (handed_on _ _ c.from_residual.ensures.1) (names_no _ _ _ _ _ c.in_err-challenge.ensures.is)

pub returns-in_err-unique-clause-is : goal.returns-in_err-unique-clause-is
returns-in_err-unique-clause-is c = rw (handed_on _ _ c.from_residual-in_err-unique.ensures.1) (names_one _ _ _ _ _ c.in_ok-challenge.ensures.is _ _ c.in_err-unique.ensures.is)

pub returns-clause-is : goal.returns-clause-is
returns-clause-is c = names_is _ _ _ _ _ c.in_ok-challenge.ensures.is _ _ c.in_ok-unique.ensures.is
