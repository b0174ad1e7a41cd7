-- `read_level` meets its contract. Assumes nothing.
use native.Mathlib.Omega.{arith}
use Rattle.answer.proofs.Results.{handed_on}
use Rattle.contents.proofs.Members.{number_small}
use Rattle.contents.proofs.Heads.{level_no, level-is}
use Rattle.contents.proofs.head.read_level.Goals as goal

pub returns-in_err-level-clause-is : goal.returns-in_err-level-clause-is
returns-in_err-level-clause-is c = rw (handed_on _ _ c.from_residual.ensures.1) (level_no _ _ _ _ _ _ _ c.in_err-level.ensures.is)

pub overflow_cast-result : goal.overflow_cast-result
overflow_cast-result c = omega (arith, number_small _ _ _ _ _ _ _ c.in_ok-level.ensures.is)

pub returns-clause-is : goal.returns-clause-is
returns-clause-is c = level-is _ _ _ _ _ _ _ c.in_ok-level.ensures.is
