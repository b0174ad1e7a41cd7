-- `read_keymint` meets its contract. Assumes nothing.
use native.Mathlib.Omega.{arith}
use Rattle.answer.proofs.Results.{handed_on}
use Rattle.contents.proofs.Members.{number_small}
use Rattle.contents.proofs.Heads.{keymint_no, keymint-is, level_small}
use Rattle.contents.proofs.head.read_keymint.Goals as goal

pub returns-in_err-read-clause-is : goal.returns-in_err-read-clause-is
returns-in_err-read-clause-is c = rw (handed_on _ _ c.from_residual.ensures.1) (keymint_no _ _ _ _ _ _ c.in_err-read.ensures.is)

pub overflow_cast-read : goal.overflow_cast-read
overflow_cast-read c = omega (arith, number_small _ _ _ _ _ _ _ c.in_ok-read.ensures.is)

pub read_level-requires : goal.read_level-requires
read_level-requires c = rw c.level_top.ensures (level_small _)

pub returns-clause-is : goal.returns-clause-is
returns-clause-is c = keymint-is _ _ _ _ _ _ _ _ c.in_ok-read.ensures.is c.level_top.ensures c.read_level.ensures.is
