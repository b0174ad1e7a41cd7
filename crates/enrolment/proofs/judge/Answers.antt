-- `judge` meets its contract: one law for each answer. Assumes nothing.
use Rattle.enrolment.proofs.Answers.{not_met, software-level, no_root, unlocked, not_verified, other_origin, taken_on}
use Rattle.enrolment.proofs.judge.Goals as goal

pub returns-then-not-met : goal.returns-then-not-met
returns-then-not-met c = search not_met

pub returns-then-level-keymint_level : goal.returns-then-level-keymint_level
returns-then-level-keymint_level c = search software-level

pub returns-then-not-hardware : goal.returns-then-not-hardware
returns-then-not-hardware c = search no_root

pub returns-then-not-hardware-2 : goal.returns-then-not-hardware-2
returns-then-not-hardware-2 c = search unlocked

pub returns-then-hardware-ne-VERIFIED : goal.returns-then-hardware-ne-VERIFIED
returns-then-hardware-ne-VERIFIED c = search not_verified

pub returns-then-not-generated : goal.returns-then-not-generated
returns-then-not-generated c = search other_origin

pub returns : goal.returns
returns c = search taken_on
