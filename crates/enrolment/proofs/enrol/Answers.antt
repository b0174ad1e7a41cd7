-- `enrol` meets its contract: 20, and then what is judged. Assumes nothing.
use Rattle.enrolment.proofs.Answers.{not_shaped, part-outside, is-judged}
use Rattle.enrolment.proofs.enrol.Goals as goal

pub returns-then-not-well_shaped : goal.returns-then-not-well_shaped
returns-then-not-well_shaped c = search not_shaped

pub returns-then-not-parts_inside : goal.returns-then-not-parts_inside
returns-then-not-parts_inside c = search part-outside

pub returns : goal.returns
returns c = search is-judged
