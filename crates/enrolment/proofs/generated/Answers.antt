-- `generated` meets its contract: origin is there, and 0. Assumes nothing.
use Rattle.enrolment.proofs.Answers.{origin_read}
use Rattle.enrolment.proofs.generated.Goals as goal

pub returns : goal.returns
returns c = search origin_read
