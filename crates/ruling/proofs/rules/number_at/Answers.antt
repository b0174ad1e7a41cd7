-- `ruling::rules::number_at` meets its contract: the number where the flag says so. Assumes nothing.
use Rattle.ruling.proofs.TagRows.{taken}
use Rattle.ruling.proofs.rules.number_at.Goals as goal

pub returns : goal.returns
returns c = taken (λ x. x) _ _ _ c.then_some.ensures
