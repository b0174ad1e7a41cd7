-- `checks::both_allow` meets its contract: the test of each tag that is there. Assumes nothing.
use Rattle.checks.proofs.Tags.{both-allowed}
use Rattle.checks.proofs.both_allow.Goals as goal

pub returns : goal.returns
returns g c = λ f m. both-allowed (λ x b. _) f m c.args.s c.args.h _ _ c.is_none_or.ensures c.is_none_or-2.ensures
