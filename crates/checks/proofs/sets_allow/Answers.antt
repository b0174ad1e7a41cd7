-- `checks::sets_allow` meets its contract: a set that is there, and n in each. Assumes nothing.
use borrow.Author.Rules.{rules}
use Rattle.records.specs.Content.{members_of}
use Rattle.checks.specs.Tags.{member}
use Rattle.checks.proofs.Tags.{sets-allowed}
use Rattle.checks.proofs.sets_allow.Goals as goal

pub returns : goal.returns
returns c =
    sets-allowed _ _ _ _ _ _ c.is_some.ensures c.is_some-2.ensures
    (c.both_allow.ensures (λ g. member c.args.n (members_of g)) (λ g b p. search rules))
