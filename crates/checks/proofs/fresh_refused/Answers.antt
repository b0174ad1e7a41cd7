-- `checks::fresh_refused` meets its contract: the tests of `fresh_refused` in turn. Assumes nothing.
use borrow.Author.Rules.{rules}
use Rattle.checks.specs.Checks.{recent}
use Rattle.checks.proofs.Checking.{fresh_unasked, fresh_timed, fresh_bound}
use Rattle.checks.proofs.fresh_refused.Goals as goal

pub returns-then-not-is_some : goal.returns-then-not-is_some
returns-then-not-is_some c = fresh_unasked _ _ _ _ _ _ _ _ _ _ c.is_some.ensures c.is_some-2.ensures c.if-not-is_some.true

pub returns-then-is_some : goal.returns-then-is_some
returns-then-is_some c =
    fresh_timed _ _ _ _ _ _ _ _ _ _ c.is_some.ensures c.is_some-2.ensures c.if-not-is_some.false _ _ c.is_some-3.ensures c.is_some-4.ensures c.if-is_some.true _
    (c.both_allow.ensures (recent c.args.uptime c.args.time) (λ seconds b p. search rules))

pub returns : goal.returns
returns c =
    fresh_bound _ _ _ _ _ _ _ _ _ _ c.is_some.ensures c.is_some-2.ensures c.if-not-is_some.false _ _ c.is_some-3.ensures c.is_some-4.ensures c.if-is_some.false
