-- `checks::recent` meets its contract: the age in seconds, rounded up. Assumes nothing.
use borrow.Author.Rules.{rules}
use Rattle.checks.proofs.Checking.{of_age}
use Rattle.checks.proofs.recent.Goals as goal

pub returns : goal.returns
returns c = of_age _ _ _ _ c.checked_sub.result _ c.checked_sub.ensures c.is_some_and.ensures (λ age p. search rules)
