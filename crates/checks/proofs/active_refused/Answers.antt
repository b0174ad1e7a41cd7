-- `checks::active_refused` meets its contract: the test of each date. Assumes nothing.
use mathlib.Core.Path.{ap}
use mathlib.Core.Bool.{not}
use lib.Dec.{leb}
use borrow.Author.Rules.{rules}
use Rattle.checks.specs.Checks.{active_refused}
use Rattle.checks.proofs.active_refused.Goals as goal

pub returns : goal.returns
unfolding active_refused
returns c = ap not (c.both_allow.ensures (λ active. leb active c.args.clock) (λ x b p. search rules))
