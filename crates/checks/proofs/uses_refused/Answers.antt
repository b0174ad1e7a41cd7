-- `checks::uses_refused` meets its contract: the test of each limit. Assumes nothing.
use mathlib.Core.Path.{ap}
use mathlib.Core.Bool.{not}
use lib.Dec.{ltb}
use borrow.Author.Rules.{rules}
use Rattle.checks.specs.Checks.{uses_refused}
use Rattle.checks.proofs.uses_refused.Goals as goal

pub returns : goal.returns
unfolding uses_refused
returns c = ap not (c.both_allow.ensures (λ limit. ltb c.args.uses limit) (λ x b p. search rules))
