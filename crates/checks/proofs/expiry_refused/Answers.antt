-- `checks::expiry_refused` meets its contract: the test of each date. Assumes nothing.
use mathlib.Core.Path.{ap}
use mathlib.Core.Bool.{not}
use lib.Dec.{leb}
use borrow.Author.Rules.{rules}
use Rattle.checks.specs.Checks.{expiry_refused}
use Rattle.checks.proofs.expiry_refused.Goals as goal

pub returns : goal.returns
unfolding expiry_refused
returns c = ap not (c.both_allow.ensures (λ date. leb c.args.clock date) (λ x b p. search rules))
