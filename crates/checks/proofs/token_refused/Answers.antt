-- `checks::token_refused` meets its contract: the test of each type. Assumes nothing.
use mathlib.Core.Path.{◌≡◌, ap, ◌∙◌}
use mathlib.Core.Bool.{◌&&◌, not}
use lib.Bits.{bit_and}
use lib.Dec.{eqb}
use borrow.Author.Rules.{rules}
use Rattle.std.specs.Prelude.{is_some}
use Rattle.checks.specs.Checks.{token_refused}
use Rattle.checks.specs.Code.{of_number_tag, or_zero}
use Rattle.checks.proofs.Checking.{shares}
use Rattle.checks.proofs.token_refused.Goals as goal

pub returns : goal.returns
unfolding token_refused
returns c =
    ap not
    (c.both_allow.ensures (λ wanted. is_some c.args.kinds && not (eqb (bit_and (or_zero (of_number_tag c.args.kinds)) wanted) 0))
    (λ x b p. let e : b ≡ not (eqb (bit_and c.unwrap_or-kinds.result x) 0) = search rules in e ∙ shares c.args.kinds x c.unwrap_or-kinds.result c.unwrap_or-kinds.ensures))
