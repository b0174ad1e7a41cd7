-- `checks::holds` meets its contract: some member of those that count is n. Assumes nothing.
use mathlib.Core.Path.{◌∙◌}
use lib.Dec.{eqb}
use borrow.Author.Rules.{rules}
use Rattle.std.proofs.Common.{tests}
use Rattle.std.proofs.lemmas.Iterator.{YieldsList-from_slice, YieldsList-from_take}
use Rattle.std.proofs.lemmas.Iterator.Search.{any_from_yields_List}
use Rattle.checks.proofs.Tags.{member_found}
use Rattle.checks.proofs.holds.Goals as goal

pub returns : goal.returns
returns c =
    any_from_yields_List (λ x. eqb x c.args.n) _ _ _ c.any.ensures.ran
    (YieldsList-from_take c.args.g.count (YieldsList-from_slice c.args.g.members cc) cc)
    (λ x b q k. search (rules, tests))
    ∙ member_found c.args.n _
