-- `Text::set` meets its contract: a dash, or the first member and then the others. Assumes nothing.
use borrow.Author.Rules.{rules}
use Rattle.listing.proofs.Writes.{set-none, set_some}
use Rattle.listing.proofs.Text.set.Goals as goal

pub returns-in-None : goal.returns-in-None
returns-in-None c = set-none c.args.g.now (search rules) c.min.ensures c.in-None.ensures.cases c.none.ensures

pub returns-in-Some : goal.returns-in-Some
returns-in-Some c = set_some c.args.g.now c.in-Some.first.now c.in-Some.more.now (search rules) c.min.ensures c.in-Some.ensures.cases.0 (rw c.from.ensures at c.decimal.ensures) c.more.ensures
