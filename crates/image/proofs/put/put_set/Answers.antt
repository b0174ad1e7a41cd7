-- `put_set` meets its contract: the slots, and the count after them. Assumes nothing.
use borrow.Author.Rules.{rules}
use Rattle.image.proofs.Puts.{set_stored_lem, set-long}
use Rattle.image.proofs.put.put_set.Goals as goal

pub returns-clause-is : goal.returns-clause-is
returns-clause-is c = set_stored_lem c.args.out.now c.args.g.now (search rules) c.requires c.put_each.ensures

pub returns-clause-long : goal.returns-clause-long
returns-clause-long c = set-long c.args.g.now (search rules)
