-- `ruling::rule` meets its contract: 20, or the ruling by the rules of both lists. Assumes nothing.
use Rattle.ruling.proofs.Answers.{rule_ill_shaped, rule_by_lists}
use Rattle.ruling.proofs.rule.Goals as goal

pub returns-then-not-well_shaped : goal.returns-then-not-well_shaped
returns-then-not-well_shaped c = rule_ill_shaped _ _ _ c.well_shaped.ensures c.if-not-well_shaped.true

pub returns : goal.returns
returns c = rule_by_lists _ _ _ c.well_shaped.ensures c.if-not-well_shaped.false _ _ c.rules_of.ensures c.rules_of-2.ensures _ c.ruled.ensures
