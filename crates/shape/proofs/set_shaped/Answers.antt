-- `shape::set_shaped` meets its contract: each member is below the next. Assumes nothing.
use Rattle.std.proofs.Common.{rules, tests}
use Rattle.std.proofs.lemmas.List.Sorted.{answers_always}
use lib.Dec.{ltb}
use Rattle.shape.proofs.Shapes.{too_many, ascending}
use Rattle.shape.proofs.set_shaped.Goals as goal

pub returns-then-g-gt-MEMBERS : goal.returns-then-g-gt-MEMBERS
returns-then-g-gt-MEMBERS c = too_many c.args.g c.if-g-gt-MEMBERS.true

pub returns : goal.returns
returns c =
    ascending c.args.g c.if-g-gt-MEMBERS.false (search rules) (λ k. search rules) c.is_sorted_by.result
    (c.is_sorted_by.ensures.cases (λ x y. ltb x y) (answers_always _ _ _ (λ f a r q k. search (rules, tests))))
