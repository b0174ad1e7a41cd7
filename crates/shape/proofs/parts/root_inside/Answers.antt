-- `shape::parts::root_inside` meets its contract: the tests of `root_inside` in turn. Assumes nothing.
use mathlib.Core.Path.{refl, ◌∙◌}
use borrow.Author.Rules.{rules}
use Rattle.shape.proofs.Shapes.{next_true, next_false, asked_where}
use Rattle.shape.proofs.Buffer.{root_whole}
use Rattle.shape.proofs.parts.root_inside.Goals as goal

pub returns-then-part_inside : goal.returns-then-part_inside
returns-then-part_inside c = next_true c.part_inside.ensures c.if-part_inside.true refl (asked_where _ _ _ c.where_present.ensures (λ p. search rules)) ∙ root_whole c.args.t.now c.args.len

pub returns-else-part_inside : goal.returns-else-part_inside
returns-else-part_inside c = next_false _ c.part_inside.ensures c.if-part_inside.false refl ∙ root_whole c.args.t.now c.args.len
