-- `shape::parts::row_inside` meets its contract: the parts of a present row. Assumes nothing.
use Rattle.shape.proofs.Buffer.{absent-inside, present-inside}
use Rattle.shape.proofs.parts.row_inside.Goals as goal

pub returns-then-not-l-k : goal.returns-then-not-l-k
returns-then-not-l-k c = absent-inside c.args.l.now c.args.len c.args.k c.if-not-l-k.true

pub returns-else-not-l-k : goal.returns-else-not-l-k
returns-else-not-l-k c = present-inside _ _ _ c.row_at.result c.content_inside.result c.if-not-l-k.false c.row_at.ensures c.content_inside.ensures
