-- `shape::root_shaped` meets its contract: the tests of `root_shaped` in turn. Assumes nothing.
use Rattle.shape.proofs.Shapes.{state_over, state_within}
use Rattle.shape.proofs.root_shaped.Goals as goal

pub returns-then-t-le3 : goal.returns-then-t-le3
returns-then-t-le3 c = state_within c.args.version c.args.t.now c.if-t-le3.true

pub returns-else-t-le3 : goal.returns-else-t-le3
returns-else-t-le3 c = state_over c.args.version c.args.t.now c.if-t-le3.false
