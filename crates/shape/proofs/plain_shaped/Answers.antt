-- `shape::plain_shaped` meets its contract: a number by its kind. Assumes nothing.
use Rattle.shape.proofs.Shapes.{plain_number32, plain_number64, plain_other}
use Rattle.shape.proofs.plain_shaped.Goals as goal

pub returns-in-Number32 : goal.returns-in-Number32
returns-in-Number32 c = search plain_number32

pub returns-in-Number64 : goal.returns-in-Number64
returns-in-Number64 c = search plain_number64

pub returns-in_default : goal.returns-in_default
returns-in_default c = plain_other c.args.kind c.args.value c.in_default.not-Number32 c.in_default.not-Number64
