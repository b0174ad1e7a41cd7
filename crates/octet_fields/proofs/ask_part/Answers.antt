-- `octet_fields::ask_part` meets its contract: whether the part is inside. Assumes nothing.
use Rattle.octet_fields.proofs.Asking.{part-outside, part-there}
use Rattle.octet_fields.proofs.ask_part.Goals as goal

pub returns-then-part_inside : goal.returns-then-part_inside
returns-then-part_inside c = part-there c.args.part c.args.len c.part_inside.result c.part_inside.ensures c.if-part_inside.true

pub returns-else-part_inside : goal.returns-else-part_inside
returns-else-part_inside c = part-outside c.args.part c.args.len c.part_inside.result c.part_inside.ensures c.if-part_inside.false
