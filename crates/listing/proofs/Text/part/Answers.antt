-- `Text::part` meets its contract: the octets that there are, or a dash where there are none. Assumes nothing.
use Rattle.std.proofs.Common.{rules, tests}
use Rattle.listing.proofs.Writes.{part_none, part_some}
use Rattle.listing.proofs.Text.part.Goals as goal

pub returns-then-is_empty : goal.returns-then-is_empty
returns-then-is_empty c = part_none c.args.s.now _ c.args.part c.part_octets-octets.ensures.octets (search (rules, tests)) c.none.ensures

pub returns-else-is_empty : goal.returns-else-is_empty
returns-else-is_empty c = part_some c.args.s.now _ c.args.part c.part_octets-octets.ensures.octets (search (rules, tests)) c.hex.ensures
