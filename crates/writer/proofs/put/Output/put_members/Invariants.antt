-- `put_members` meets its contract. The invariant: the members before this one are put. Assumes nothing.
use Rattle.std.proofs.Common.{take, length}
use Rattle.codec.specs.Integer.{integer_element}
use Rattle.codec.specs.Element.{chain_octets}
use Rattle.writer.specs.Output.{Adds}
use Rattle.writer.proofs.put.Output.put_members.Given as goal

abbrev pub invariant-loop-member : goal.invariant-loop-member
invariant-loop-member l = Adds l.initial.self (chain_octets integer_element (take (length l.yielded) (take l.fn.g.count l.fn.g.members))) l.self
