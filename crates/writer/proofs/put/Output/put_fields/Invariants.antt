-- `put_fields` meets its contract. The invariant: the fields of the rows before this one are put. Assumes nothing.
use Rattle.writer.proofs.Puts.{Listed}
use Rattle.writer.proofs.put.Output.put_fields.Given as goal

abbrev pub invariant-loop-place : goal.invariant-loop-place
invariant-loop-place l = Listed l.l l.s l.place l.initial.self l.self
