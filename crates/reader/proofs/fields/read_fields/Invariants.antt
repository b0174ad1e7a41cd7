-- What was stored up to here is what the fields up to here say.
use Rattle.std.specs.Prelude.{◌-◌, length}
use Rattle.reader.proofs.Filling.{Filled}
use Rattle.reader.proofs.fields.read_fields.Given as goal

abbrev pub invariant-loop-place : goal.invariant-loop-place
invariant-loop-place l = Filled l.s l.at (length l.s) l.version l.list l.place l.low

abbrev pub decreases-loop-place : goal.decreases-loop-place
decreases-loop-place l = length l.s - l.place
