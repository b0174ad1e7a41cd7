-- The slots up to here hold the members up to here.
use Rattle.std.specs.Prelude.{◌-◌, length}
use Rattle.contents.proofs.Members.{Gathered}
use Rattle.contents.proofs.set.read_members.Given as goal

abbrev pub invariant-loop-place : goal.invariant-loop-place
invariant-loop-place l = Gathered l.s l.at (length l.s) l.set.members l.place l.low l.n

abbrev pub decreases-loop-place : goal.decreases-loop-place
decreases-loop-place l = length l.s - l.place
