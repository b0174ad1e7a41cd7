-- The measure is twice the octets left, one more for a run; the run's invariant is `Left`: what is still to walk gives what
-- the whole run gives.
use Rattle.std.specs.Prelude.{◌+◌, ◌-◌, ◌*◌, ◌≤◌, length}
use Rattle.codec.specs.Tree.{walk_element}
use Rattle.der.proofs.Elements.{Left}
use Rattle.der.proofs.walk.+walk_element_walk_run.Given as goal

abbrev pub decreases-walk_element : goal.decreases-walk_element
decreases-walk_element l = 2 * (length l.s.now - l.at)

abbrev pub decreases-walk_run : goal.decreases-walk_run
decreases-walk_run l = 2 * (length l.s.now - l.at) + 1

abbrev pub invariant-walk_run-loop-past : goal.invariant-walk_run-loop-past
invariant-walk_run-loop-past l =
    (l.at ≤ l.past.next) × (l.past.next ≤ length l.s) × Left l.s (walk_element l.most l.depth) (length l.s) l.at l.met l.past.next l.past.met

abbrev pub decreases-walk_run-loop-past : goal.decreases-walk_run-loop-past
decreases-walk_run-loop-past l = length l.s - l.past.next
