-- What was read stands inside the buffer, and each turn reads an octet at least.
use Rattle.std.proofs.Common.{◌-◌, ◌≤◌, length}
use Rattle.case_input.proofs.read_full.Given as goal

abbrev pub invariant-loop-done : goal.invariant-loop-done
invariant-loop-done l = l.done ≤ length l.buf

abbrev pub decreases-loop-done : goal.decreases-loop-done
decreases-loop-done l = length l.buf - l.done
