-- `ruling::marks::mark_of` meets its contract. The invariant: the mark is that of the tags from i on. Assumes nothing.
use mathlib.Core.Path.{◌≡◌}
use Prim.Native.Nat.{◌≤◌}
use lib.ListN.{length, drop}
use Rattle.ruling.specs.Ruling.{mark_of}
use Rattle.ruling.proofs.marks.mark_of.Given as goal

abbrev pub invariant-loop-i : goal.invariant-loop-i
invariant-loop-i l = (length l.tags ≡ 16) × (length l.asked ≡ 16) × (l.i ≤ 16) × (l.mark ≡ mark_of (drop l.i l.tags) (drop l.i l.asked))
