-- `Text::more` meets its contract. The invariant: what stands before this one is put.
use Prim.Native.Nat.{◌*◌}
use lib.ListN.{take}
use Rattle.listing.specs.Text.{more_numbers}
use Rattle.listing.specs.Put.{Puts}
use Rattle.listing.proofs.Text.more.Given as goal

abbrev pub invariant-loop-n : goal.invariant-loop-n
invariant-loop-n l = Puts l.initial.self (more_numbers (take l.n-index l.numbers)) (21 * l.n-index) l.self
