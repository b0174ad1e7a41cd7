-- `Text::text` meets its contract. The invariant: what stands before this one is put.
use lib.ListN.{take}
use Rattle.listing.specs.Put.{Puts}
use Rattle.listing.proofs.Text.text.Given as goal

abbrev pub invariant-loop-b : goal.invariant-loop-b
invariant-loop-b l = Puts l.initial.self (take l.b-index l.text) l.b-index l.self
