-- `put_hex` meets its contract. The invariant: the digits of the octets before this one are put.
use Prim.Native.Nat.{◌*◌}
use lib.ListN.{take}
use Rattle.listing.specs.Text.{hex_text}
use Rattle.listing.specs.Put.{Puts}
use Rattle.listing.proofs.put_hex.Given as goal

abbrev pub invariant-loop-b : goal.invariant-loop-b
invariant-loop-b l = Puts l.initial.text (hex_text (take l.b-index l.s)) (2 * l.b-index) l.text
