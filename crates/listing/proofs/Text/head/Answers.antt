-- `Text::head` meets its contract: its four lines are put one after the other. Assumes nothing.
use Rattle.listing.proofs.Writes.{head-put}
use Rattle.listing.proofs.Text.head.Goals as goal

pub returns : goal.returns
returns c =
    let e₁ = rw (c.from.ensures, c.from-2.ensures) at c.numbers.ensures in
    let e₂ = rw (c.from-3.ensures, c.from-4.ensures) at c.numbers-2.ensures in
    let e₃ = c.octets.ensures in
    let e₄ = c.octets-2.ensures in
    search head-put
