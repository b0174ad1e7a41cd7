-- `ruling::marks::joined` meets its contract: the shift loses nothing, and the low bit is free. Assumes nothing.
use Rattle.ruling.proofs.Bits.{bit-joined}
use Rattle.ruling.proofs.marks.joined.Goals as goal

pub returns : goal.returns
returns c = rw (c.from.ensures) (bit-joined c.args.mark c.requires c.args.lower)
