-- `put_length` meets its contract: one store, or the count of octets and then those. Assumes nothing.
use mathlib.Core.Path.{refl}
use Rattle.der_write.proofs.Writes.{has_short, is_short, is_long}
use Rattle.der_write.proofs.put_length.Goals as goal

pub bounds-out-0 : goal.bounds-out-0
bounds-out-0 c = search has_short

pub returns-then-n-lt128 : goal.returns-then-n-lt128
returns-then-n-lt128 c = search is_short

pub returns : goal.returns
returns c = is_long c.args.out.now c.args.n c.requires c.length_size-k.result c.length_size-k.ensures.is c.if-n-lt128.false _ c.put_octets.new.out refl c.put_octets.ensures
