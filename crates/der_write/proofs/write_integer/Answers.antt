-- `write_integer` meets its contract: stores, or two of them and the octets of the number. Assumes nothing.
use mathlib.Core.Path.{refl}
use Rattle.der_write.proofs.Writes.{one_fits, two_fits, is_integer_one, is_integer_two, is_integer}
use Rattle.der_write.proofs.write_integer.Goals as goal

pub overflow_cast-out-then-n-eq1 : goal.overflow_cast-out-then-n-eq1
overflow_cast-out-then-n-eq1 c = one_fits c.args.out.now 0 c.args.x c.args.n c.ranges.x c.requires.0 c.if-n-eq1.true

pub returns-then-n-eq1 : goal.returns-then-n-eq1
returns-then-n-eq1 c = search is_integer_one

pub overflow_cast-out-then-n-eq2 : goal.overflow_cast-out-then-n-eq2
overflow_cast-out-then-n-eq2 c = two_fits c.args.out.now 0 c.args.x c.args.n c.ranges.x c.requires.0 c.if-n-eq2.true

pub returns-then-n-eq2 : goal.returns-then-n-eq2
returns-then-n-eq2 c = search is_integer_two

pub returns : goal.returns
returns c = is_integer c.args.out.now c.args.x c.args.n c.ranges.x c.requires.0 c.requires.2 _ c.put_octets.new.out refl c.put_octets.ensures
