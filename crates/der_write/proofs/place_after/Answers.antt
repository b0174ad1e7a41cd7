-- `place_after` meets its contract: the sum that does not wrap is held against the length. Assumes nothing.
use native.Mathlib.Omega.{arith}
use Rattle.der_write.proofs.Writes.{place_fits, place_past}
use Rattle.der_write.proofs.place_after.Goals as goal

pub returns-in-Some : goal.returns-in-Some
returns-in-Some c = place_fits c.args.out.now c.args.at c.args.n c.in-Some.end c.in-Some.ensures.1 c.if-end-out.true

pub returns-in_default : goal.returns-in_default
returns-in_default c = place_past c.args.out.now c.args.at c.args.n (omega (arith, c.in-Some.ensures))

pub returns-in_default-2 : goal.returns-in_default-2
returns-in_default-2 c = place_past c.args.out.now c.args.at c.args.n (omega (arith, c.in_default.ensures))
