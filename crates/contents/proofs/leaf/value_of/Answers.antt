-- `value_of` meets its contract: the shortest form, the sign bit and the top, one after the other. Assumes nothing.
use Rattle.std.proofs.Common.{rules}
use native.Mathlib.Omega.{arith}
use Prim.Native.Nat.{◌-◌}
use lib.ListN.{length, drop, length-drop}
use lib.Seq.{take_all}
use Rattle.contents.proofs.Spelled.{content_none, content_high, content_one_over, content_one, content_long, content_zero, content_more}
use Rattle.contents.proofs.leaf.value_of.Goals as goal

pub returns-in_err-a : goal.returns-in_err-a
returns-in_err-a c = rw c.from_residual.ensures (content_none _ _ (search rules))

pub returns-then-a-ge128 : goal.returns-then-a-ge128
returns-then-a-ge128 c = search (rules, content_high)

pub returns-then-top-from : goal.returns-then-top-from
returns-then-top-from c = search (rules, content_one_over)

pub returns-then-octets-eq1 : goal.returns-then-octets-eq1
returns-then-octets-eq1 c = search (rules, content_one)

pub returns-then-octets-lt128 : goal.returns-then-octets-lt128
returns-then-octets-lt128 c = search (rules, content_long)

pub returns-then-a-eq0 : goal.returns-then-a-eq0
returns-then-a-eq0 c = content_zero _ _ _ (search rules) (search rules) (search rules) (search rules) (rw (take_all (length c.args.octets.now - 1) (drop 1 c.args.octets.now) (omega (arith, length-drop 1 c.args.octets.now))) at c.within_top.ensures)

pub returns : goal.returns
returns c = search (rules, content_more)
