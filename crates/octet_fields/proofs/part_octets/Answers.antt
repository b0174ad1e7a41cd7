-- `part_octets` meets its contract: one law for each way in which a part can lie in the bytes. Assumes nothing.
use native.Mathlib.Omega.{arith}
use lib.ListN.{length}
use Rattle.octet_fields.proofs.Asking.{moved}
use Rattle.octet_fields.proofs.PartOctets.{within_past, within_start}
use Rattle.octet_fields.proofs.part_octets.Goals as goal

pub returns-then-n-p-clause-place : goal.returns-then-n-p-clause-place
returns-then-n-p-clause-place c = moved c.args.s.ref_ptr (length c.args.s.now) _ _ (within_past c.args.p.start (length c.args.s.now) c.if-n-p.true) (omega arith)

pub returns-clause-place : goal.returns-clause-place
returns-clause-place c = moved c.args.s.ref_ptr c.args.p.start _ _ (within_start c.args.p.start (length c.args.s.now) c.if-n-p.false) (omega arith)
