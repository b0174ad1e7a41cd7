-- `root_content_size` meets its contract: key, locked and state, and the hash where there is one. Assumes nothing.
use Rattle.sizes.proofs.Sizing.{root-hashed, root_plain}
use Rattle.sizes.proofs.root_content_size.Goals as goal

pub returns-then-t : goal.returns-then-t
returns-then-t c = root-hashed c.args.s.now c.args.t _ _ c.from.result _ _ c.from.ensures c.part_size-key.ensures c.add-locked.ensures c.number_size.ensures.enumerated c.add-fixed.ensures _ _ c.if-t.true c.part_size.ensures c.add.ensures

pub returns : goal.returns
returns c = root_plain c.args.s.now c.args.t _ _ c.from.result _ _ c.from.ensures c.part_size-key.ensures c.add-locked.ensures c.number_size.ensures.enumerated c.add-fixed.ensures c.if-t.false
