-- `set_fits` meets its contract: the members that stand before the count. Assumes nothing.
use Rattle.image.proofs.Fits.{set-absent, set-there}
use Rattle.image.proofs.fit.set_fits.Goals as goal

pub returns-then-flag-ne-SET : goal.returns-then-flag-ne-SET
returns-then-flag-ne-SET c = set-absent c.args.flag c.args.words.now c.if-flag-ne-SET.true

pub returns-else-flag-ne-SET : goal.returns-else-flag-ne-SET
returns-else-flag-ne-SET c = set-there c.args.flag c.args.words.now c.if-flag-ne-SET.false c.requires c.min-slots.ensures c.all_at_most.ensures
