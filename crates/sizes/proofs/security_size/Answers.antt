-- `security_size` meets its contract: the version and the level. Assumes nothing.
use Rattle.sizes.proofs.Sizing.{security_sized}
use Rattle.sizes.proofs.security_size.Goals as goal

pub returns : goal.returns
returns c = security_sized _ _ c.from.result c.from-2.result _ _ _ c.from.ensures c.from-2.ensures c.number_size.ensures.integer c.number_size-2.ensures.enumerated c.add.ensures
