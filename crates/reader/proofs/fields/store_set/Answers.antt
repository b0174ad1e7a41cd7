-- `store_set` meets its contract: by the row of each set. Assumes nothing.
use Rattle.reader.proofs.Filling.{set_0, set_3, set_4, set_7}
use Rattle.reader.proofs.fields.store_set.Goals as goal

pub returns-in-0 : goal.returns-in-0
returns-in-0 c = set_0 _ _ c.requires.0 c.in-0.is _

pub returns-in-3 : goal.returns-in-3
returns-in-3 c = set_3 _ _ c.requires.0 c.in-3.is _

pub returns-in-4 : goal.returns-in-4
returns-in-4 c = set_4 _ _ c.requires.0 c.in-4.is _

pub returns-in_default : goal.returns-in_default
returns-in_default c = search set_7
