-- `schema::version::level_top` meets its contract. Assumes nothing.
use Rattle.schema.proofs.Versions.{top_one, top_two}
use Rattle.schema.proofs.version.level_top.Goals as goal

pub returns-then-version-ge3 : goal.returns-then-version-ge3
returns-then-version-ge3 c = search top_two

pub returns-else-version-ge3 : goal.returns-else-version-ge3
returns-else-version-ge3 c = search top_one
