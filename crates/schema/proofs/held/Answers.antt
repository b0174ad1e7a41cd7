-- `schema::held` meets its contract: the two tests are those of `held_in`. Assumes nothing.
use mathlib.Core.Path.{◌∙◌}
use borrow.Author.Tests.{lt-leb}
use Rattle.schema.specs.Rows.{of_row}
use Rattle.schema.proofs.Table.{not_yet, still}
use Rattle.schema.proofs.held.Goals as goal

pub returns-then-r-version : goal.returns-then-r-version
returns-then-r-version c = still c.args.version (of_row c.args.r) c.if-r-version.true

pub returns-else-r-version : goal.returns-else-r-version
returns-else-r-version c = lt-leb _ _ c.if-r-version.false ∙ not_yet c.args.version (of_row c.args.r) c.if-r-version.false
