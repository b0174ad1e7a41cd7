-- `shape::row_plain` meets its contract: a row that is present, by its version and its kind. Assumes nothing.
use mathlib.Core.Path.{refl, ◌∙◌}
use Rattle.shape.proofs.Shapes.{next_true, next_false, row-absent, row-there}
use Rattle.shape.proofs.row_plain.Goals as goal

pub returns-then-not-l-k : goal.returns-then-not-l-k
returns-then-not-l-k c = row-absent _ _ _ c.if-not-l-k.true

pub returns-then-held : goal.returns-then-held
returns-then-held c = next_true c.held.ensures c.if-held.true refl c.plain_shaped.ensures ∙ row-there _ _ _ c.if-not-l-k.false c.row_at-row.result c.row_at-row.ensures

pub returns-else-held : goal.returns-else-held
returns-else-held c = next_false _ c.held.ensures c.if-held.false refl ∙ row-there _ _ _ c.if-not-l-k.false c.row_at-row.result c.row_at-row.ensures
