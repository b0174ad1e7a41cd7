-- `schema::row_at` meets its contract: the last arm lies past the table; the check finds each other from the table. Assumes nothing.
use Rattle.schema.proofs.Table.{past_table}
use Rattle.schema.proofs.row_at.Goals as goal

pub returns-in_default : goal.returns-in_default
returns-in_default c = rw c.make-in_default.ensures (past_table _ c.in_default.in_default-own.rest)
