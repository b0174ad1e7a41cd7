-- `Text::field` meets its contract: its four pieces, with the number and the kind that the table's row has. Assumes nothing.
use Rattle.listing.proofs.Writes.{field_put}
use Rattle.listing.proofs.Text.field.Goals as goal

pub returns : goal.returns
returns c = search field_put
