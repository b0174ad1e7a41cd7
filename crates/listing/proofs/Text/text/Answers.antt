-- `Text::text` meets its contract. The invariant: the octets of the text before this one are put. Assumes nothing.
use Rattle.listing.proofs.Writes.{text-start, text_more}
use Rattle.listing.proofs.Text.text.Goals as goal

pub loop-b-init : goal.loop-b-init
loop-b-init c = search text-start

pub loop-b-preserved : goal.loop-b-preserved
loop-b-preserved c = search text_more
