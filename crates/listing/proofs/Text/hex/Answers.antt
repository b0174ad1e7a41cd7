-- `Text::hex` meets its contract: `put_hex` goes on from the text's place. Assumes nothing.
use mathlib.Core.Path.{refl}
use Rattle.listing.proofs.Writes.{hex_put}
use Rattle.listing.proofs.Text.hex.Goals as goal

pub returns : goal.returns
returns c = hex_put c.args.s.now refl c.put_hex-self.ensures.is c.put_hex-self.ensures.few
