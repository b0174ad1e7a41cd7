-- `set_from` meets its contract: the 16 slots, and the count after them. Assumes nothing.
use native.Mathlib.Omega.{arith}
use borrow.Author.Rules.{rules}
use Rattle.image.specs.Image.{low}
use Rattle.image.proofs.Made.{mapped_made}
use Rattle.image.proofs.Parts.{set-made}
use Rattle.image.proofs.from.set_from.Goals as goal

pub returns : goal.returns
returns c = set-made _ (mapped_made _ _ low c.args.words.now 16 (omega (arith, c.requires)) (λ i y q k. search rules) c.from_fn.ensures.items)
