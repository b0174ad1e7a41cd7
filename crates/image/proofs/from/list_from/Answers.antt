-- `list_from` meets its contract, part by part. Assumes nothing.
use native.Mathlib.Omega.{arith}
use borrow.Author.Rules.{rules}
use Rattle.image.specs.Image.{is_set, set_from, root_from_words}
use Rattle.image.proofs.Fits.{from-drop}
use Rattle.image.proofs.Made.{mapped_made, numbers_made}
use Rattle.image.proofs.Parts.{list_made_lem}
use Rattle.image.proofs.from.list_from.Goals as goal

pub returns : goal.returns
returns c =
    let w = c.args.words.now in
    list_made_lem w
    (mapped_made _ _ is_set w 42 (omega (arith, c.requires)) (λ i y q k. search rules) c.from_fn.ensures.items)
    (numbers_made _ _ w 42 42 (omega (arith, c.requires)) (λ i y q k. search rules) c.from_fn-2.ensures.items)
    (numbers_made _ _ w 84 42 (omega (arith, c.requires)) (λ i y q k. search rules) c.from_fn-3.ensures.items)
    (from-drop set_from w 126 c.set_from.ensures)
    (from-drop set_from w 143 c.set_from-2.ensures)
    (from-drop set_from w 160 c.set_from-3.ensures)
    (from-drop set_from w 177 c.set_from-4.ensures)
    (from-drop root_from_words w 194 c.root_from.ensures)
