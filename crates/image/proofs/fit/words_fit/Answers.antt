-- `words_fit` meets its contract: the tests in their order. Assumes nothing.
use mathlib.Core.Path.{◌≡◌, refl, ◌∙◌}
use mathlib.Core.Bool.{◌&&◌}
use native.Mathlib.Omega.{arith}
use lib.ListN.{drop}
use Rattle.schema.specs.Table.{top32}
use Rattle.records.specs.Rows.{all_below}
use Rattle.image.specs.Image.{narrow_at, list_fits}
use Rattle.image.proofs.Fits.{front_at_most, from-drop, next_true, next_false, words_whole}
use Rattle.image.proofs.fit.words_fit.Goals as goal
use Rattle.image.proofs.fit.words_fit.Goals.{then-all_at_most, else-all_at_most}

pub returns-then-list_fits : goal.returns-then-list_fits
returns-then-list_fits c =
    let w = c.args.image.now in
    let head : c.all_at_most.result ≡ all_below (narrow_at w) 4 = c.all_at_most.ensures ∙ front_at_most w top32 4 (omega (arith, c.requires)) in
    let software : c.if-all_at_most.value ≡ all_below (narrow_at w) 4 && list_fits (drop 8 w) =
    elim c.if-all_at_most.branch [
      | then-all_at_most b ↦ next_true head b.if-all_at_most.true b.value-is (from-drop list_fits w 8 b.list_fits.ensures)
      | else-all_at_most b ↦ next_false _ head b.if-all_at_most.false b.value-is
    ] in
    next_true software c.if-list_fits.true refl (from-drop list_fits w 209 c.list_fits-then-list_fits.ensures) ∙ words_whole w

pub returns-else-list_fits : goal.returns-else-list_fits
returns-else-list_fits c =
    let w = c.args.image.now in
    let head : c.all_at_most.result ≡ all_below (narrow_at w) 4 = c.all_at_most.ensures ∙ front_at_most w top32 4 (omega (arith, c.requires)) in
    let software : c.if-all_at_most.value ≡ all_below (narrow_at w) 4 && list_fits (drop 8 w) =
    elim c.if-all_at_most.branch [
      | then-all_at_most b ↦ next_true head b.if-all_at_most.true b.value-is (from-drop list_fits w 8 b.list_fits.ensures)
      | else-all_at_most b ↦ next_false _ head b.if-all_at_most.false b.value-is
    ] in
    next_false (list_fits (drop 209 w)) software c.if-list_fits.false refl ∙ words_whole w
