-- `list_fits` meets its contract: the tests in their order. Assumes nothing.
use mathlib.Core.Path.{◌≡◌, refl, sym, ◌∙◌}
use lib.Seq.{length-take-le}
use native.Mathlib.Omega.{arith}
use lib.ListN.{get_or, drop}
use Rattle.image.specs.Image.{set_fits, root_fits}
use Rattle.image.proofs.Fits.{front_at_most, from-drop, next_true, next_false, flags-fit, purpose-fits, digest-fits, padding-fits, mgf-fits, list_whole}
use Rattle.image.proofs.fit.list_fits.Goals as goal
use Rattle.image.proofs.fit.list_fits.Goals.{then-all_at_most, else-all_at_most, then-set_fits, else-set_fits, then-set_fits-2, else-set_fits-2, then-set_fits-3, else-set_fits-3}

pub slice_bounds-all_at_most-end : goal.slice_bounds-all_at_most-end
slice_bounds-all_at_most-end c = sym (length-take-le 42 c.args.words.now (omega (arith, c.requires)))

pub returns-then-set_fits-4 : goal.returns-then-set_fits-4
returns-then-set_fits-4 c =
    let w = c.args.words.now in
    let flags : c.all_at_most.result ≡ flags-fit w = c.all_at_most.ensures ∙ front_at_most w 1 42 (omega (arith, c.requires)) in
    let purpose : c.if-all_at_most.value ≡ purpose-fits w =
    elim c.if-all_at_most.branch [
      | then-all_at_most b ↦ next_true flags b.if-all_at_most.true b.value-is (from-drop (set_fits (get_or w 0 0)) w 126 b.set_fits.ensures)
      | else-all_at_most b ↦ next_false _ flags b.if-all_at_most.false b.value-is
    ] in
    let digest : c.if-set_fits.value ≡ digest-fits w =
    elim c.if-set_fits.branch [
      | then-set_fits b ↦ next_true purpose b.if-set_fits.true b.value-is (from-drop (set_fits (get_or w 3 0)) w 143 b.set_fits-then-set_fits.ensures)
      | else-set_fits b ↦ next_false _ purpose b.if-set_fits.false b.value-is
    ] in
    let padding : c.if-set_fits-2.value ≡ padding-fits w =
    elim c.if-set_fits-2.branch [
      | then-set_fits-2 b ↦ next_true digest b.if-set_fits-2.true b.value-is (from-drop (set_fits (get_or w 4 0)) w 160 b.set_fits-then-set_fits-2.ensures)
      | else-set_fits-2 b ↦ next_false _ digest b.if-set_fits-2.false b.value-is
    ] in
    let mgf : c.if-set_fits-3.value ≡ mgf-fits w =
    elim c.if-set_fits-3.branch [
      | then-set_fits-3 b ↦ next_true padding b.if-set_fits-3.true b.value-is (from-drop (set_fits (get_or w 7 0)) w 177 b.set_fits-then-set_fits-3.ensures)
      | else-set_fits-3 b ↦ next_false _ padding b.if-set_fits-3.false b.value-is
    ] in
    next_true mgf c.if-set_fits-4.true refl (from-drop (root_fits (get_or w 26 0)) w 194 c.root_fits.ensures) ∙ list_whole w

pub returns-else-set_fits-4 : goal.returns-else-set_fits-4
returns-else-set_fits-4 c =
    let w = c.args.words.now in
    let flags : c.all_at_most.result ≡ flags-fit w = c.all_at_most.ensures ∙ front_at_most w 1 42 (omega (arith, c.requires)) in
    let purpose : c.if-all_at_most.value ≡ purpose-fits w =
    elim c.if-all_at_most.branch [
      | then-all_at_most b ↦ next_true flags b.if-all_at_most.true b.value-is (from-drop (set_fits (get_or w 0 0)) w 126 b.set_fits.ensures)
      | else-all_at_most b ↦ next_false _ flags b.if-all_at_most.false b.value-is
    ] in
    let digest : c.if-set_fits.value ≡ digest-fits w =
    elim c.if-set_fits.branch [
      | then-set_fits b ↦ next_true purpose b.if-set_fits.true b.value-is (from-drop (set_fits (get_or w 3 0)) w 143 b.set_fits-then-set_fits.ensures)
      | else-set_fits b ↦ next_false _ purpose b.if-set_fits.false b.value-is
    ] in
    let padding : c.if-set_fits-2.value ≡ padding-fits w =
    elim c.if-set_fits-2.branch [
      | then-set_fits-2 b ↦ next_true digest b.if-set_fits-2.true b.value-is (from-drop (set_fits (get_or w 4 0)) w 160 b.set_fits-then-set_fits-2.ensures)
      | else-set_fits-2 b ↦ next_false _ digest b.if-set_fits-2.false b.value-is
    ] in
    let mgf : c.if-set_fits-3.value ≡ mgf-fits w =
    elim c.if-set_fits-3.branch [
      | then-set_fits-3 b ↦ next_true padding b.if-set_fits-3.true b.value-is (from-drop (set_fits (get_or w 7 0)) w 177 b.set_fits-then-set_fits-3.ensures)
      | else-set_fits-3 b ↦ next_false _ padding b.if-set_fits-3.false b.value-is
    ] in
    next_false (root_fits (get_or w 26 0) (drop 194 w)) mgf c.if-set_fits-4.false refl ∙ list_whole w
