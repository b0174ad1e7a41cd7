-- `root_fits` meets its contract: the tests in their order. Assumes nothing.
use mathlib.Core.Path.{◌≡◌, refl, ◌∙◌}
use mathlib.Core.Bool.{◌&&◌}
use borrow.Author.Tests.{le-leb, lt-leb}
use Rattle.image.specs.Image.{flag_at, narrow_at}
use Rattle.image.proofs.Fits.{next_true, next_false, root-absent, root-there}
use Rattle.image.proofs.fit.root_fits.Goals as goal
use Rattle.image.proofs.fit.root_fits.Goals.{then-words-le-SET, else-words-le-SET}

pub returns-then-flag-ne-SET : goal.returns-then-flag-ne-SET
returns-then-flag-ne-SET c = root-absent c.args.flag c.args.words.now c.if-flag-ne-SET.true

pub returns-then-words-le-TOP32 : goal.returns-then-words-le-TOP32
returns-then-words-le-TOP32 c =
    let w = c.args.words.now in
    let both : c.if-words-le-SET.value ≡ flag_at w 2 && narrow_at w 3 =
    elim c.if-words-le-SET.branch [
      | then-words-le-SET b ↦ next_true refl (le-leb _ _ b.if-words-le-SET.true) b.value-is refl
      | else-words-le-SET b ↦ next_false (narrow_at w 3) refl (lt-leb _ _ b.if-words-le-SET.false) b.value-is
    ] in
    next_true both c.if-words-le-TOP32.true refl refl ∙ root-there c.args.flag w c.if-flag-ne-SET.false

pub returns-else-words-le-TOP32 : goal.returns-else-words-le-TOP32
returns-else-words-le-TOP32 c =
    let w = c.args.words.now in
    let both : c.if-words-le-SET.value ≡ flag_at w 2 && narrow_at w 3 =
    elim c.if-words-le-SET.branch [
      | then-words-le-SET b ↦ next_true refl (le-leb _ _ b.if-words-le-SET.true) b.value-is refl
      | else-words-le-SET b ↦ next_false (narrow_at w 3) refl (lt-leb _ _ b.if-words-le-SET.false) b.value-is
    ] in
    next_false (flag_at w 4) both c.if-words-le-TOP32.false refl ∙ root-there c.args.flag w c.if-flag-ne-SET.false
