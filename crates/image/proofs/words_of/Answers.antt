-- `words_of` meets its contract: the tests in their order. Assumes nothing.
use mathlib.Core.Path.{refl, ap}
use mathlib.Core.Bool.{not}
use Rattle.image.proofs.Imaging.{image-short, image_unfit, image-got}
use Rattle.image.proofs.words_of.Goals as goal

pub returns-then-image-lt-IMAGE_WORDS-clause-answer : goal.returns-then-image-lt-IMAGE_WORDS-clause-answer
returns-then-image-lt-IMAGE_WORDS-clause-answer c = image-short c.args.image.now c.if-image-lt-IMAGE_WORDS.true

pub returns-then-not-words_fit-clause-answer : goal.returns-then-not-words_fit-clause-answer
returns-then-not-words_fit-clause-answer c = image_unfit c.args.image.now c.if-image-lt-IMAGE_WORDS.false c.words_fit.ensures (ap not c.if-not-words_fit.true)

pub returns-clause-answer : goal.returns-clause-answer
returns-clause-answer c = image-got c.args.image.now c.if-image-lt-IMAGE_WORDS.false c.words_fit.ensures (ap not c.if-not-words_fit.false) refl
