-- `ask_image` meets its contract: the tests in their order, then what is asked of the image's record. Assumes nothing.
use mathlib.Core.Path.{refl, ap, ◌∙◌}
use Rattle.answer.specs.Answer.{got}
use Rattle.answer.proofs.Results.{handed_on}
use Rattle.sculldrip.specs.Calls.{asked, part_words}
use Rattle.sculldrip.proofs.Calls.{answered, ask_no_part, ask_none, ask_is, part_stored, no_part}
use Rattle.sculldrip.proofs.ask_image.Goals as goal

pub returns-then-part-lt2-clause-answer : goal.returns-then-part-lt2-clause-answer
returns-then-part-lt2-clause-answer c = (answered asked part_words c.args.part.now (ask_no_part c.args.image.now c.args.hardware c.args.number c.args.size c.args.part.now c.if-part-lt2.true) refl).0

pub returns-then-part-lt2-clause-output : goal.returns-then-part-lt2-clause-output
returns-then-part-lt2-clause-output c = (answered asked part_words c.args.part.now (ask_no_part c.args.image.now c.args.hardware c.args.number c.args.size c.args.part.now c.if-part-lt2.true) refl).1

pub returns-in_err-words-clause-answer : goal.returns-in_err-words-clause-answer
returns-in_err-words-clause-answer c = rw (handed_on _ _ c.from_residual.ensures.1) (answered asked part_words c.args.part.now (ask_none c.args.image.now c.args.hardware c.args.number c.args.size c.args.part.now c.if-part-lt2.false _ _ c.in_err-words.ensures.answer) refl).0

pub returns-in_err-words-clause-output : goal.returns-in_err-words-clause-output
returns-in_err-words-clause-output c = (answered asked part_words c.args.part.now (ask_none c.args.image.now c.args.hardware c.args.number c.args.size c.args.part.now c.if-part-lt2.false _ _ c.in_err-words.ensures.answer) refl).1

pub returns-in_err-asked-clause-answer : goal.returns-in_err-asked-clause-answer
returns-in_err-asked-clause-answer c = rw (handed_on _ _ c.from_residual-in_err-asked.ensures.1) (answered asked part_words c.args.part.now (ask_is c.args.image.now c.args.hardware c.args.number c.args.size c.args.part.now c.if-part-lt2.false _ (ap got c.record-r.ensures ∙ c.in_ok-words.ensures.answer) c.in_err-asked.ensures) refl).0

pub returns-in_err-asked-clause-output : goal.returns-in_err-asked-clause-output
returns-in_err-asked-clause-output c = (answered asked part_words c.args.part.now (ask_is c.args.image.now c.args.hardware c.args.number c.args.size c.args.part.now c.if-part-lt2.false _ (ap got c.record-r.ensures ∙ c.in_ok-words.ensures.answer) c.in_err-asked.ensures) refl).1

pub returns-in-None-clause-answer : goal.returns-in-None-clause-answer
returns-in-None-clause-answer c = (answered asked part_words c.args.part.now (ask_is c.args.image.now c.args.hardware c.args.number c.args.size c.args.part.now c.if-part-lt2.false _ (ap got c.record-r.ensures ∙ c.in_ok-words.ensures.answer) (rw c.in-None.is at c.in_ok-asked.ensures)) (no_part c.args.part.now)).0

pub returns-in-None-clause-output : goal.returns-in-None-clause-output
returns-in-None-clause-output c = (answered asked part_words c.args.part.now (ask_is c.args.image.now c.args.hardware c.args.number c.args.size c.args.part.now c.if-part-lt2.false _ (ap got c.record-r.ensures ∙ c.in_ok-words.ensures.answer) (rw c.in-None.is at c.in_ok-asked.ensures)) (no_part c.args.part.now)).1

pub returns-in-Some-clause-answer : goal.returns-in-Some-clause-answer
returns-in-Some-clause-answer c = (answered asked part_words c.args.part.now (ask_is c.args.image.now c.args.hardware c.args.number c.args.size c.args.part.now c.if-part-lt2.false _ (ap got c.record-r.ensures ∙ c.in_ok-words.ensures.answer) (rw c.in-Some.is at c.in_ok-asked.ensures)) (part_stored c.args.part.now _ _ c.if-part-lt2.false)).0

pub returns-in-Some-clause-output : goal.returns-in-Some-clause-output
returns-in-Some-clause-output c = (answered asked part_words c.args.part.now (ask_is c.args.image.now c.args.hardware c.args.number c.args.size c.args.part.now c.if-part-lt2.false _ (ap got c.record-r.ensures ∙ c.in_ok-words.ensures.answer) (rw c.in-Some.is at c.in_ok-asked.ensures)) (part_stored c.args.part.now _ _ c.if-part-lt2.false)).1
