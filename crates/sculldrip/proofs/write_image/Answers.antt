-- `write_image` meets its contract: no record, or the write of the image's record. Assumes nothing.
use mathlib.Core.Path.{ap, ◌∙◌}
use Rattle.answer.specs.Answer.{got}
use Rattle.answer.proofs.Results.{handed_on}
use Rattle.sculldrip.proofs.Calls.{write_none, write_is}
use Rattle.sculldrip.proofs.write_image.Goals as goal

pub returns-in_err-words-clause-answer : goal.returns-in_err-words-clause-answer
returns-in_err-words-clause-answer c = rw (handed_on _ _ c.from_residual.ensures.1) (write_none c.args.image.now c.args.buffer.now c.args.output.now _ _ c.in_err-words.ensures.answer).0

pub returns-clause-answer : goal.returns-clause-answer
returns-clause-answer c = (write_is c.args.image.now c.args.buffer.now c.args.output.now _ (ap got c.record-r.ensures ∙ c.in_ok-words.ensures.answer) c.write.ensures.answer c.write.ensures.output).0
