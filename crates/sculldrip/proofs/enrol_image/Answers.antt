-- `enrol_image` meets its contract: no record, or the ruling of the image's record. Assumes nothing.
use mathlib.Core.Path.{ap, ◌∙◌}
use Rattle.answer.specs.Answer.{got}
use Rattle.answer.proofs.Results.{handed_on}
use Rattle.sculldrip.proofs.Calls.{enrol_none, enrol_is}
use Rattle.sculldrip.proofs.enrol_image.Goals as goal

pub returns-in_err-words : goal.returns-in_err-words
returns-in_err-words c = rw (handed_on _ _ c.from_residual.ensures.1) (enrol_none c.args.image.now c.args.buffer.now c.args.expected.now _ _ c.in_err-words.ensures.answer)

pub returns-in_err-enrol : goal.returns-in_err-enrol
returns-in_err-enrol c = rw (handed_on _ _ c.from_residual-in_err-enrol.ensures.1) (enrol_is c.args.image.now c.args.buffer.now c.args.expected.now _ (ap got c.record-r.ensures ∙ c.in_ok-words.ensures.answer) _ c.in_err-enrol.ensures)

pub returns : goal.returns
returns c = enrol_is c.args.image.now c.args.buffer.now c.args.expected.now _ (ap got c.record-r.ensures ∙ c.in_ok-words.ensures.answer) _ c.in_ok-enrol.ensures
