-- `rule_image` meets its contract: the tests in their order, then the ruling of the image's record. Assumes nothing.
use mathlib.Core.Path.{refl, ap, ◌∙◌}
use Rattle.answer.specs.Answer.{got}
use Rattle.answer.proofs.Results.{handed_on}
use Rattle.sculldrip.specs.Calls.{permit_words}
use Rattle.sculldrip.proofs.Calls.{answered, rule_no_request, rule_no_permit, rule_none, rule_is, permit_stored}
use Rattle.sculldrip.proofs.rule_image.Goals as goal

pub returns-then-request-lt16-clause-answer : goal.returns-then-request-lt16-clause-answer
returns-then-request-lt16-clause-answer c = (answered (λ p. 0) permit_words c.args.permit.now (rule_no_request c.args.image.now c.args.request.now c.args.permit.now c.if-request-lt16.true) refl).0

pub returns-then-request-lt16-clause-output : goal.returns-then-request-lt16-clause-output
returns-then-request-lt16-clause-output c = (answered (λ p. 0) permit_words c.args.permit.now (rule_no_request c.args.image.now c.args.request.now c.args.permit.now c.if-request-lt16.true) refl).1

pub returns-then-permit-lt4-clause-answer : goal.returns-then-permit-lt4-clause-answer
returns-then-permit-lt4-clause-answer c = (answered (λ p. 0) permit_words c.args.permit.now (rule_no_permit c.args.image.now c.args.request.now c.args.permit.now c.if-request-lt16.false c.if-permit-lt4.true) refl).0

pub returns-then-permit-lt4-clause-output : goal.returns-then-permit-lt4-clause-output
returns-then-permit-lt4-clause-output c = (answered (λ p. 0) permit_words c.args.permit.now (rule_no_permit c.args.image.now c.args.request.now c.args.permit.now c.if-request-lt16.false c.if-permit-lt4.true) refl).1

pub returns-in_err-words-clause-answer : goal.returns-in_err-words-clause-answer
returns-in_err-words-clause-answer c = rw (handed_on _ _ c.from_residual.ensures.1) (answered (λ p. 0) permit_words c.args.permit.now (rule_none c.args.image.now c.args.request.now c.args.permit.now c.if-request-lt16.false c.if-permit-lt4.false _ _ c.in_err-words.ensures.answer) refl).0

pub returns-in_err-words-clause-output : goal.returns-in_err-words-clause-output
returns-in_err-words-clause-output c = (answered (λ p. 0) permit_words c.args.permit.now (rule_none c.args.image.now c.args.request.now c.args.permit.now c.if-request-lt16.false c.if-permit-lt4.false _ _ c.in_err-words.ensures.answer) refl).1

pub returns-in_err-ruled-clause-answer : goal.returns-in_err-ruled-clause-answer
returns-in_err-ruled-clause-answer c = rw (handed_on _ _ c.from_residual-in_err-ruled.ensures.1) (answered (λ p. 0) permit_words c.args.permit.now (rule_is c.args.image.now c.args.request.now c.args.permit.now c.if-request-lt16.false c.if-permit-lt4.false _ (ap got c.record-r.ensures ∙ c.in_ok-words.ensures.answer) c.request_of.ensures c.in_err-ruled.ensures) refl).0

pub returns-in_err-ruled-clause-output : goal.returns-in_err-ruled-clause-output
returns-in_err-ruled-clause-output c = (answered (λ p. 0) permit_words c.args.permit.now (rule_is c.args.image.now c.args.request.now c.args.permit.now c.if-request-lt16.false c.if-permit-lt4.false _ (ap got c.record-r.ensures ∙ c.in_ok-words.ensures.answer) c.request_of.ensures c.in_err-ruled.ensures) refl).1

pub returns-clause-answer : goal.returns-clause-answer
returns-clause-answer c = (answered (λ p. 0) permit_words c.args.permit.now (rule_is c.args.image.now c.args.request.now c.args.permit.now c.if-request-lt16.false c.if-permit-lt4.false _ (ap got c.record-r.ensures ∙ c.in_ok-words.ensures.answer) c.request_of.ensures c.in_ok-ruled.ensures) (permit_stored c.args.permit.now _ _ _ _ c.if-permit-lt4.false)).0

pub returns-clause-output : goal.returns-clause-output
returns-clause-output c = rw (c.from.ensures, c.from-2.ensures, c.from-3.ensures, c.from-4.ensures) (answered (λ p. 0) permit_words c.args.permit.now (rule_is c.args.image.now c.args.request.now c.args.permit.now c.if-request-lt16.false c.if-permit-lt4.false _ (ap got c.record-r.ensures ∙ c.in_ok-words.ensures.answer) c.request_of.ensures c.in_ok-ruled.ensures) (permit_stored c.args.permit.now _ _ _ _ c.if-permit-lt4.false)).1
