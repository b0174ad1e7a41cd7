-- What was read is listed: the answers of the reader and of the listing, put together.
use mathlib.Core.Path.{refl}
use Rattle.answer.specs.Answer.{refused}
use Rattle.answer.specs.Refusal.{number_of}
use Rattle.records.specs.Empty.{empty_record}
use Rattle.extension_text.proofs.Said.{said-is, accepted-lists, accepted-leaves, refused-lists, refused-leaves}
use Rattle.extension_text.proofs.list_bytes.Goals as goal

pub returns-in-Ok-clause-answer : goal.returns-in-Ok-clause-answer
returns-in-Ok-clause-answer c = accepted-lists c.args.s.now c.args.out.now _ _ (said-is _ c.type_inv.s _ _ c.in-Ok.ensures) refl c.list_record.ensures.answer

pub returns-in-Ok-clause-output : goal.returns-in-Ok-clause-output
returns-in-Ok-clause-output c = accepted-leaves c.args.s.now c.args.out.now _ _ (said-is _ c.type_inv.s _ _ c.in-Ok.ensures) refl c.list_record.ensures.output

pub returns-in-Err-clause-answer : goal.returns-in-Err-clause-answer
returns-in-Err-clause-answer c = refused-lists c.args.s.now c.args.out.now (refused (number_of c.in-Err.field-0.0) c.in-Err.field-0.1) empty_record (said-is _ c.type_inv.s _ _ c.in-Err.ensures) refl (rw c.number.ensures at c.list_refusal.ensures.answer)

pub returns-in-Err-clause-output : goal.returns-in-Err-clause-output
returns-in-Err-clause-output c = refused-leaves c.args.s.now c.args.out.now (refused (number_of c.in-Err.field-0.0) c.in-Err.field-0.1) empty_record (said-is _ c.type_inv.s _ _ c.in-Err.ensures) refl (rw c.number.ensures at c.list_refusal.ensures.output)
