-- `list_whole` meets its contract: the text has the room that any bytes ask for. Assumes nothing.
use Rattle.std.proofs.Common.{rules}
use Rattle.list_extension.proofs.Whole.{shown-whole, never_short}
use Rattle.list_extension.proofs.list_whole.Goals as goal

pub returns-in-Ok-clause-answer : goal.returns-in-Ok-clause-answer
returns-in-Ok-clause-answer c = (shown-whole c.args.s.now c.args.text.now (search rules) c.list_bytes.ensures.answer c.in-Ok.is c.list_bytes.ensures.output).0

pub returns-in-Ok-clause-inside : goal.returns-in-Ok-clause-inside
returns-in-Ok-clause-inside c = (shown-whole c.args.s.now c.args.text.now (search rules) c.list_bytes.ensures.answer c.in-Ok.is c.list_bytes.ensures.output).1.1

pub returns-in-Err-clause-answer : goal.returns-in-Err-clause-answer
returns-in-Err-clause-answer c = absurd (never_short c.args.s.now c.args.text.now (search rules) c.list_bytes.ensures.answer c.in-Err.is)

pub returns-in-Err-clause-output : goal.returns-in-Err-clause-output
returns-in-Err-clause-output c = absurd (never_short c.args.s.now c.args.text.now (search rules) c.list_bytes.ensures.answer c.in-Err.is)
