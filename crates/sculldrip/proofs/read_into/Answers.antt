-- `read_into` meets its contract: the answer is the reader's, and the image that of its record. Assumes nothing.
use Rattle.answer.proofs.Results.{handed_on}
use Rattle.sculldrip.proofs.ImageRead.{read_short, read-refused, read_filled}
use Rattle.sculldrip.proofs.read_into.Goals as goal

pub returns-then-image-lt410-clause-answer : goal.returns-then-image-lt410-clause-answer
returns-then-image-lt410-clause-answer c = (read_short c.args.extension.now c.args.image.now c.if-image-lt410.true).0

pub returns-then-image-lt410-clause-output : goal.returns-then-image-lt410-clause-output
returns-then-image-lt410-clause-output c = (read_short c.args.extension.now c.args.image.now c.if-image-lt410.true).1

pub returns-in_err-reading-clause-answer : goal.returns-in_err-reading-clause-answer
returns-in_err-reading-clause-answer c = rw (handed_on _ _ c.from_residual.ensures.1) (read-refused c.args.extension.now c.args.image.now c.if-image-lt410.false c.type_inv.extension _ _ _ c.in_err-reading.ensures).0

pub returns-in_err-reading-clause-output : goal.returns-in_err-reading-clause-output
returns-in_err-reading-clause-output c = (read-refused c.args.extension.now c.args.image.now c.if-image-lt410.false c.type_inv.extension _ _ _ c.in_err-reading.ensures).1

pub returns-clause-answer : goal.returns-clause-answer
returns-clause-answer c = (read_filled c.args.extension.now c.args.image.now c.if-image-lt410.false c.type_inv.extension _ _ c.in_ok-reading.ensures c.put_image.ensures.is c.put_image.ensures.whole).0

pub returns-clause-output : goal.returns-clause-output
returns-clause-output c = (read_filled c.args.extension.now c.args.image.now c.if-image-lt410.false c.type_inv.extension _ _ c.in_ok-reading.ensures c.put_image.ensures.is c.put_image.ensures.whole).1
