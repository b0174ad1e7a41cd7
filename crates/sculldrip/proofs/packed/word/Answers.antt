-- `word` meets its contract: by whether the rest is capped. Assumes nothing.
use borrow.Author.Tests.{lt-ltb, le-ltb}
use Rattle.answer.specs.Answer.{pick}
use Rattle.sculldrip.proofs.packed.word.Goals as goal

pub returns-then-rest-gt72057594037927935 : goal.returns-then-rest-gt72057594037927935
unfolding pick
returns-then-rest-gt72057594037927935 c = simp (c.from.ensures, lt-ltb _ _ c.if-rest-gt72057594037927935.true)

pub returns : goal.returns
unfolding pick
returns c = simp (c.from-2.ensures, le-ltb _ _ c.if-rest-gt72057594037927935.false)
