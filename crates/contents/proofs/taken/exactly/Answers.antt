-- `exactly` meets its contract, at every type. Assumes nothing.
use mathlib.Core.Path.{refl}
use borrow.Author.Tests.{eq-eqb, ne_eqb}
use Rattle.answer.specs.Answer.{pick}
use Rattle.contents.proofs.taken.exactly.Goals as goal

pub returns-then-read-end : goal.returns-then-read-end
unfolding pick
returns-then-read-end g c = rw (ne_eqb _ _ c.if-read-end.true) refl

pub returns : goal.returns
unfolding pick
returns g c = rw (eq-eqb _ _ c.if-read-end.false) refl
