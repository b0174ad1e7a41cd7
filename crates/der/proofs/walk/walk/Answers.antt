-- `der::walk::walk` meets its contract: each of its answers is a law of `Elements` about the whole. Assumes nothing.
use Rattle.std.proofs.Common.{rules}
use Rattle.answer.proofs.Results.{handed_on}
use Rattle.der.proofs.Elements.{all_long, all_missing, all_no, all_ok, all_spare}
use Rattle.der.proofs.walk.walk.Goals as goal

pub returns-then-limits-s : goal.returns-then-limits-s
returns-then-limits-s c = search all_long

pub returns-then-is_empty : goal.returns-then-is_empty
returns-then-is_empty c = all_missing _ _ _ _ c.if-limits-s.false (search rules)

pub returns-in_err-next : goal.returns-in_err-next
returns-in_err-next c = rw (handed_on _ _ c.from_residual.ensures.1) (all_no _ _ _ _ c.if-limits-s.false (search rules) _ _ c.in_err-next.ensures.is)

pub returns-then-next-s : goal.returns-then-next-s
returns-then-next-s c = all_spare _ _ _ _ c.if-limits-s.false (search rules) _ _ c.in_ok-next.ensures.is c.in_ok-next.ensures.inside.0 c.in_ok-next.ensures.inside.1 c.if-next-s.true

pub returns : goal.returns
returns c = all_ok _ _ _ _ c.if-limits-s.false (search rules) _ _ c.in_ok-next.ensures.is c.if-next-s.false
