-- `read_members` meets its contract: the slots up to here hold the members up to here. Assumes nothing.
use native.Mathlib.Omega.{arith}
use native.Mathlib.Nat.{le_refl}
use Rattle.answer.proofs.Results.{handed_on}
use Rattle.contents.proofs.Members.{gathered_none, gathered_many, gathered_no, gathered_order, gathered_more, gathered_all, number_small}
use Rattle.contents.proofs.set.read_members.Goals as goal

pub loop-place-init : goal.loop-place-init
loop-place-init c = rw c.empty_set-set.ensures (gathered_none _ _ _ (le_refl _) c.requires)

pub returns-then-n-ge16-clause-is : goal.returns-then-n-ge16-clause-is
returns-then-n-ge16-clause-is c = search (gathered_many, le_refl)

pub returns-in_err-val-clause-is : goal.returns-in_err-val-clause-is
returns-in_err-val-clause-is c = rw (handed_on _ _ c.from_residual.ensures.1) (gathered_no _ _ _ (le_refl _) _ _ _ _ c.loop-place.invariant c.loop-place-test.true c.if-n-ge16.false _ _ c.in_err-val.ensures.is)

pub returns-then-val-low-clause-is : goal.returns-then-val-low-clause-is
returns-then-val-low-clause-is c = gathered_order _ _ _ (le_refl _) _ _ _ _ c.loop-place.invariant c.loop-place-test.true c.if-n-ge16.false _ _ c.in_ok-val.ensures.is c.if-val-low.true

pub overflow_cast-set : goal.overflow_cast-set
overflow_cast-set c = omega (arith, number_small _ _ _ _ _ _ _ c.in_ok-val.ensures.is)

pub overflow_add-low : goal.overflow_add-low
overflow_add-low c = omega (arith, number_small _ _ _ _ _ _ _ c.in_ok-val.ensures.is)

pub loop-place-preserved : goal.loop-place-preserved
loop-place-preserved c = gathered_more _ _ _ (le_refl _) _ _ _ _ c.loop-place.invariant c.loop-place-test.true c.if-n-ge16.false _ _ c.in_ok-val.ensures.is c.in_ok-val.ensures.inside.0 c.in_ok-val.ensures.inside.1 c.if-val-low.false

pub returns-clause-is : goal.returns-clause-is
returns-clause-is c = gathered_all _ _ _ (le_refl _) _ _ _ _ c.loop-place.invariant c.loop-place-test.false
