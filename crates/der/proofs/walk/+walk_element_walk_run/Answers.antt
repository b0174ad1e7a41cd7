-- `walk_element` and `walk_run` meet their contracts together. Assumes nothing.
use Prim.Native.Nat.{◌+◌, ◌-◌}
use native.Mathlib.Nat.{le_refl}
use native.Mathlib.Omega.{arith}
use Rattle.answer.proofs.Results.{handed_on}
use Rattle.codec.specs.Tree.{run, walk_element}
use Rattle.der.specs.Walk.{summed}
use Rattle.der.proofs.Elements.{held, element_deep, element_many, element_no, element_flat, element_held, element_held_no, run_no, run_more, run_end}
use Rattle.der.proofs.walk.+walk_element_walk_run.Goals as goal

pub walk_element-returns-then-depth-eq0-clause-is : goal.walk_element-returns-then-depth-eq0-clause-is
walk_element-returns-then-depth-eq0-clause-is t c = search element_deep

pub walk_element-returns-then-most-met-clause-is : goal.walk_element-returns-then-most-met-clause-is
walk_element-returns-then-most-met-clause-is t c = search element_many

pub walk_element-returns-in_err-form-clause-is : goal.walk_element-returns-in_err-form-clause-is
walk_element-returns-in_err-form-clause-is t c = rw (handed_on _ _ c.from_residual.ensures.1) (element_no _ _ _ _ _ _ _ _ c.if-depth-eq0.false c.if-most-met.false c.in_err-form.ensures.is)

pub walk_element-returns-then-form-eq0-clause-is : goal.walk_element-returns-then-form-eq0-clause-is
walk_element-returns-then-form-eq0-clause-is t c = element_flat _ _ _ _ _ _ _ _ _ c.in_ok-form.ensures.is _ c.if-depth-eq0.false c.if-most-met.false c.if-form-eq0.true

pub walk_element-returns-in_err-met-clause-is : goal.walk_element-returns-in_err-met-clause-is
walk_element-returns-in_err-met-clause-is t c = rw (handed_on _ _ c.from_residual-in_err-met.ensures.1) (element_held_no _ _ _ _ _ _ _ _ _ c.in_ok-form.ensures.is (le_refl _) c.in_ok-form.ensures.inside.0 c.in_ok-form.ensures.inside.1 _ c.if-depth-eq0.false c.if-most-met.false c.if-form-eq0.false _ _ (held _ _ _ _ (λ g q. summed (c.args.met + 1) (run (walk_element c.args.most (c.args.depth - 1)) g (c.args.met + 1) c.in_ok-form.field-0.body q)) c.in_ok-form.ensures.inside.1 c.in_err-met.ensures))

pub walk_element-returns-clause-is : goal.walk_element-returns-clause-is
walk_element-returns-clause-is t c = element_held _ _ _ _ _ _ _ _ _ c.in_ok-form.ensures.is (le_refl _) c.in_ok-form.ensures.inside.0 c.in_ok-form.ensures.inside.1 _ c.if-depth-eq0.false c.if-most-met.false c.if-form-eq0.false _ (held _ _ _ _ (λ g q. summed (c.args.met + 1) (run (walk_element c.args.most (c.args.depth - 1)) g (c.args.met + 1) c.in_ok-form.field-0.body q)) c.in_ok-form.ensures.inside.1 c.in_ok-met.ensures)

pub walk_run-returns-in_err-past-in-None : goal.walk_run-returns-in_err-past-in-None
walk_run-returns-in_err-past-in-None t c = rw (handed_on _ _ c.from_residual.ensures.1) (run_no _ _ _ _ _ _ _ _ _ c.loop-past.invariant.2 c.loop-past-test.true (le_refl _) c.in_err-past-in-None.ensures.is)

pub walk_run-loop-past-preserved-in-Some : goal.walk_run-loop-past-preserved-in-Some
walk_run-loop-past-preserved-in-Some t c = let q = c.in-Some.ensures in (omega (arith, c.loop-past.invariant.0, q.1), q.2, run_more _ _ _ _ _ _ _ _ _ c.loop-past.invariant.2 c.loop-past-test.true (le_refl _) q.1 q.2 q.0)

pub walk_run-loop-past-preserved : goal.walk_run-loop-past-preserved
walk_run-loop-past-preserved t c = let q = c.in_ok-past-in-None.ensures in (omega (arith, c.loop-past.invariant.0, q.inside.0), q.inside.1, run_more _ _ _ _ _ _ _ _ _ c.loop-past.invariant.2 c.loop-past-test.true (le_refl _) q.inside.0 q.inside.1 q.is)

pub walk_run-returns : goal.walk_run-returns
walk_run-returns t c = run_end _ _ _ _ _ _ _ c.loop-past.invariant.2 c.loop-past.invariant.1 c.loop-past-test.false
