-- `read_root` meets its contract: the SEQUENCE opened, and what it holds. Assumes nothing.
use mathlib.Core.Path.{refl}
use Rattle.answer.proofs.Results.{handed_on}
use Rattle.der.proofs.Elements.{holder_part}
use Rattle.contents.proofs.Roots.{root_no, root_trust_no, root_is_lem}
use Rattle.contents.proofs.root.read_root.Goals as goal

pub returns-in_err-body-clause-is : goal.returns-in_err-body-clause-is
returns-in_err-body-clause-is c = rw (handed_on _ _ c.from_residual.ensures.1) (root_no _ _ _ _ _ _ c.in_err-body.ensures.is)

pub returns-in_err-val-clause-is : goal.returns-in_err-val-clause-is
returns-in_err-val-clause-is c = rw (handed_on _ _ c.from_residual-in_err-val.ensures.1) (root_trust_no _ _ _ _ _ _ c.in_ok-body.ensures.is _ _ (rw (holder_part _ _ c.in_ok-body.field-0.stop _ refl) at c.in_err-val.ensures.is))

pub returns-clause-is : goal.returns-clause-is
returns-clause-is c = root_is_lem _ _ _ _ _ _ c.in_ok-body.ensures.is _ (rw (holder_part _ _ c.in_ok-body.field-0.stop _ refl) at c.in_ok-val.ensures.is)
