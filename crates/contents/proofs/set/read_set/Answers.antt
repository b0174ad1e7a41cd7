-- `read_set` meets its contract: the SET opened, and its members. Assumes nothing.
use mathlib.Core.Path.{refl}
use Rattle.answer.proofs.Results.{handed_on}
use Rattle.der.proofs.Elements.{holder_part}
use Rattle.contents.proofs.Members.{set_no, set_members_no, set_is}
use Rattle.contents.proofs.set.read_set.Goals as goal

pub returns-in_err-body-clause-is : goal.returns-in_err-body-clause-is
returns-in_err-body-clause-is c = rw (handed_on _ _ c.from_residual.ensures.1) (set_no _ _ _ _ _ c.in_err-body.ensures.is)

pub returns-in_err-val-clause-is : goal.returns-in_err-val-clause-is
returns-in_err-val-clause-is c = rw (handed_on _ _ c.from_residual-in_err-val.ensures.1) (set_members_no _ _ _ _ _ c.in_ok-body.ensures.is _ _ (rw (holder_part _ _ c.in_ok-body.field-0.stop _ refl) at c.in_err-val.ensures.is))

pub returns-clause-is : goal.returns-clause-is
returns-clause-is c = set_is _ _ _ _ _ c.in_ok-body.ensures.is _ (rw (holder_part _ _ c.in_ok-body.field-0.stop _ refl) at c.in_ok-val.ensures.is)
