-- `past_single` meets its contract: a holder whose content is one plain element. Assumes nothing.
use mathlib.Core.Path.{refl}
use native.Mathlib.Nat.{le_refl}
use Rattle.der.proofs.Quick.{single_to}
use Rattle.der.proofs.walk.past_single.Goals as goal

pub returns : goal.returns
returns c = single_to _ _ _ (le_refl _) _ _ _ _ _ _ _ c.in_ok-form.ensures c.if-form-eq0.false c.in_ok-body.ensures refl c.in_ok-past_plain.ensures c.if-branch-stop.false
