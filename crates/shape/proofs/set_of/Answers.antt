-- `shape::set_of` meets its contract: the tests of `set_of` in turn. Assumes nothing.
use Rattle.shape.proofs.Shapes.{set-digest, set-mgf, set-padding, set-purpose}
use Rattle.shape.proofs.set_of.Goals as goal

pub returns-in-1 : goal.returns-in-1
returns-in-1 c = set-purpose _ _ _ _ _ c.in-1.is

pub returns-in-5 : goal.returns-in-5
returns-in-5 c = set-digest _ _ _ _ _ c.in-5.is

pub returns-in-6 : goal.returns-in-6
returns-in-6 c = set-padding _ _ _ _ _ c.in-6.is

pub returns-in_default : goal.returns-in_default
returns-in_default c = set-mgf _ _ _ _ _ c.in_default.in_default-own.rest.0.0.1 c.in_default.in_default-own.rest.0.1 c.in_default.in_default-own.rest.1
