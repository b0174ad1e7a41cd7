-- `request_of` meets its contract, word by word. Assumes nothing.
use mathlib.Core.Path.{refl}
use Rattle.sculldrip.specs.Calls.{request_of}
use Rattle.sculldrip.proofs.request_of.Goals as goal

pub returns : goal.returns
unfolding request_of
returns c = rw c.then_some.ensures refl
