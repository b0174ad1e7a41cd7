-- `reported_place` meets its contract. Assumes nothing.
use mathlib.Core.Path.{refl}
use Rattle.codec.specs.Header.{reported_place}
use Rattle.der.proofs.header.reported_place.Goals as goal

pub returns : goal.returns
unfolding reported_place
returns c = refl
