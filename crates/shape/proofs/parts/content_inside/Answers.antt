-- `shape::parts::content_inside` meets its contract: each arm is its kind's clause of `content_inside`. Assumes nothing.
use Rattle.records.specs.Parts.{content_inside}
use Rattle.shape.proofs.Buffer.{none_inside}
use Rattle.shape.proofs.parts.content_inside.Goals as goal

pub returns-in-Octets : goal.returns-in-Octets
unfolding content_inside
returns-in-Octets c = rw c.in-Octets.is c.inside.ensures

pub returns-in-Root : goal.returns-in-Root
unfolding content_inside
returns-in-Root c = rw c.in-Root.is c.root_inside.ensures

pub returns-in-Set : goal.returns-in-Set
returns-in-Set c = none_inside c.args.kind c.args.start c.args.size c.args.len c.args.t.now c.in-Set.is
