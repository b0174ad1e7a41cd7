-- `write` meets its contract: the tests of `written` in turn, and then the whole encoding. Assumes nothing.
use Rattle.writer.proofs.Answers.{ill_shaped_lem, outside, too_long_lem, short, wrote}
use mathlib.Core.Path.{ap}
use mathlib.Core.Bool.{not}
use Rattle.writer.proofs.write.Goals as goal

pub returns-then-not-well_shaped-clause-answer : goal.returns-then-not-well_shaped-clause-answer
returns-then-not-well_shaped-clause-answer c =
    let a = c.args in
    (ill_shaped_lem a.r a.s.now a.out.now c.well_shaped.result c.well_shaped.ensures (ap not c.if-not-well_shaped.true)).0

pub returns-then-not-well_shaped-clause-output : goal.returns-then-not-well_shaped-clause-output
returns-then-not-well_shaped-clause-output c =
    let a = c.args in
    (ill_shaped_lem a.r a.s.now a.out.now c.well_shaped.result c.well_shaped.ensures (ap not c.if-not-well_shaped.true)).1

pub returns-then-not-parts_inside-clause-answer : goal.returns-then-not-parts_inside-clause-answer
returns-then-not-parts_inside-clause-answer c =
    let a = c.args in
    (outside a.r a.s.now a.out.now c.well_shaped.result c.well_shaped.ensures (ap not c.if-not-well_shaped.false) c.parts_inside.result c.parts_inside.ensures (ap not c.if-not-parts_inside.true)).0

pub returns-then-not-parts_inside-clause-output : goal.returns-then-not-parts_inside-clause-output
returns-then-not-parts_inside-clause-output c =
    let a = c.args in
    (outside a.r a.s.now a.out.now c.well_shaped.result c.well_shaped.ensures (ap not c.if-not-well_shaped.false) c.parts_inside.result c.parts_inside.ensures (ap not c.if-not-parts_inside.true)).1

pub returns-then-sizes-gt-EXTENSION_BYTES-clause-answer : goal.returns-then-sizes-gt-EXTENSION_BYTES-clause-answer
returns-then-sizes-gt-EXTENSION_BYTES-clause-answer c =
    let a = c.args in
    (too_long_lem a.r a.s.now a.out.now c.well_shaped.result c.well_shaped.ensures (ap not c.if-not-well_shaped.false) c.parts_inside.result c.parts_inside.ensures (ap not c.if-not-parts_inside.false) c.sizes_of-sizes.result c.sizes_of-sizes.ensures c.if-sizes-gt-EXTENSION_BYTES.true).0

pub returns-then-sizes-gt-EXTENSION_BYTES-clause-output : goal.returns-then-sizes-gt-EXTENSION_BYTES-clause-output
returns-then-sizes-gt-EXTENSION_BYTES-clause-output c =
    let a = c.args in
    (too_long_lem a.r a.s.now a.out.now c.well_shaped.result c.well_shaped.ensures (ap not c.if-not-well_shaped.false) c.parts_inside.result c.parts_inside.ensures (ap not c.if-not-parts_inside.false) c.sizes_of-sizes.result c.sizes_of-sizes.ensures c.if-sizes-gt-EXTENSION_BYTES.true).1

pub returns-then-out-sizes-clause-answer : goal.returns-then-out-sizes-clause-answer
returns-then-out-sizes-clause-answer c =
    let a = c.args in
    (short a.r a.s.now a.out.now c.well_shaped.result c.well_shaped.ensures (ap not c.if-not-well_shaped.false) c.parts_inside.result c.parts_inside.ensures (ap not c.if-not-parts_inside.false) c.sizes_of-sizes.result c.sizes_of-sizes.ensures c.if-sizes-gt-EXTENSION_BYTES.false c.if-out-sizes.true).0

pub returns-then-out-sizes-clause-output : goal.returns-then-out-sizes-clause-output
returns-then-out-sizes-clause-output c =
    let a = c.args in
    (short a.r a.s.now a.out.now c.well_shaped.result c.well_shaped.ensures (ap not c.if-not-well_shaped.false) c.parts_inside.result c.parts_inside.ensures (ap not c.if-not-parts_inside.false) c.sizes_of-sizes.result c.sizes_of-sizes.ensures c.if-sizes-gt-EXTENSION_BYTES.false c.if-out-sizes.true).1

pub returns-clause-answer : goal.returns-clause-answer
returns-clause-answer c =
    let a = c.args in
    (wrote a.r a.s.now a.out.now c.well_shaped.result c.well_shaped.ensures (ap not c.if-not-well_shaped.false) c.parts_inside.result c.parts_inside.ensures (ap not c.if-not-parts_inside.false) c.sizes_of-sizes.result c.sizes_of-sizes.ensures c.if-sizes-gt-EXTENSION_BYTES.false _ _ c.if-out-sizes.false c.put_extension.ensures).0

pub returns-clause-output : goal.returns-clause-output
returns-clause-output c =
    let a = c.args in
    (wrote a.r a.s.now a.out.now c.well_shaped.result c.well_shaped.ensures (ap not c.if-not-well_shaped.false) c.parts_inside.result c.parts_inside.ensures (ap not c.if-not-parts_inside.false) c.sizes_of-sizes.result c.sizes_of-sizes.ensures c.if-sizes-gt-EXTENSION_BYTES.false _ _ c.if-out-sizes.false c.put_extension.ensures).1
