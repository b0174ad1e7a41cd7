-- `shape::parts::parts_inside` meets its contract: the four tests of `parts_inside` in turn. Assumes nothing.
use mathlib.Core.Path.{◌≡◌, refl, ◌∙◌}
use mathlib.Core.Bool.{◌&&◌}
use Rattle.records.specs.Parts.{part_inside, list_inside}
use Rattle.shape.proofs.Shapes.{next_true, next_false}
use Rattle.shape.proofs.Buffer.{parts_whole}
use Rattle.shape.proofs.parts.parts_inside.Goals as goal
use Rattle.shape.proofs.parts.parts_inside.Goals.{then-part_inside, else-part_inside, then-part_inside-2, else-part_inside-2}

pub returns-then-list_inside : goal.returns-then-list_inside
returns-then-list_inside c =
    let r = c.args.r in
    let len = c.args.len in
    let unique : c.if-part_inside.value ≡ part_inside r.challenge len && part_inside r.unique len =
    elim c.if-part_inside.branch [
      | then-part_inside b ↦ next_true c.part_inside.ensures b.if-part_inside.true b.value-is b.part_inside-then-part_inside.ensures
      | else-part_inside b ↦ next_false _ c.part_inside.ensures b.if-part_inside.false b.value-is
    ] in
    let software : c.if-part_inside-2.value ≡ part_inside r.challenge len && part_inside r.unique len && list_inside r.software len =
    elim c.if-part_inside-2.branch [
      | then-part_inside-2 b ↦ next_true unique b.if-part_inside-2.true b.value-is b.list_inside.ensures
      | else-part_inside-2 b ↦ next_false _ unique b.if-part_inside-2.false b.value-is
    ] in
    next_true software c.if-list_inside.true refl c.list_inside-then-list_inside.ensures ∙ parts_whole r len

pub returns-else-list_inside : goal.returns-else-list_inside
returns-else-list_inside c =
    let r = c.args.r in
    let len = c.args.len in
    let unique : c.if-part_inside.value ≡ part_inside r.challenge len && part_inside r.unique len =
    elim c.if-part_inside.branch [
      | then-part_inside b ↦ next_true c.part_inside.ensures b.if-part_inside.true b.value-is b.part_inside-then-part_inside.ensures
      | else-part_inside b ↦ next_false _ c.part_inside.ensures b.if-part_inside.false b.value-is
    ] in
    let software : c.if-part_inside-2.value ≡ part_inside r.challenge len && part_inside r.unique len && list_inside r.software len =
    elim c.if-part_inside-2.branch [
      | then-part_inside-2 b ↦ next_true unique b.if-part_inside-2.true b.value-is b.list_inside.ensures
      | else-part_inside-2 b ↦ next_false _ unique b.if-part_inside-2.false b.value-is
    ] in
    next_false (list_inside r.hardware len) software c.if-list_inside.false refl ∙ parts_whole r len
