-- `shape::well_shaped` meets its contract: the tests of `well_shaped_record` in turn. Assumes nothing.
use mathlib.Core.Path.{◌≡◌, refl, ◌∙◌}
use mathlib.Core.Bool.{◌&&◌}
use Rattle.records.specs.Shape.{head_shaped, list_shaped}
use Rattle.shape.proofs.Shapes.{next_true, next_false, record_whole}
use Rattle.shape.proofs.well_shaped.Goals as goal
use Rattle.shape.proofs.well_shaped.Goals.{then-head_shaped, else-head_shaped}

pub returns-then-list_shaped : goal.returns-then-list_shaped
returns-then-list_shaped c =
    let r = c.args.r in
    let software : c.if-head_shaped.value ≡ head_shaped r.attestation.version r.attestation.level r.keymint.version r.keymint.level && list_shaped r.attestation.version r.software =
    elim c.if-head_shaped.branch [
      | then-head_shaped b ↦ next_true c.head_shaped.ensures b.if-head_shaped.true b.value-is b.list_shaped.ensures
      | else-head_shaped b ↦ next_false _ c.head_shaped.ensures b.if-head_shaped.false b.value-is
    ] in
    next_true software c.if-list_shaped.true refl c.list_shaped-then-list_shaped.ensures ∙ record_whole r

pub returns-else-list_shaped : goal.returns-else-list_shaped
returns-else-list_shaped c =
    let r = c.args.r in
    let software : c.if-head_shaped.value ≡ head_shaped r.attestation.version r.attestation.level r.keymint.version r.keymint.level && list_shaped r.attestation.version r.software =
    elim c.if-head_shaped.branch [
      | then-head_shaped b ↦ next_true c.head_shaped.ensures b.if-head_shaped.true b.value-is b.list_shaped.ensures
      | else-head_shaped b ↦ next_false _ c.head_shaped.ensures b.if-head_shaped.false b.value-is
    ] in
    next_false (list_shaped r.attestation.version r.hardware) software c.if-list_shaped.false refl ∙ record_whole r
