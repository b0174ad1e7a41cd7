-- `shape::head_shaped` meets its contract: the tests of `head_shaped` in turn. Assumes nothing.
use mathlib.Core.Path.{◌≡◌, refl, ◌∙◌}
use mathlib.Core.Bool.{◌&&◌}
use lib.Dec.{leb}
use borrow.Author.Rules.{rules}
use Rattle.schema.specs.Table.{known_version}
use Rattle.shape.proofs.Shapes.{next_true, next_false, head_whole}
use Rattle.shape.proofs.head_shaped.Goals as goal
use Rattle.shape.proofs.head_shaped.Goals.{then-known_version, else-known_version}

pub returns-then-from-top : goal.returns-then-from-top
returns-then-from-top c =
    let version : c.known_version.result ≡ known_version c.args.attestation.version = rw (← c.from.ensures) c.known_version.ensures in
    let known : c.if-known_version.value ≡ known_version c.args.attestation.version && leb c.args.attestation.level c.level_top-top.result =
    elim c.if-known_version.branch [
      | then-known_version b ↦ next_true version b.if-known_version.true b.value-is (rw (b.from-then-known_version.ensures) refl)
      | else-known_version b ↦ next_false _ version b.if-known_version.false b.value-is
    ] in
    let level : leb c.from-then-from-top.result c.level_top-top.result ≡ leb c.args.keymint.level c.level_top-top.result = rw (c.from-then-from-top.ensures) refl in
    next_true known c.if-from-top.true refl level ∙ head_whole _ _ c.args.keymint.version _ _ c.level_top-top.ensures (search rules)

pub returns-else-from-top : goal.returns-else-from-top
returns-else-from-top c =
    let version : c.known_version.result ≡ known_version c.args.attestation.version = rw (← c.from.ensures) c.known_version.ensures in
    let known : c.if-known_version.value ≡ known_version c.args.attestation.version && leb c.args.attestation.level c.level_top-top.result =
    elim c.if-known_version.branch [
      | then-known_version b ↦ next_true version b.if-known_version.true b.value-is (rw (b.from-then-known_version.ensures) refl)
      | else-known_version b ↦ next_false _ version b.if-known_version.false b.value-is
    ] in
    next_false (leb c.args.keymint.level c.level_top-top.result) known c.if-from-top.false refl ∙ head_whole _ _ c.args.keymint.version _ _ c.level_top-top.ensures (search rules)
