-- `shape::parts::list_inside` meets its contract: a test of each row in turn is the test of all. Assumes nothing.
use mathlib.Core.Path.{refl, ◌∙◌}
use Rattle.std.proofs.Common.{rules, tests}
use Rattle.std.proofs.lemmas.Iterator.{YieldsList-from_range}
use Rattle.std.proofs.lemmas.Iterator.Search.{all_from_yields_List}
use Rattle.records.specs.Parts.{row_inside}
use Rattle.shape.proofs.Shapes.{rows_all}
use Rattle.shape.proofs.Buffer.{list_rows}
use Rattle.shape.proofs.parts.list_inside.Goals as goal

pub returns : goal.returns
returns c =
    let test = row_inside c.args.l.now c.args.len in
    rows_all test (all_from_yields_List test _ _ c.all.result c.all.ensures.ran (YieldsList-from_range 0 42 42 refl refl) (λ k b q e. search (rules, tests)))
    ∙ list_rows c.args.l.now c.args.len
