-- `shape::list_shaped` meets its contract: each set and 704 in its own place, and then the rows. Assumes nothing.
use mathlib.Core.Path.{◌≡◌, refl, ◌∙◌}
use mathlib.Core.Bool.{◌&&◌}
use Rattle.std.proofs.Common.{rules, tests}
use Rattle.std.proofs.lemmas.Iterator.{YieldsList-from_range}
use Rattle.std.proofs.lemmas.Iterator.Search.{all_from_yields_List}
use Rattle.schema.specs.Table.{row_count}
use Rattle.records.specs.Rows.{all_below}
use Rattle.shape.specs.Plain.{row_plain}
use Rattle.shape.proofs.Shapes.{next_true, next_false, asked_where, rows_all, purpose-shaped, digest-shaped, padding-shaped, mgf-shaped, trust-shaped, list_whole}
use Rattle.shape.proofs.list_shaped.Goals as goal
use Rattle.shape.proofs.list_shaped.Goals.{then-where_present, else-where_present, then-where_present-2, else-where_present-2, then-where_present-3, else-where_present-3, then-where_present-4, else-where_present-4}

pub returns-then-where_present-5 : goal.returns-then-where_present-5
returns-then-where_present-5 c =
    let v = c.args.version in
    let l = c.args.l.now in
    let purpose : c.where_present.result ≡ purpose-shaped v l = asked_where _ _ _ c.where_present.ensures (λ p. search rules) in
    let digest : c.if-where_present.value ≡ purpose-shaped v l && digest-shaped v l =
    elim c.if-where_present.branch [
      | then-where_present b ↦ next_true purpose b.if-where_present.true b.value-is (asked_where _ _ _ b.where_present-then-where_present.ensures (λ p. search rules))
      | else-where_present b ↦ next_false _ purpose b.if-where_present.false b.value-is
    ] in
    let padding : c.if-where_present-2.value ≡ purpose-shaped v l && digest-shaped v l && padding-shaped v l =
    elim c.if-where_present-2.branch [
      | then-where_present-2 b ↦ next_true digest b.if-where_present-2.true b.value-is (asked_where _ _ _ b.where_present-then-where_present-2.ensures (λ p. search rules))
      | else-where_present-2 b ↦ next_false _ digest b.if-where_present-2.false b.value-is
    ] in
    let mgf : c.if-where_present-3.value ≡ purpose-shaped v l && digest-shaped v l && padding-shaped v l && mgf-shaped v l =
    elim c.if-where_present-3.branch [
      | then-where_present-3 b ↦ next_true padding b.if-where_present-3.true b.value-is (asked_where _ _ _ b.where_present-then-where_present-3.ensures (λ p. search rules))
      | else-where_present-3 b ↦ next_false _ padding b.if-where_present-3.false b.value-is
    ] in
    let trust : c.if-where_present-4.value ≡ purpose-shaped v l && digest-shaped v l && padding-shaped v l && mgf-shaped v l && trust-shaped v l =
    elim c.if-where_present-4.branch [
      | then-where_present-4 b ↦ next_true mgf b.if-where_present-4.true b.value-is (asked_where _ _ _ b.where_present-then-where_present-4.ensures (λ p. search rules))
      | else-where_present-4 b ↦ next_false _ mgf b.if-where_present-4.false b.value-is
    ] in
    let rows : c.all.result ≡ all_below (row_plain v l) row_count =
    rows_all (row_plain v l) (all_from_yields_List (row_plain v l) _ _ c.all.result c.all.ensures.ran (YieldsList-from_range 0 42 42 refl refl) (λ k b q e. search (rules, tests))) in
    next_true trust c.if-where_present-5.true refl rows ∙ list_whole v l

pub returns-else-where_present-5 : goal.returns-else-where_present-5
returns-else-where_present-5 c =
    let v = c.args.version in
    let l = c.args.l.now in
    let purpose : c.where_present.result ≡ purpose-shaped v l = asked_where _ _ _ c.where_present.ensures (λ p. search rules) in
    let digest : c.if-where_present.value ≡ purpose-shaped v l && digest-shaped v l =
    elim c.if-where_present.branch [
      | then-where_present b ↦ next_true purpose b.if-where_present.true b.value-is (asked_where _ _ _ b.where_present-then-where_present.ensures (λ p. search rules))
      | else-where_present b ↦ next_false _ purpose b.if-where_present.false b.value-is
    ] in
    let padding : c.if-where_present-2.value ≡ purpose-shaped v l && digest-shaped v l && padding-shaped v l =
    elim c.if-where_present-2.branch [
      | then-where_present-2 b ↦ next_true digest b.if-where_present-2.true b.value-is (asked_where _ _ _ b.where_present-then-where_present-2.ensures (λ p. search rules))
      | else-where_present-2 b ↦ next_false _ digest b.if-where_present-2.false b.value-is
    ] in
    let mgf : c.if-where_present-3.value ≡ purpose-shaped v l && digest-shaped v l && padding-shaped v l && mgf-shaped v l =
    elim c.if-where_present-3.branch [
      | then-where_present-3 b ↦ next_true padding b.if-where_present-3.true b.value-is (asked_where _ _ _ b.where_present-then-where_present-3.ensures (λ p. search rules))
      | else-where_present-3 b ↦ next_false _ padding b.if-where_present-3.false b.value-is
    ] in
    let trust : c.if-where_present-4.value ≡ purpose-shaped v l && digest-shaped v l && padding-shaped v l && mgf-shaped v l && trust-shaped v l =
    elim c.if-where_present-4.branch [
      | then-where_present-4 b ↦ next_true mgf b.if-where_present-4.true b.value-is (asked_where _ _ _ b.where_present-then-where_present-4.ensures (λ p. search rules))
      | else-where_present-4 b ↦ next_false _ mgf b.if-where_present-4.false b.value-is
    ] in
    next_false (all_below (row_plain v l) row_count) trust c.if-where_present-5.false refl ∙ list_whole v l
