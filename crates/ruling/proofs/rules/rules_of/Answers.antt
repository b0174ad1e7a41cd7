-- `ruling::rules::rules_of` meets its contract: each tag by its row. Assumes nothing.
use Rattle.records.specs.Content.{members_of}
use Rattle.ruling.proofs.TagRows.{taken, tags_by_rows}
use Rattle.ruling.proofs.rules.rules_of.Goals as goal

pub returns : goal.returns
returns c =
    let l = c.args.l.now in
    tags_by_rows l (taken members_of _ _ _ c.then_some.ensures) c.number_at.ensures (taken members_of _ _ _ c.then_some-2.ensures) (taken members_of _ _ _ c.then_some-3.ensures) c.number_at-2.ensures
    c.number_at-3.ensures c.number_at-4.ensures c.number_at-5.ensures
    c.number_at-6.ensures c.number_at-7.ensures c.number_at-8.ensures
