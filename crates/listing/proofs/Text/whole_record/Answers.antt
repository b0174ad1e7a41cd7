-- `Text::whole_record` meets its contract: head, both lists and count are the whole text, within its bound. Assumes nothing.
use Rattle.records.specs.Content.{content_of}
use Rattle.listing.proofs.Writes.{record_put}
use Rattle.listing.proofs.Text.whole_record.Goals as goal

pub returns : goal.returns
returns c =
    let a = c.args in
    record_put (content_of a.r.now a.s.now) a.count a.s.now c.head.ensures c.list.ensures c.list-2.ensures c.count.ensures
