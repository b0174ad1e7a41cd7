-- `record_from` meets its contract, part by part. Assumes nothing.
use Rattle.image.specs.Image.{list_from}
use Rattle.image.proofs.Fits.{from-drop}
use Rattle.image.proofs.Parts.{record_made_lem}
use Rattle.image.proofs.from.record_from.Goals as goal

pub returns : goal.returns
returns c =
    let w = c.args.image.now in
    record_made_lem w
    c.security_from.ensures
    c.security_from-2.ensures
    c.part_from.ensures
    c.part_from-2.ensures
    (from-drop list_from w 8 c.list_from.ensures)
    (from-drop list_from w 209 c.list_from-2.ensures)
