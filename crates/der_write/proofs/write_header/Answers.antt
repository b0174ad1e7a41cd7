-- `write_header` meets its contract: the identifier fills the front, and the length the rest. Assumes nothing.
use mathlib.Core.Path.{sym}
use Rattle.der_write.proofs.Writes.{first_room, first_length, second_length, is_header}
use lib.Seq.{length-take-le}
use Rattle.der_write.proofs.write_header.Goals as goal

pub slice_bounds-put_identifier-end : goal.slice_bounds-put_identifier-end
slice_bounds-put_identifier-end c = first_room c.args.out.now c.args.form c.args.number c.args.size c.identifier_size-n.result c.identifier_size-n.ensures.is c.requires.2

pub slice_bounds-put_identifier-end-2 : goal.slice_bounds-put_identifier-end-2
slice_bounds-put_identifier-end-2 c = sym (length-take-le _ _ (first_room c.args.out.now c.args.form c.args.number c.args.size c.identifier_size-n.result c.identifier_size-n.ensures.is c.requires.2))

pub put_identifier-requires : goal.put_identifier-requires
put_identifier-requires c = (c.requires.0, c.requires.1, first_length c.args.out.now c.args.form c.args.number c.args.size c.identifier_size-n.result c.identifier_size-n.ensures.is c.requires.2)

pub put_length-requires : goal.put_length-requires
put_length-requires c = second_length c.args.out.now c.args.form c.args.number c.args.size c.identifier_size-n.result c.identifier_size-n.ensures.is c.requires.2 _ c.put_identifier.ensures

pub returns : goal.returns
returns c = is_header c.args.out.now c.args.form c.args.number c.args.size c.identifier_size-n.result c.identifier_size-n.ensures.is c.requires.2 _ c.put_identifier.ensures _ c.put_length.ensures
