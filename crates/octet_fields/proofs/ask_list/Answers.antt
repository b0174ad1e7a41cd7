-- `octet_fields::ask_list` meets its contract: by row, presence and kind, as `asked_at`. Assumes nothing.
use Rattle.octet_fields.specs.Asked.{of_asked}
use Rattle.octet_fields.proofs.Asking.{no_row_at, field-absent, its_octets, no_octets}
use Rattle.octet_fields.proofs.ask_list.Goals as goal

pub returns-in_default : goal.returns-in_default
returns-in_default c = no_row_at c.args.l.now c.args.number c.args.len (c.in_default.ensures.is)

pub returns-then-not-l-k : goal.returns-then-not-l-k
returns-then-not-l-k c = field-absent c.args.l.now c.args.number c.args.len c.in-Some.k c.in-Some.ensures.is c.if-not-l-k.true

pub returns-in-Octets : goal.returns-in-Octets
returns-in-Octets c = its_octets c.args.l.now c.args.number c.args.len c.in-Some.k c.in-Some.ensures.is c.row_at.result c.row_at.ensures (of_asked c.ask_part.result) c.if-not-l-k.false c.in-Octets.is c.ask_part.ensures

pub returns-in_default-kind : goal.returns-in_default-kind
returns-in_default-kind c = no_octets c.args.l.now c.args.number c.args.len c.in-Some.k c.in-Some.ensures.is c.row_at.result c.row_at.ensures c.in_default-kind.not-Octets
