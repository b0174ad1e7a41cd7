-- `octet_fields::ask_octets` meets its contract: it asks the list that is meant. Assumes nothing.
use mathlib.Core.Path.{◌∙◌}
use Rattle.octet_fields.proofs.OctetFields.{asked_hardware, asked_software}
use Rattle.octet_fields.proofs.ask_octets.Goals as goal

pub returns-then-hardware : goal.returns-then-hardware
returns-then-hardware c = c.ask_list.ensures ∙ asked_hardware c.args.r c.args.hardware c.args.number c.args.len c.if-hardware.true

pub returns-else-hardware : goal.returns-else-hardware
returns-else-hardware c = c.ask_list-else-hardware.ensures ∙ asked_software c.args.r c.args.hardware c.args.number c.args.len c.if-hardware.false
