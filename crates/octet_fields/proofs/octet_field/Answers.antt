-- `octet_fields::octet_field` meets its contract: the part that `ask_octets` says, or none. Assumes nothing.
use mathlib.Core.Path.{ap, ◌∙◌}
use native.Mathlib.Omega.{arith}
use Rattle.std.specs.Prelude.{Ok}
use Rattle.octet_fields.proofs.Asking.{asked-inside}
use Rattle.octet_fields.proofs.octet_field.Goals as goal

pub overflow_add-result : goal.overflow_add-result
overflow_add-result c =
    let p = c.args in
    let a = c.ask_octets in
    omega (arith, asked-inside p.s.now p.r p.hardware p.number a.result a.ensures c.in-Ok-Some.part (c.in-Ok-Some.is ∙ ap Ok c.in-Ok-Some.field-0-is))

pub slice_bounds-result-end : goal.slice_bounds-result-end
slice_bounds-result-end c =
    let p = c.args in
    let a = c.ask_octets in
    asked-inside p.s.now p.r p.hardware p.number a.result a.ensures c.in-Ok-Some.part (c.in-Ok-Some.is ∙ ap Ok c.in-Ok-Some.field-0-is)
