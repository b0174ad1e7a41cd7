-- `store_root_field` meets its contract: 704, in its place. Assumes nothing.
use mathlib.Core.Path.{refl, ◌∙◌}
use Rattle.std.specs.Prelude.{Ok, Err}
use Rattle.answer.proofs.Results.{handed_on}
use Rattle.schema.specs.declared.Kind.{Kind}
use Rattle.contents.proofs.Contents.{root_stored, as_root}
use Rattle.contents.proofs.Kept.{root_in_lem}
use Rattle.reader.proofs.Filling.{root_with}
use Rattle.reader.proofs.fields.store_root_field.Goals as goal

pub returns-in_err-list : goal.returns-in_err-list
returns-in_err-list c = rw (handed_on _ _ c.from_residual.ensures.1) (λ p. rw c.requires (as_root _ _ _ Kind.Root refl _ p (Err _) c.in_err-list.ensures.is))

pub returns : goal.returns
returns c = (root_stored c.in_ok-list.field-0, (λ p. rw c.requires (as_root _ _ _ Kind.Root refl _ p (Ok _) c.in_ok-list.ensures.is)), rw c.requires (root_in_lem _ _ _ c.in_ok-list.ensures.bounds), c.mark_row.ensures ∙ root_with _ _ c.args.field.in_table c.requires c.in_ok-list.field-0)
