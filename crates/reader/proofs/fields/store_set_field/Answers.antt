-- `store_set_field` meets its contract: a set, in its place. Assumes nothing.
use mathlib.Core.Path.{refl, ◌∙◌}
use Rattle.std.specs.Prelude.{Ok, Err}
use Rattle.answer.proofs.Results.{handed_on}
use Rattle.schema.specs.declared.Kind.{Kind}
use Rattle.contents.proofs.Contents.{set_stored, as_set}
use Rattle.contents.proofs.Kept.{set_in_lem}
use Rattle.reader.proofs.Filling.{set_with}
use Rattle.reader.proofs.fields.store_set_field.Goals as goal

pub returns-in_err-g : goal.returns-in_err-g
returns-in_err-g c = rw (handed_on _ _ c.from_residual.ensures.1) (λ v p. rw c.requires (as_set _ _ _ Kind.Set refl (Err _) c.in_err-g.ensures.is v p))

pub returns : goal.returns
returns c = λ v. (set_stored c.in_ok-g.g, (λ p. rw c.requires (as_set _ _ _ Kind.Set refl (Ok _) c.in_ok-g.ensures.is v p)), rw c.requires (set_in_lem _ _ c.in_ok-g.ensures.slots), rw c.store_set.ensures at c.mark_row.ensures ∙ set_with _ _ c.args.field.in_table c.requires c.in_ok-g.g)
