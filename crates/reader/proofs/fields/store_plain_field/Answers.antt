-- `store_plain_field` meets its contract: its words in its row. Assumes nothing.
use mathlib.Core.Path.{◌∙◌}
use Rattle.contents.specs.Content.{plain_content}
use Rattle.reader.proofs.Filling.{plain_with}
use Rattle.reader.proofs.fields.store_plain_field.Goals as goal

pub returns : goal.returns
returns c = λ v. (plain_content c.in_ok-plain.plain.value c.in_ok-plain.plain.size, (λ p. rw (← c.requires.0) (c.in_ok-plain.ensures.is.is c.requires.1 v p)), rw (← c.requires.0) (c.in_ok-plain.ensures.bounds c.requires.1), c.mark_row.ensures ∙ plain_with _ _ c.args.field.in_table (rw c.requires.0 at c.requires.1) _ _)
