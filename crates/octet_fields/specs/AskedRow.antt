-- An octet field asked for by its row, as the code goes; proofs/OctetFields.antt shows that it is `asked_octets`.
use Rattle.std.specs.Prelude.{Bool, true, false, ℕ, get_or}
use Rattle.std.proofs.Math.Option.{Option, none, some}
use Rattle.answer.specs.Answer.{Answer, got, guard, pick}
use Rattle.answer.specs.Refusal.{ill_shaped}
use Rattle.schema.specs.Table.{Kind, set, number32, number64, null, octets, root, row_at}
use Rattle.records.specs.Parts.{inside}
use Rattle.records.specs.declared.FieldList.{FieldList}
use Rattle.records.specs.declared.Part.{Part}

-- the start and length of a field of this kind, if it is an octet field and there
unfoldable pub asked_in : Kind → Bool → ℕ → ℕ → ℕ → Answer (Option (ℕ × ℕ))
asked_in set present start size len = got none
asked_in number32 present start size len = got none
asked_in number64 present start size len = got none
asked_in null present start size len = got none
asked_in octets present start size len = pick present (guard (inside start size len) ill_shaped 0 (got (some (start, size)))) (got none)
asked_in root present start size len = got none

-- the same of a part that is there
abbrev pub asked_part : Part → ℕ → Answer (Option (ℕ × ℕ))
asked_part p len = asked_in octets true p.start p.len len

-- the same of a list's row k
unfoldable pub asked_at : FieldList → ℕ → ℕ → Answer (Option (ℕ × ℕ))
asked_at l k len = asked_in (row_at k).kind (get_or l.present k false) (get_or l.values k 0) (get_or l.sizes k 0) len
