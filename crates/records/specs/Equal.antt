-- Document 01, "KeyDescription": "Two such records, each with the bytes its octet parts lie in, are equal exactly when
-- both versions, both levels, challenge, uniqueId, which fields each list holds and those fields' contents are the same,
-- octets by their bytes and not their place". Spare slots and what is absent are never compared.
use Rattle.std.specs.Prelude.{◌≡◌, Bool, true, false, List, ℕ, ◌<◌, get_or}
use Rattle.schema.specs.Table.{row_at, row_count}
use Rattle.schema.specs.Content.{Value}
use Rattle.records.specs.declared.FieldList.{FieldList}
use Rattle.records.specs.declared.Record.{Record}
use Rattle.records.specs.Content.{octets_at, part_of, value_at}

-- whether row k's field is present
abbrev pub present_at : FieldList → ℕ → Bool
present_at l k = get_or l.present k false

-- what its field says, were it present
abbrev pub content_at : FieldList → List ℕ → ℕ → Value
content_at l s k = value_at l (octets_at s) (row_at k).number (row_at k).kind k

-- "which fields each list holds and those fields' contents are the same"
pub record SameRow (l : FieldList) (s : List ℕ) (l' : FieldList) (s' : List ℕ) (k : ℕ) : Type 0 where
  pub held : present_at l k ≡ present_at l' k
  pub says : present_at l k ≡ true → content_at l s k ≡ content_at l' s' k

-- every row of two lists
abbrev pub SameFields : FieldList → List ℕ → FieldList → List ℕ → Type 0
SameFields l s l' s' = (k : ℕ) → k < row_count → SameRow l s l' s' k

-- "equal exactly when both versions, both levels, challenge, uniqueId" and the lists are the same
pub record Equal (r : Record) (s : List ℕ) (r' : Record) (s' : List ℕ) : Type 0 where
  pub version : r.attestation.version ≡ r'.attestation.version
  pub level : r.attestation.level ≡ r'.attestation.level
  pub keymint : r.keymint.version ≡ r'.keymint.version
  pub keymint_level : r.keymint.level ≡ r'.keymint.level
  pub challenge : part_of s r.challenge ≡ part_of s' r'.challenge
  pub unique : part_of s r.unique ≡ part_of s' r'.unique
  pub software : SameFields r.software s r'.software s'
  pub hardware : SameFields r.hardware s r'.hardware s'
