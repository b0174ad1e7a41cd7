-- A record as the code has it: arrays of their lengths, numbers of their widths, whatever a caller set them to.
use Rattle.std.specs.Prelude.{◌≡◌, true, List, ℕ, ◌≤◌, length}
use Rattle.schema.specs.Table.{top32}
use Rattle.records.specs.Rows.{all_below}
use Rattle.records.specs.declared.FieldList.{FieldList}
use Rattle.records.specs.declared.Record.{Record}
use Rattle.image.specs.Image.{narrow_at}

pub record WholeMembers (members : List ℕ) : Type 0 where
  pub sized : length members ≡ 16
  pub narrow : all_below (narrow_at members) 16 ≡ true

pub record WholeSets (l : FieldList) : Type 0 where
  pub purpose : WholeMembers l.purpose.members
  pub digest : WholeMembers l.digest.members
  pub padding : WholeMembers l.padding.members
  pub mgf : WholeMembers l.mgf.members

pub record WholeList (l : FieldList) : Type 0 where
  pub present : length l.present ≡ 42
  pub values : length l.values ≡ 42
  pub sizes : length l.sizes ≡ 42
  pub sets : WholeSets l
  pub state : l.root.state ≤ top32

pub record WholeHead (r : Record) : Type 0 where
  pub version : r.attestation.version ≤ top32
  pub level : r.attestation.level ≤ top32
  pub keymint : r.keymint.version ≤ top32
  pub keymint_level : r.keymint.level ≤ top32

pub record WholeRecord (r : Record) : Type 0 where
  pub head : WholeHead r
  pub software : WholeList r.software
  pub hardware : WholeList r.hardware
