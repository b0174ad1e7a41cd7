-- A record that says nothing, as it stands beside a refusal and before anything is read.
use Rattle.std.specs.Prelude.{false, replicate}
use Rattle.schema.specs.Table.{row_count}
use Rattle.records.specs.declared.NumberSet.{NumberSet}
use Rattle.records.specs.declared.RootOfTrust.{RootOfTrust}
use Rattle.records.specs.declared.FieldList.{FieldList}
use Rattle.records.specs.declared.Record.{Record}

abbrev pub empty_set : NumberSet
empty_set = record { members = replicate 16 0; count = 0 }

abbrev pub empty_root : RootOfTrust
empty_root = record { key = record { start = 0; len = 0 }; locked = false; state = 0; hashed = false; hash = record { start = 0; len = 0 } }

abbrev pub empty_list : FieldList
empty_list = record {
  present = replicate row_count false;
  values = replicate row_count 0;
  sizes = replicate row_count 0;
  purpose = empty_set;
  digest = empty_set;
  padding = empty_set;
  mgf = empty_set;
  root = empty_root;
}

abbrev pub empty_record : Record
empty_record = record {
  attestation = record { version = 0; level = 0 };
  keymint = record { version = 0; level = 0 };
  challenge = record { start = 0; len = 0 };
  unique = record { start = 0; len = 0 };
  software = empty_list;
  hardware = empty_list;
}
