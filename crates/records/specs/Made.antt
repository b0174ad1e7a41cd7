-- The record of a content whose octet parts are places, every word of it defined: what is absent or spare is zero. The
-- reader answers just this record (reader specs/Reading.antt), so that nothing in it is left open.
use Rattle.std.specs.Prelude.{Bool, true, false, List, [], ◌++◌, map, ℕ, length, take, replicate}
use Rattle.std.proofs.Math.Option.{Option, none, some}
use Rattle.schema.specs.Table.{Row, rows}
use Rattle.schema.specs.Content.{RootWith, ValueWith, num, nul, oct, nums, trust, FieldWith, Place, place_at, Places}
use Rattle.records.specs.Empty.{empty_root}
use Rattle.records.specs.Fields.{field_value}
use Rattle.records.specs.declared.Part.{Part}
use Rattle.records.specs.declared.NumberSet.{NumberSet}
use Rattle.records.specs.declared.RootOfTrust.{RootOfTrust}
use Rattle.records.specs.declared.FieldList.{FieldList}
use Rattle.records.specs.declared.Record.{Record}

abbrev pub part_at : Place → Part
part_at p = record { start = p.start; len = p.len }

-- ---- what a field's value leaves in its row; an absent one leaves nothing

unfoldable pub is_there : Option (ValueWith Place) → Bool
is_there none = false
is_there (some x) = true

-- a number, or the start of octets
unfoldable pub value_word : ValueWith Place → ℕ
value_word (num n) = n
value_word nul = 0
value_word (oct p) = p.start
value_word (nums l) = 0
value_word (trust r) = 0

-- the length of octets
unfoldable pub size_word : ValueWith Place → ℕ
size_word (num n) = 0
size_word nul = 0
size_word (oct p) = p.len
size_word (nums l) = 0
size_word (trust r) = 0

unfoldable pub or_zero : (ValueWith Place → ℕ) → Option (ValueWith Place) → ℕ
or_zero f none = 0
or_zero f (some x) = f x

-- ---- what has its own place: the sets, and 704

-- "A set holds at most 16 numbers .., kept with their count": the slots past them are 0
abbrev pub set_made : List ℕ → NumberSet
set_made l = record { members = take 16 (l ++ replicate 16 0); count = length l }

unfoldable pub members_in : Option (ValueWith Place) → List ℕ
members_in none = []
members_in (some (num n)) = []
members_in (some nul) = []
members_in (some (oct p)) = []
members_in (some (nums l)) = l
members_in (some (trust r)) = []

unfoldable pub is_hashed : Option Place → Bool
is_hashed none = false
is_hashed (some p) = true

unfoldable pub hash_at : Option Place → Place
hash_at none = place_at 0 0
hash_at (some p) = p

abbrev pub root_made : RootWith Place → RootOfTrust
root_made r = record { key = part_at r.key; locked = r.locked; state = r.state; hashed = is_hashed r.hash; hash = part_at (hash_at r.hash) }

unfoldable pub root_in : Option (ValueWith Place) → RootOfTrust
root_in none = empty_root
root_in (some (num n)) = empty_root
root_in (some nul) = empty_root
root_in (some (oct p)) = empty_root
root_in (some (nums l)) = empty_root
root_in (some (trust r)) = root_made r

-- ---- the whole

abbrev pub list_made : List (FieldWith Place) → FieldList
list_made fs = record {
  present = map (λ (r : Row). is_there (field_value fs r.number)) rows;
  values = map (λ (r : Row). or_zero value_word (field_value fs r.number)) rows;
  sizes = map (λ (r : Row). or_zero size_word (field_value fs r.number)) rows;
  purpose = set_made (members_in (field_value fs 1));
  digest = set_made (members_in (field_value fs 5));
  padding = set_made (members_in (field_value fs 6));
  mgf = set_made (members_in (field_value fs 203));
  root = root_in (field_value fs 704);
}

abbrev pub record_made : Places → Record
record_made c = record {
  attestation = record { version = c.version; level = c.level };
  keymint = record { version = c.keymint; level = c.keymint_level };
  challenge = part_at c.challenge;
  unique = part_at c.unique;
  software = list_made c.software;
  hardware = list_made c.hardware;
}
