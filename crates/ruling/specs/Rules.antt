-- Document 01, "The use ruling": the tags of one list that a use is ruled by, each by the number of its field. What is
-- absent says nothing, and of a set only its members count.
use Rattle.std.specs.Prelude.{Bool, List, ℕ}
use Rattle.std.proofs.Math.Option.{Option, none, some}
use Rattle.schema.specs.Content.{ValueWith, num, nul, oct, nums, trust, FieldWith, Place, place_at}
use Rattle.records.specs.Content.{fields_of}
use Rattle.records.specs.Fields.{field_value}
use Rattle.records.specs.declared.FieldList.{FieldList}
use Rattle.checks.specs.Tags.{there}

-- ---- what a list says of a number

-- "octet parts aren't looked at here": each stays a start and a length
abbrev pub said_fields : FieldList → List (FieldWith Place)
said_fields l = fields_of l place_at

-- the INTEGER of a value, and the members of a set
unfoldable pub number_in : {O : Type 0} → Option (ValueWith O) → Option ℕ
number_in none = none
number_in (some (num n)) = some n
number_in (some nul) = none
number_in (some (oct bs)) = none
number_in (some (nums l)) = none
number_in (some (trust r)) = none

unfoldable pub set_in : {O : Type 0} → Option (ValueWith O) → Option (List ℕ)
set_in none = none
set_in (some (num n)) = none
set_in (some nul) = none
set_in (some (oct bs)) = none
set_in (some (nums l)) = some l
set_in (some (trust r)) = none

-- the INTEGER and the members under a field's number, and whether there is such a field at all
abbrev pub number_under : {O : Type 0} → List (FieldWith O) → ℕ → Option ℕ
number_under fs n = number_in (field_value fs n)

abbrev pub set_under : {O : Type 0} → List (FieldWith O) → ℕ → Option (List ℕ)
set_under fs n = set_in (field_value fs n)

abbrev pub holds_number : {O : Type 0} → List (FieldWith O) → ℕ → Bool
holds_number fs n = there (field_value fs n)

-- ---- the sixteen tags, in the order of a mark's bits

pub record Rules : Type 0 where
  pub purpose : Option (List ℕ)
  pub algorithm : Option ℕ
  pub padding : Option (List ℕ)
  pub digest : Option (List ℕ)
  pub key_size : Option ℕ
  pub active : Option ℕ
  pub origination : Option ℕ
  pub usage : Option ℕ
  pub auth_type : Option ℕ
  pub auth_timeout : Option ℕ
  pub unlocked : Bool
  pub presence : Bool
  pub confirmation : Bool
  pub early_boot : Bool
  pub use_limit : Option ℕ
  pub no_auth : Bool

-- "1 purpose, 5 digest, 6 padding", "400 active, 401 origination expiry, 402 usage expiry", "2 algorithm, 3 keySize",
-- "405 use limit, 504 auth type, 505 auth timeout (seconds)", "305 early boot", "503 no auth", "507 presence, 508
-- confirmation, 509 unlocked"
unfoldable pub rules_of : {O : Type 0} → List (FieldWith O) → Rules
rules_of fs = record {
  purpose = set_under fs 1;
  algorithm = number_under fs 2;
  padding = set_under fs 6;
  digest = set_under fs 5;
  key_size = number_under fs 3;
  active = number_under fs 400;
  origination = number_under fs 401;
  usage = number_under fs 402;
  auth_type = number_under fs 504;
  auth_timeout = number_under fs 505;
  unlocked = holds_number fs 509;
  presence = holds_number fs 507;
  confirmation = holds_number fs 508;
  early_boot = holds_number fs 305;
  use_limit = number_under fs 405;
  no_auth = holds_number fs 503;
}
