-- What is absent or spare in a record is zero: of a record so, nothing is open beyond what it says (proofs/Made.antt:
-- it is `record_made` of its places).
use Rattle.std.specs.Prelude.{◌≡◌, Bool, true, false, ◌&&◌, ℕ, ◌<◌, ◌≤◌, length, get_or}
use Rattle.schema.specs.Table.{Kind, set, number32, number64, null, octets, root, row_at, row_count}
use Rattle.records.specs.Equal.{present_at}
use Rattle.records.specs.Empty.{empty_set, empty_root}
use Rattle.records.specs.declared.NumberSet.{NumberSet}
use Rattle.records.specs.declared.RootOfTrust.{RootOfTrust}
use Rattle.records.specs.declared.FieldList.{FieldList}

-- a present field of this kind has a number or a start in its row
abbrev pub uses_value : Kind → Bool
uses_value set = false
uses_value number32 = true
uses_value number64 = true
uses_value null = false
uses_value octets = true
uses_value root = false

-- and a length
abbrev pub uses_size : Kind → Bool
uses_size set = false
uses_size number32 = false
uses_size number64 = false
uses_size null = false
uses_size octets = true
uses_size root = false

-- slots past a set's count
abbrev pub SpareClear : NumberSet → Type 0
SpareClear g = (k : ℕ) → g.count ≤ k → k < 16 → get_or g.members k 0 ≡ 0

-- the hash that is not there
abbrev pub HashClear : RootOfTrust → Type 0
HashClear t = t.hashed ≡ false → t.hash ≡ record { start = 0; len = 0 }

-- a set, present or not
pub record SetClear (present : Bool) (g : NumberSet) : Type 0 where
  pub spare : SpareClear g
  pub absent : present ≡ false → g ≡ empty_set

pub record RootClear (present : Bool) (t : RootOfTrust) : Type 0 where
  pub hash : HashClear t
  pub absent : present ≡ false → t ≡ empty_root

-- the arrays of a list have their lengths
pub record RowsSized (l : FieldList) : Type 0 where
  pub present : length l.present ≡ row_count
  pub values : length l.values ≡ row_count
  pub sizes : length l.sizes ≡ row_count

pub record ListClear (l : FieldList) : Type 0 where
  pub value : (k : ℕ) → k < row_count → (present_at l k && uses_value (row_at k).kind) ≡ false → get_or l.values k 0 ≡ 0
  pub size : (k : ℕ) → k < row_count → (present_at l k && uses_size (row_at k).kind) ≡ false → get_or l.sizes k 0 ≡ 0
  pub purpose : SetClear (present_at l 0) l.purpose
  pub digest : SetClear (present_at l 3) l.digest
  pub padding : SetClear (present_at l 4) l.padding
  pub mgf : SetClear (present_at l 7) l.mgf
  pub root : RootClear (present_at l 26) l.root
