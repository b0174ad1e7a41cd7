-- A list as the code fills it: what an empty one is, and what storing a field leaves.
use Rattle.std.specs.Prelude.{◌≡◌, true, List, ℕ, ◌<◌, ◌≤◌, eqb, set, length, Result, Ok, Err, IfOk}
use Rattle.std.specs.Result.{OnOk}
use Rattle.std.proofs.Math.Seq.{slice}
use Rattle.answer.specs.Answer.{Answer, got, refused, pick, answer_of}
use Rattle.answer.specs.Refusal.{number_of}
use Rattle.answer.specs.declared.Refused.{Refused}
use Rattle.codec.specs.Octets.{Taken, taken}
use Rattle.codec.specs.Element.{chain}
use Rattle.schema.specs.Content.{FieldWith, Place, place_at, after_field}
use Rattle.schema.specs.Table.{row_at}
use Rattle.schema.specs.Decode.{read_value, read_field, read_list, as_place}
use Rattle.records.specs.Content.{fields_of}
use Rattle.records.specs.declared.FieldList.{FieldList}
use Rattle.records.specs.declared.NumberSet.{NumberSet}
use Rattle.records.specs.declared.RootOfTrust.{RootOfTrust}
use Rattle.contents.specs.Content.{Stored, content_value}
use Rattle.contents.specs.Kept.{ContentKept}
use Rattle.reader.specs.Inside.{ListIn}
use Rattle.reader.specs.declared.field.FieldHead.{FieldHead}

-- the list with row present, its number or part stored; a set and 704 in their own place
abbrev pub with_field : FieldList → ℕ → Stored → FieldList
with_field l row c = record {
  present = set l.present row true;
  values = set l.values row c.value;
  sizes = set l.sizes row c.size;
  purpose = pick (eqb row 0) c.set l.purpose;
  digest = pick (eqb row 3) c.set l.digest;
  padding = pick (eqb row 4) c.set l.padding;
  mgf = pick (eqb row 7) c.set l.mgf;
  root = pick (eqb row 26) c.root l.root;
}

-- the fields of a list's content, read one after the other
unfoldable pub fields_from : ℕ → ℕ → List ℕ → Answer (List (FieldWith Place))
fields_from v p bs = chain (read_field as_place v) after_field 0 p bs

-- what the list says, where it was read
abbrev pub of_fields : Result (Unit {0}) Refused → FieldList → Answer (List (FieldWith Place))
of_fields r l = answer_of (λ u. fields_of l place_at) r

abbrev pub of_list : List ℕ → ℕ → Result ℕ Refused → FieldList → Answer (Taken (List (FieldWith Place)))
of_list s end r l = answer_of (λ x. taken (fields_of l place_at) x (slice x end s)) r

-- the list with a set in the place that row has
abbrev pub with_set : FieldList → ℕ → NumberSet → FieldList
with_set l row g = record {
  present = l.present;
  values = l.values;
  sizes = l.sizes;
  purpose = pick (eqb row 0) g l.purpose;
  digest = pick (eqb row 3) g l.digest;
  padding = pick (eqb row 4) g l.padding;
  mgf = pick (eqb row 7) g l.mgf;
  root = l.root;
}

-- the list with a root of trust
abbrev pub with_root : FieldList → RootOfTrust → FieldList
with_root l t = record { present = l.present; values = l.values; sizes = l.sizes; purpose = l.purpose; digest = l.digest; padding = l.padding; mgf = l.mgf; root = t }

-- the list with row present, and these words in it
abbrev pub with_row : FieldList → ℕ → ℕ → ℕ → FieldList
with_row l row value size = record {
  present = set l.present row true;
  values = set l.values row value;
  sizes = set l.sizes row size;
  purpose = l.purpose;
  digest = l.digest;
  padding = l.padding;
  mgf = l.mgf;
  root = l.root;
}

-- the field's content, all of s from its body on, is read and stored; or what it is refused with
abbrev pub StoredAs : List ℕ → ℕ → FieldHead → FieldList → FieldList → Result (Unit {0}) Refused → Type 0
StoredAs s v f old new (Ok u) =
    (c : Stored)
    × ((p : ℕ) → got (content_value (row_at f.row).kind c) ≡ read_value as_place v (row_at f.row).kind p f.body (slice f.body (length s) s))
    × ContentKept (row_at f.row).kind (length s) c
    × (new ≡ with_field old f.row c)
StoredAs s v f old new (Err r) = (p : ℕ) → refused (number_of r.0) r.1 ≡ read_value as_place v (row_at f.row).kind p f.body (slice f.body (length s) s)

-- the fields are read into a list
abbrev pub FieldsRead : List ℕ → ℕ → ℕ → FieldList → Result (Unit {0}) Refused → Type 0
FieldsRead s at v l r = (of_fields r l ≡ fields_from v at (slice at (length s) s)) × OnOk r (ListIn (length s) l)

-- a SEQUENCE of them is
abbrev pub ListRead : List ℕ → ℕ → ℕ → FieldList → Result ℕ Refused → Type 0
ListRead s at v l r = (of_list s (length s) r l ≡ read_list as_place v at (slice at (length s) s)) × IfOk r (λ x. (at < x) × ((x ≤ length s) × ListIn (length s) l))
