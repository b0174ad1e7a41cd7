-- What each function that puts lines leaves: its text, and how long that is at most.
use Rattle.std.specs.Prelude.{List, ℕ, ◌+◌, ◌*◌, length}
use Rattle.codec.specs.Octets.{left}
use Rattle.answer.specs.Answer.{Answer}
use Rattle.schema.specs.Rows.{of_kind}
use Rattle.schema.specs.declared.Row.{Row}
use Rattle.records.specs.declared.Part.{Part}
use Rattle.records.specs.declared.Security.{Security}
use Rattle.records.specs.declared.RootOfTrust.{RootOfTrust}
use Rattle.records.specs.declared.FieldList.{FieldList}
use Rattle.records.specs.declared.Record.{Record}
use Rattle.records.specs.Content.{octets_at, part_of, root_of, value_at, fields_of, content_of}
use Rattle.listing.specs.Text.{numbers_line, octets_line, root_text, value_text, field_line, field_lines, head_text, content_text, refusal_text}
use Rattle.listing.specs.Put.{Puts}
use Rattle.listing.specs.declared.Text.{Text}
use Rattle.listing.specs.Room.{parts, field_of, line_room, needed, refusal_needed, listed}

-- a line of two numbers, each after its word
abbrev pub PutsNumbers : Text → List ℕ → ℕ → List ℕ → ℕ → Text → Type 0
PutsNumbers old first a second b new = Puts old (numbers_line first a second b) (length first + length second + 41) new

-- a line of a part of s, after its word
abbrev pub PutsOctets : Text → List ℕ → List ℕ → Part → Text → Type 0
PutsOctets old word s part new = Puts old (octets_line word (part_of s part)) (length word + 2 * length s + 2) new

-- a root of trust, its parts lying in s
abbrev pub PutsRoot : Text → List ℕ → RootOfTrust → Text → Type 0
PutsRoot old s root new = Puts old (root_text (root_of (octets_at s) root)) (4 * length s + 26) new

-- the value of a row
abbrev pub PutsValue : Text → List ℕ → FieldList → ℕ → Row → Text → Type 0
PutsValue old s l place row new =
    Puts old (value_text (value_at l (octets_at s) row.number (of_kind row.kind) place)) (335 + parts (of_kind row.kind) * length s) new

-- the line of a present row, after its list's word
abbrev pub PutsField : Text → List ℕ → List ℕ → FieldList → ℕ → Text → Type 0
PutsField old word s l place new = Puts old (field_line word (field_of l s place)) (line_room (length s) place) new

-- the lines of a list's present fields
abbrev pub PutsList : Text → List ℕ → List ℕ → FieldList → Text → Type 0
PutsList old word s l new = Puts old (field_lines word (fields_of l (octets_at s))) (16128 + 26 * length s) new

-- the lines before the fields
abbrev pub head_of : Security → Security → List ℕ → List ℕ → List ℕ
head_of attestation keymint challenge unique = head_text attestation.version attestation.level keymint.version keymint.level challenge unique

abbrev pub PutsHead : Text → List ℕ → Security → Security → Part → Part → Text → Type 0
PutsHead old s attestation keymint challenge unique new =
    Puts old (head_of attestation keymint (part_of s challenge) (part_of s unique)) (133 + 4 * length s) new

-- ---- all the lines of a record whose octet parts lie in s, of an extension of count elements

abbrev pub record_text : Record → ℕ → List ℕ → List ℕ
record_text r count s = content_text (content_of r s) count

abbrev pub PutsRecord : Text → List ℕ → Record → ℕ → Text → Type 0
PutsRecord old s r count new = Puts old (record_text r count s) (needed (length s)) new

-- what listing it answers, and what that leaves
abbrev pub record_listed : Record → ℕ → List ℕ → List ℕ → Answer ℕ
record_listed r count s out = listed (needed (length s)) out (record_text r count s)

abbrev pub record_left : Record → ℕ → List ℕ → List ℕ → List ℕ
record_left r count s out = left (record_listed r count s out) out 0 (record_text r count s)

-- the same of a refusal
abbrev pub refusal_listed : ℕ → ℕ → List ℕ → Answer ℕ
refusal_listed number place out = listed refusal_needed out (refusal_text number place)

abbrev pub refusal_left : ℕ → ℕ → List ℕ → List ℕ
refusal_left number place out = left (refusal_listed number place out) out 0 (refusal_text number place)
