-- What each function of include/sculldrip.h answers and leaves, by the definitions that the rest of the project is proved
-- against. Slices that are too short come first (200), then an image that is of no record (20); a refusal changes nothing.
-- Statements has what is proved of these answers.
use Rattle.std.specs.Prelude.{◌≡◌, Bool, not, List, [], ◌∷◌, ℕ, length, get_or, eqb, leb}
use Rattle.std.specs.Bool.{then_some}
use Rattle.std.proofs.Math.Option.{Option, none, some}
use Rattle.answer.specs.Answer.{Answer, got, refused, guard, bind}
use Rattle.answer.specs.Refusal.{short_image}
use Rattle.codec.specs.Octets.{splice}
use Rattle.schema.specs.Content.{Content}
use Rattle.schema.specs.Decode.{read}
use Rattle.records.specs.declared.Record.{Record}
use Rattle.octet_fields.specs.Asked.{asked_octets}
use Rattle.reader.specs.Reading.{Reads}
use Rattle.writer.specs.Written.{written, left_by}
use Rattle.ruling.specs.Ruling.{Permit, ruling}
use Rattle.ruling.specs.declared.request.Request.{Request}
use Rattle.enrolment.specs.Enrolled.{enrolled}
use Rattle.extension_text.specs.Bytes.{extension_listed}
use Rattle.image.specs.Image.{image_of, record_in}
use Rattle.image.specs.Whole.{WholeRecord}
use Rattle.sculldrip.specs.Packed.{packed}

-- at least n words, or 200
abbrev pub at_least : {A : Type 0} → ℕ → List ℕ → Answer A → Answer A
at_least n words next = guard (leb n (length words)) short_image 0 next

-- what is answered of an image's record
abbrev pub of_image : {A : Type 0} → List ℕ → (Record → Answer A) → Answer A
of_image image next = bind (record_in image) next

-- the count, length or 0 that stands beside what was answered
abbrev pub beside : {A : Type 0} → (A → ℕ) → Answer A → Answer ℕ
beside count (got a) = got (count a)
beside count (refused number place) = refused number place

-- the words of what was answered, at the front; not one changed where it is refused
abbrev pub leaves : {A : Type 0} → (A → List ℕ) → Answer A → List ℕ → List ℕ
leaves words (got a) old = splice old 0 (words a)
leaves words (refused number place) old = old

-- ---- sculldrip_version

-- "the interface's version"
abbrev pub interface_version : ℕ
interface_version = 2

-- ---- sculldrip_read

unfoldable pub read_into : List ℕ → List ℕ → Answer (Content × ℕ)
read_into s image = at_least 410 image (read s)

-- the count of elements beside what was read
abbrev pub elements : Answer (Content × ℕ) → Answer ℕ
elements a = beside (λ c. c.1) a

abbrev pub read_answer : List ℕ → List ℕ → ℕ
read_answer s image = packed (elements (read_into s image))

-- the words of a record as the code has it, of which all holds that is promised of a record read from s with n elements
-- (reader Reading: what it says, that it is well-shaped, where its parts lie), at the front; the words after them stay
pub record ImageOfRead (s old new : List ℕ) (n : ℕ) : Type 0 where
  pub said : Record
  pub reads : Reads s (got n) said
  pub whole : WholeRecord said
  pub image : new ≡ splice old 0 (image_of said)

-- what a read of s with this answer leaves of an image
abbrev pub LeavesRead : Answer (Content × ℕ) → List ℕ → List ℕ → List ℕ → Type 0
LeavesRead (got c) s old new = ImageOfRead s old new c.1
LeavesRead (refused number place) s old new = new ≡ old

abbrev pub ReadLeaves : List ℕ → List ℕ → List ℕ → Type 0
ReadLeaves s old new = LeavesRead (read_into s old) s old new

-- ---- sculldrip_write

unfoldable pub write_image : List ℕ → List ℕ → List ℕ → Answer ℕ
write_image image s out = of_image image (λ r. written r s out)

abbrev pub write_answer : List ℕ → List ℕ → List ℕ → ℕ
write_answer image s out = packed (write_image image s out)

-- what the writer leaves, where there is a record
abbrev pub record_leaves : Answer Record → List ℕ → List ℕ → List ℕ
record_leaves (got r) s out = left_by r s out
record_leaves (refused number place) s out = out

abbrev pub write_leaves : List ℕ → List ℕ → List ℕ → List ℕ
write_leaves image s out = record_leaves (record_in image) s out

-- ---- sculldrip_octets

-- 0 software, else hardware
unfoldable pub ask_image : List ℕ → ℕ → ℕ → ℕ → List ℕ → Answer (Option (ℕ × ℕ))
ask_image image hardware number len part = at_least 2 part (of_image image (λ r. asked_octets r (not (eqb hardware 0)) number len))

abbrev pub asked : Option (ℕ × ℕ) → ℕ
asked (some p) = 1
asked none = 0

abbrev pub part_words : Option (ℕ × ℕ) → List ℕ
part_words (some p) = p.0 ∷ p.1 ∷ []
part_words none = []

abbrev pub asked_beside : List ℕ → ℕ → ℕ → ℕ → List ℕ → Answer ℕ
asked_beside image hardware number len part = beside asked (ask_image image hardware number len part)

abbrev pub ask_answer : List ℕ → ℕ → ℕ → ℕ → List ℕ → ℕ
ask_answer image hardware number len part = packed (asked_beside image hardware number len part)

abbrev pub ask_leaves : List ℕ → ℕ → ℕ → ℕ → List ℕ → List ℕ
ask_leaves image hardware number len part = leaves part_words (ask_image image hardware number len part) part

-- ---- sculldrip_rule

-- "A yes-or-no word is yes where it is not 0"
abbrev pub is_yes : ℕ → Bool
is_yes n = not (eqb n 0)

-- "purpose, digest, padding, clock and clock floor, uptime, operation handle, whether there is a token, the token's type
-- bits, uptime and challenge; whether the device is locked, the user present, the user's confirmation given, early boot
-- over; uses so far"
unfoldable pub request_of : List ℕ → Request
request_of w = record {
  purpose = get_or w 0 0;
  digest = get_or w 1 0;
  padding = get_or w 2 0;
  clock = get_or w 3 0;
  floor = get_or w 4 0;
  uptime = get_or w 5 0;
  handle = get_or w 6 0;
  token = then_some (is_yes (get_or w 7 0)) (record { kinds = get_or w 8 0; time = get_or w 9 0; challenge = get_or w 10 0 });
  locked = is_yes (get_or w 11 0);
  present = is_yes (get_or w 12 0);
  confirmed = is_yes (get_or w 13 0);
  early_boot_over = is_yes (get_or w 14 0);
  uses = get_or w 15 0;
}

-- "the hardware mark, how many bits it has, the software mark, how many bits it has"
abbrev pub permit_words : Permit → List ℕ
permit_words p = p.hardware ∷ p.hardware_bits ∷ p.software ∷ p.software_bits ∷ []

unfoldable pub rule_image : List ℕ → List ℕ → List ℕ → Answer Permit
rule_image image request permit = at_least 16 request (at_least 4 permit (of_image image (λ r. ruling r (request_of request))))

abbrev pub rule_beside : List ℕ → List ℕ → List ℕ → Answer ℕ
rule_beside image request permit = beside (λ p. 0) (rule_image image request permit)

abbrev pub rule_answer : List ℕ → List ℕ → List ℕ → ℕ
rule_answer image request permit = packed (rule_beside image request permit)

abbrev pub rule_leaves : List ℕ → List ℕ → List ℕ → List ℕ
rule_leaves image request permit = leaves permit_words (rule_image image request permit) permit

-- ---- sculldrip_enrol

unfoldable pub enrol_image : List ℕ → List ℕ → List ℕ → Answer (Unit {0})
enrol_image image s expected = of_image image (λ r. enrolled r s expected)

abbrev pub enrol_beside : List ℕ → List ℕ → List ℕ → Answer ℕ
enrol_beside image s expected = beside (λ u. 0) (enrol_image image s expected)

abbrev pub enrol_answer : List ℕ → List ℕ → List ℕ → ℕ
enrol_answer image s expected = packed (enrol_beside image s expected)

-- ---- sculldrip_list

abbrev pub list_answer : List ℕ → List ℕ → ℕ
list_answer s out = packed (extension_listed s out)
