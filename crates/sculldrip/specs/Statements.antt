-- What is proved of the answers of include/sculldrip.h, beyond that they are those of Calls. Read first Tells, ReadAnswers
-- and its neighbours: what a caller learns from the number, and which refusals can be met (proofs/Numbers.antt); then SameWritten and its neighbours: what is not looked
-- at does not matter (proofs/Same.antt); then ReadBack: what stands in an image after a read (proofs/ImageRead.antt).
use Rattle.std.specs.Prelude.{◌≡◌, Bool, true, false, ◌&&◌, ◌||◌, List, [], ◌∷◌, ℕ, ◌/◌, ◌%◌, ◌≤◌, T, eqb, leb, length, drop}
use Rattle.answer.specs.Answer.{Answer, got, refused}
use Rattle.codec.specs.Octets.{Octets}
use Rattle.reader.specs.Reading.{Reads}
use Rattle.image.specs.Image.{record_of, words_fit}
use Rattle.image.specs.Agree.{Agree}
use Rattle.extension_text.specs.Bytes.{extension_listed}
use Rattle.sculldrip.specs.Packed.{rest_top, rest}
use Rattle.sculldrip.specs.Calls.{ImageOfRead, beside, read_into, read_answer, write_image, write_answer, write_leaves, asked, ask_image, ask_answer, ask_leaves, rule_image, rule_answer, rule_leaves, enrol_image, enrol_answer, list_answer}

-- "Its low byte is 0 where the function did what it is for, and then the rest (answer >> 8) is a count or a length; else the
-- low byte is the refusal's number .. and the rest is the byte place"
abbrev pub low_byte : ℕ → ℕ
low_byte answer = answer % 256

abbrev pub rest_of : ℕ → ℕ
rest_of answer = answer / 256

-- the number tells what was answered: 0, which no refusal has, or a refusal that may be met there
abbrev pub Tells : (ℕ → Bool) → Answer ℕ → ℕ → Type 0
Tells may (got n) answer = (low_byte answer ≡ 0) × (rest_of answer ≡ rest n)
Tells may (refused number place) answer = T (may number) × (1 ≤ number) × (low_byte answer ≡ number) × (rest_of answer ≡ rest place)

abbrev pub one_of : List ℕ → ℕ → Bool
one_of [] n = false
one_of (k ∷ ks) n = eqb n k || one_of ks n

-- a count, length or place of a buffer stands there whole: no buffer comes near the 2^56 that the rest can hold
abbrev pub RestWhole : Type 0
RestWhole = (n : ℕ) → n ≤ rest_top → rest n ≡ n

-- "Refusals 1 to 14, and 200"
abbrev pub read_refusal : ℕ → Bool
read_refusal n = leb n 14 || eqb n 200

abbrev pub ReadAnswers : Type 0
ReadAnswers = (s image : List ℕ) → Octets s → Tells read_refusal (beside (λ c. c.1) (read_into s image)) (read_answer s image)

-- "Refusals 20, 22 and 21 in that order, and 200"
abbrev pub WriteAnswers : Type 0
WriteAnswers = (image s out : List ℕ) → Tells (one_of (20 ∷ 21 ∷ 22 ∷ 200 ∷ [])) (write_image image s out) (write_answer image s out)

-- "Refusals 20 and 200"
abbrev pub OctetsAnswers : Type 0
OctetsAnswers =
    (image : List ℕ) (hardware number len : ℕ) (part : List ℕ)
    → Tells (one_of (20 ∷ 200 ∷ [])) (beside asked (ask_image image hardware number len part)) (ask_answer image hardware number len part)

-- "Refusals 20 and 30 to 46, and 200"
abbrev pub rule_refusal : ℕ → Bool
rule_refusal n = one_of (20 ∷ 200 ∷ []) n || (leb 30 n && leb n 46)

abbrev pub RuleAnswers : Type 0
RuleAnswers = (image request permit : List ℕ) → Tells rule_refusal (beside (λ p. 0) (rule_image image request permit)) (rule_answer image request permit)

-- "Refusals 20 and 50 to 55, and 200"
abbrev pub enrol_refusal : ℕ → Bool
enrol_refusal n = one_of (20 ∷ 200 ∷ []) n || (leb 50 n && leb n 55)

abbrev pub EnrolAnswers : Type 0
EnrolAnswers = (image s expected : List ℕ) → Tells enrol_refusal (beside (λ u. 0) (enrol_image image s expected)) (enrol_answer image s expected)

-- ".. or the answer is 21"
abbrev pub ListAnswers : Type 0
ListAnswers = (s out : List ℕ) → Tells (one_of (21 ∷ [])) (extension_listed s out) (list_answer s out)

-- ---- "an absent field's words are never looked at, nor are slots past a count"

-- images that agree on the words that are looked at are written as the same bytes
abbrev pub SameWritten : Type 0
SameWritten =
    (w w' s out : List ℕ) → Agree w w'
    → (write_answer w s out ≡ write_answer w' s out) × (write_leaves w s out ≡ write_leaves w' s out)

-- and have the same octet fields
abbrev pub SameOctets : Type 0
SameOctets =
    (w w' : List ℕ) (hardware number len : ℕ) (part : List ℕ) → Agree w w'
    → (ask_answer w hardware number len part ≡ ask_answer w' hardware number len part)
    × (ask_leaves w hardware number len part ≡ ask_leaves w' hardware number len part)

-- and get the same rulings
abbrev pub SameRuled : Type 0
SameRuled =
    (w w' request permit : List ℕ) → Agree w w'
    → (rule_answer w request permit ≡ rule_answer w' request permit) × (rule_leaves w request permit ≡ rule_leaves w' request permit)

abbrev pub SameEnrolled : Type 0
SameEnrolled = (w w' s expected : List ℕ) → Agree w w' → enrol_answer w s expected ≡ enrol_answer w' s expected

-- ---- what a read that accepts leaves, said of the image alone

-- the image's own record is one of which all holds that is promised of a record read, and its words fit; the words after
-- the first 410 are as they were
pub record ReadImage (s old new : List ℕ) (n : ℕ) : Type 0 where
  pub reads : Reads s (got n) (record_of new)
  pub fits : words_fit new ≡ true
  pub rest : drop 410 new ≡ drop 410 old
  pub sized : length new ≡ length old

abbrev pub ReadBack : Type 0
ReadBack = (s old new : List ℕ) (n : ℕ) → 410 ≤ length old → ImageOfRead s old new n → ReadImage s old new n
