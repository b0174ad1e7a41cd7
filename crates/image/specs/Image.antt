-- include/sculldrip.h: "A record is an image of SCULLDRIP_IMAGE_WORDS words", 410 of them: 8, and 201 for each list.
use Rattle.std.specs.Prelude.{Bool, true, ◌&&◌, cond, List, [], ◌∷◌, ◌++◌, map, ℕ, ◌+◌, ◌%◌, length, get_or, take, drop, eqb, leb, ltb, Result, Ok, Err}
use Rattle.answer.specs.declared.Refusal.{Refusal}
use Rattle.answer.specs.Answer.{Answer, got, refused, guard, pick}
use Rattle.answer.specs.Refusal.{number_of, ill_shaped, short_image}
use Rattle.codec.specs.Octets.{splice}
use Rattle.schema.specs.Table.{top32, rows, index_of}
use Rattle.records.specs.Rows.{all_below}
use Rattle.records.specs.declared.Part.{Part}
use Rattle.records.specs.declared.Security.{Security}
use Rattle.records.specs.declared.NumberSet.{NumberSet}
use Rattle.records.specs.declared.RootOfTrust.{RootOfTrust}
use Rattle.records.specs.declared.FieldList.{FieldList}
use Rattle.records.specs.declared.Record.{Record}

-- ---- the words of a record

-- a flag is 1 or 0
abbrev pub flag_word : Bool → ℕ
flag_word b = cond b 1 0

-- a number is itself
abbrev pub number_word : ℕ → ℕ
number_word n = n

-- "16 slots for members and .. how many of them are members"
unfoldable pub set_words : NumberSet → List ℕ
set_words g = g.members ++ (g.count ∷ [])

-- "key start, key length, locked (1 or 0), boot state, 1 where there is a boot hash else 0, hash start, hash length"
unfoldable pub root_words : RootOfTrust → List ℕ
root_words t =
    t.key.start
    ∷ t.key.len
    ∷ flag_word t.locked
    ∷ t.state
    ∷ flag_word t.hashed
    ∷ t.hash.start
    ∷ t.hash.len
    ∷ []

-- purpose, digest, padding and mgfDigest
unfoldable pub sets_words : FieldList → List ℕ
sets_words l = set_words l.purpose ++ (set_words l.digest ++ (set_words l.padding ++ set_words l.mgf))

-- "a list, counted from its first word": flags, numbers or starts, lengths, the four sets and the root of trust
unfoldable pub list_words : FieldList → List ℕ
list_words l =
    map flag_word l.present
    ++ (l.values
    ++ (l.sizes
    ++ (sets_words l
    ++ root_words l.root)))

-- versions and levels, challenge and uniqueId
unfoldable pub head_words : Record → List ℕ
head_words r =
    r.attestation.version
    ∷ r.attestation.level
    ∷ r.keymint.version
    ∷ r.keymint.level
    ∷ r.challenge.start
    ∷ r.challenge.len
    ∷ r.unique.start
    ∷ r.unique.len
    ∷ []

unfoldable pub image_of : Record → List ℕ
image_of r = head_words r ++ (list_words r.software ++ list_words r.hardware)

-- ---- the record of words, each part counted from its own first word. Every word gives something, so that a word that is
-- not looked at need not be tested; what is looked at is tested below, and loses nothing.

-- a flag is set where its word is 1
abbrev pub is_set : ℕ → Bool
is_set n = eqb n 1

-- the low 32 bits of a word
abbrev pub low : ℕ → ℕ
low n = n % 0x1_0000_0000

unfoldable pub set_from : List ℕ → NumberSet
set_from w = record { members = map low (take 16 w); count = get_or w 16 0 }

-- a start and a length, from word k on
abbrev pub part_from : List ℕ → ℕ → Part
part_from w k = record { start = get_or w k 0; len = get_or w (k + 1) 0 }

-- a version and a level, from word k on
abbrev pub security_from : List ℕ → ℕ → Security
security_from w k = record { version = low (get_or w k 0); level = low (get_or w (k + 1) 0) }

unfoldable pub root_from_words : List ℕ → RootOfTrust
root_from_words w = record {
  key = part_from w 0;
  locked = is_set (get_or w 2 0);
  state = low (get_or w 3 0);
  hashed = is_set (get_or w 4 0);
  hash = part_from w 5;
}

unfoldable pub list_from : List ℕ → FieldList
list_from w = record {
  present = map is_set (take 42 w);
  values = take 42 (drop 42 w);
  sizes = take 42 (drop 84 w);
  purpose = set_from (drop 126 w);
  digest = set_from (drop 143 w);
  padding = set_from (drop 160 w);
  mgf = set_from (drop 177 w);
  root = root_from_words (drop 194 w);
}

unfoldable pub record_of : List ℕ → Record
record_of w = record {
  attestation = security_from w 0;
  keymint = security_from w 2;
  challenge = part_from w 4;
  unique = part_from w 6;
  software = list_from (drop 8 w);
  hardware = list_from (drop 209 w);
}

-- ---- "an absent field's words are never looked at, nor are slots past a count": of the words that are looked at, those of
-- a version, a level, a member or a boot state hold 32 bits, and flags are 0 or 1

-- word k is at most top
abbrev pub at_most_at : ℕ → List ℕ → ℕ → Bool
at_most_at top w k = leb (get_or w k 0) top

-- word k holds 32 bits
abbrev pub narrow_at : List ℕ → ℕ → Bool
narrow_at w k = leb (get_or w k 0) top32

-- word k is a flag
abbrev pub flag_at : List ℕ → ℕ → Bool
flag_at w k = leb (get_or w k 0) 1

-- the word that says whether a list has the field of this number
abbrev pub flag_of : List ℕ → ℕ → ℕ
flag_of w number = get_or w (index_of rows number) 0

-- how many slots stand before a count
abbrev pub slots_below : ℕ → ℕ
slots_below count = pick (ltb count 16) count 16

-- the members of a set that is there
unfoldable pub set_fits : ℕ → List ℕ → Bool
set_fits flag w = pick (is_set flag) (all_below (narrow_at w) (slots_below (get_or w 16 0))) true

-- locked, boot state and whether there is a boot hash, of a root of trust that is there
unfoldable pub root_fits : ℕ → List ℕ → Bool
root_fits flag w = pick (is_set flag) (flag_at w 2 && (narrow_at w 3 && flag_at w 4)) true

unfoldable pub list_fits : List ℕ → Bool
list_fits w =
    all_below (flag_at w) 42
    && (set_fits (flag_of w 1) (drop 126 w)
    && (set_fits (flag_of w 5) (drop 143 w)
    && (set_fits (flag_of w 6) (drop 160 w)
    && (set_fits (flag_of w 203) (drop 177 w)
    && root_fits (flag_of w 704) (drop 194 w)))))

unfoldable pub words_fit : List ℕ → Bool
words_fit w = all_below (narrow_at w) 4 && (list_fits (drop 8 w) && list_fits (drop 209 w))

-- ---- what the functions answer and leave

-- too few words are 200, and words that no record has 20
unfoldable pub record_in : List ℕ → Answer Record
record_in image = guard (leb 410 (length image)) short_image 0 (guard (words_fit image) ill_shaped 0 (got (record_of image)))

-- the code's answer in these terms
abbrev pub of_imaged : Result Record Refusal → Answer Record
of_imaged (Ok r) = got r
of_imaged (Err n) = refused (number_of n) 0

-- the words of a record at the front of old, and all else as it was; where old has too few words it stays
unfoldable pub image_put : List ℕ → Record → List ℕ
image_put old r = pick (leb 410 (length old)) (splice old 0 (image_of r)) old
