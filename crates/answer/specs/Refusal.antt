-- Document 01, "Numbers of the reader and writer": a name for each refusal's number, as in src/lib.rt.
use Rattle.std.specs.Prelude.{ℕ}
use Rattle.answer.specs.declared.Refusal.{Refusal}

-- over the limit of bytes
abbrev pub too_long : ℕ
too_long = 1

-- an element is missing at the top, or identifier, length or content runs out of its holder
abbrev pub runs_out : ℕ
runs_out = 2

-- identifier against the rules
abbrev pub bad_identifier : ℕ
bad_identifier = 3

-- length against the rules
abbrev pub bad_length : ℕ
bad_length = 4

-- one level deeper than allowed ("depth 9")
abbrev pub too_deep : ℕ
too_deep = 5

-- one element more than allowed ("element 513")
abbrev pub too_many_elements : ℕ
too_many_elements = 6

-- bytes after the outermost element
abbrev pub spare_bytes : ℕ
spare_bytes = 7

-- version unknown
abbrev pub unknown_version : ℕ
unknown_version = 8

-- wrong, missing or extra element
abbrev pub wrong_element : ℕ
wrong_element = 9

-- INTEGER, ENUMERATED, BOOLEAN or NULL content wrong or above its top
abbrev pub bad_content : ℕ
bad_content = 10

-- number not in this version
abbrev pub not_in_version : ℕ
not_in_version = 11

-- number not above the one before
abbrev pub field_order : ℕ
field_order = 12

-- member not above the one before
abbrev pub member_order : ℕ
member_order = 13

-- 17th member
abbrev pub too_many_members : ℕ
too_many_members = 14

-- record not well-shaped, or an octet part outside its buffer
abbrev pub ill_shaped : ℕ
ill_shaped = 20

-- output shorter than the encoding
abbrev pub output_short : ℕ
output_short = 21

-- the encoding has over 8,192 bytes
abbrev pub encoding_too_long : ℕ
encoding_too_long = 22

-- ---- document 01, "The use ruling"

-- the purpose is not DECRYPT, SIGN, AGREE_KEY or ATTEST_KEY
abbrev pub purpose_unknown : ℕ
purpose_unknown = 30

-- the purpose is not allowed
abbrev pub purpose_not_allowed : ℕ
purpose_not_allowed = 31

-- the algorithm is absent, the lists disagree, or it does not go with the purpose
abbrev pub algorithm_unfit : ℕ
algorithm_unfit = 32

-- the padding does not go with the use, or is not allowed
abbrev pub padding_not_allowed : ℕ
padding_not_allowed = 33

-- the digest does not go with the padding, or is not allowed
abbrev pub digest_not_allowed : ℕ
digest_not_allowed = 34

-- the key size is absent or too small for the digest
abbrev pub key_too_small : ℕ
key_too_small = 35

-- a date applies and the clock is below its floor
abbrev pub clock_below_floor : ℕ
clock_below_floor = 36

-- the clock is before the active date
abbrev pub not_yet_active : ℕ
not_yet_active = 37

-- the clock is after the expiry date that applies
abbrev pub expired : ℕ
expired = 38

-- neither 503 nor 504 is present
abbrev pub no_auth_rule : ℕ
no_auth_rule = 39

-- 504 asks for a token: there is none, or its type shares no bit
abbrev pub token_unfit : ℕ
token_unfit = 40

-- the token is too old, from the future, or for another operation
abbrev pub token_not_fresh : ℕ
token_not_fresh = 41

-- the key asks for an unlocked device
abbrev pub device_locked : ℕ
device_locked = 42

-- the key asks for presence
abbrev pub user_not_present : ℕ
user_not_present = 43

-- the key asks for confirmation
abbrev pub not_confirmed : ℕ
not_confirmed = 44

-- the key is for early boot alone
abbrev pub early_boot_is_over : ℕ
early_boot_is_over = 45

-- the uses so far have reached the limit
abbrev pub used_up : ℕ
used_up = 46

-- ---- document 01, "The enrolment ruling"

-- the expected challenge is not 1 to 128 bytes, or not the one attested
abbrev pub challenge_differs : ℕ
challenge_differs = 50

-- either security level is Software
abbrev pub software_level : ℕ
software_level = 51

-- the hardware list has no 704
abbrev pub no_root_of_trust : ℕ
no_root_of_trust = 52

-- the device is not locked
abbrev pub boot_unlocked : ℕ
boot_unlocked = 53

-- the boot state is not Verified
abbrev pub boot_not_verified : ℕ
boot_not_verified = 54

-- the origin in the hardware list is absent or not 0
abbrev pub origin_not_generated : ℕ
origin_not_generated = 55

-- ---- the C interface, include/sculldrip.h

-- a lent image, request, permit or part has too few words
abbrev pub short_image : ℕ
short_image = 200

-- the number of a refusal of the code
abbrev pub number_of : Refusal → ℕ
number_of Refusal.TooLong = too_long
number_of Refusal.RunsOut = runs_out
number_of Refusal.BadIdentifier = bad_identifier
number_of Refusal.BadLength = bad_length
number_of Refusal.TooDeep = too_deep
number_of Refusal.TooManyElements = too_many_elements
number_of Refusal.SpareBytes = spare_bytes
number_of Refusal.UnknownVersion = unknown_version
number_of Refusal.WrongElement = wrong_element
number_of Refusal.BadContent = bad_content
number_of Refusal.NotInVersion = not_in_version
number_of Refusal.FieldOrder = field_order
number_of Refusal.MemberOrder = member_order
number_of Refusal.TooManyMembers = too_many_members
number_of Refusal.IllShaped = ill_shaped
number_of Refusal.OutputShort = output_short
number_of Refusal.EncodingTooLong = encoding_too_long
number_of Refusal.PurposeUnknown = purpose_unknown
number_of Refusal.PurposeNotAllowed = purpose_not_allowed
number_of Refusal.AlgorithmUnfit = algorithm_unfit
number_of Refusal.PaddingNotAllowed = padding_not_allowed
number_of Refusal.DigestNotAllowed = digest_not_allowed
number_of Refusal.KeyTooSmall = key_too_small
number_of Refusal.ClockBelowFloor = clock_below_floor
number_of Refusal.NotYetActive = not_yet_active
number_of Refusal.Expired = expired
number_of Refusal.NoAuthRule = no_auth_rule
number_of Refusal.TokenUnfit = token_unfit
number_of Refusal.TokenNotFresh = token_not_fresh
number_of Refusal.DeviceLocked = device_locked
number_of Refusal.UserNotPresent = user_not_present
number_of Refusal.NotConfirmed = not_confirmed
number_of Refusal.EarlyBootOver = early_boot_is_over
number_of Refusal.UsedUp = used_up
number_of Refusal.ChallengeDiffers = challenge_differs
number_of Refusal.SoftwareLevel = software_level
number_of Refusal.NoRootOfTrust = no_root_of_trust
number_of Refusal.BootUnlocked = boot_unlocked
number_of Refusal.BootNotVerified = boot_not_verified
number_of Refusal.OriginNotGenerated = origin_not_generated
number_of Refusal.ShortImage = short_image
