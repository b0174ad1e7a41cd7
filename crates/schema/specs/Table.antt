-- Document 01, "KeyDescription": the 42 fields, one row each, and what each version holds. Where a start is given it is
-- document 01's; which version holds what is that of the schemas printed in source document 001.
use Rattle.std.specs.Prelude.{Bool, ◌&&◌, ◌||◌, List, [], ◌∷◌, ℕ, suc, get_or, leb, eqb}
use Rattle.std.proofs.Math.Option.{Option, none, some}
use Rattle.answer.specs.Answer.{pick}

pub data Kind : Type 0 where
  set number32 number64 null octets root : Kind

abbrev pub kind_number : Kind → ℕ
kind_number set = 0
kind_number number32 = 1
kind_number number64 = 2
kind_number null = 3
kind_number octets = 4
kind_number root = 5

-- the same kind: kinds are told apart by a number each
abbrev pub is_kind : Kind → Kind → Bool
is_kind k j = eqb (kind_number k) (kind_number j)

-- a field's number, its kind, and the first and last version that hold it
pub record Row : Type 0 where
  pub number : ℕ
  pub kind : Kind
  pub first : ℕ
  pub last : ℕ

abbrev pub row : ℕ → Kind → ℕ → ℕ → Row
row n k f l = record { number = n; kind = k; first = f; last = l }

-- the newest version
abbrev pub newest : ℕ
newest = 300

unfoldable pub rows : List Row
rows =
    row 1 set 1 newest  -- purpose
    ∷ row 2 number32 1 newest  -- algorithm
    ∷ row 3 number32 1 newest  -- keySize
    ∷ row 5 set 1 newest  -- digest
    ∷ row 6 set 1 newest  -- padding
    ∷ row 10 number32 1 newest  -- ecCurve
    ∷ row 200 number64 1 newest  -- rsaPublicExponent
    ∷ row 203 set 100 newest  -- mgfDigest
    ∷ row 303 null 3 newest  -- rollbackResistance
    ∷ row 305 null 4 newest  -- earlyBootOnly
    ∷ row 400 number64 1 newest  -- activeDateTime
    ∷ row 401 number64 1 newest  -- originationExpireDateTime
    ∷ row 402 number64 1 newest  -- usageExpireDateTime
    ∷ row 405 number32 100 newest  -- usageCountLimit
    ∷ row 503 null 1 newest  -- noAuthRequired
    ∷ row 504 number32 1 newest  -- userAuthType
    ∷ row 505 number32 1 newest  -- authTimeout
    ∷ row 506 null 1 newest  -- allowWhileOnBody
    ∷ row 507 null 3 newest  -- trustedUserPresenceRequired
    ∷ row 508 null 3 newest  -- trustedConfirmationRequired
    ∷ row 509 null 3 newest  -- unlockedDeviceRequired
    ∷ row 600 null 1 4  -- allApplications
    ∷ row 601 octets 1 0  -- no version holds it
    ∷ row 701 number64 1 newest  -- creationDateTime
    ∷ row 702 number32 1 newest  -- origin
    ∷ row 703 null 1 2  -- rollbackResistant
    ∷ row 704 root 1 newest  -- rootOfTrust
    ∷ row 705 number32 1 newest  -- osVersion
    ∷ row 706 number32 1 newest  -- osPatchLevel
    ∷ row 709 octets 2 newest  -- attestationApplicationId
    ∷ row 710 octets 2 newest  -- attestationIdBrand
    ∷ row 711 octets 2 newest  -- attestationIdDevice
    ∷ row 712 octets 2 newest  -- attestationIdProduct
    ∷ row 713 octets 2 newest  -- attestationIdSerial
    ∷ row 714 octets 2 newest  -- attestationIdImei
    ∷ row 715 octets 2 newest  -- attestationIdMeid
    ∷ row 716 octets 2 newest  -- attestationIdManufacturer
    ∷ row 717 octets 2 newest  -- attestationIdModel
    ∷ row 718 number32 3 newest  -- vendorPatchLevel
    ∷ row 719 number32 3 newest  -- bootPatchLevel
    ∷ row 720 null 4 newest  -- deviceUniqueAttestation
    ∷ row 723 octets 300 newest  -- attestationIdSecondImei
    ∷ []

-- how many rows there are
abbrev pub row_count : ℕ
row_count = 42

-- "Attestation versions 1, 2, 3, 4, 100, 200 and 300"
unfoldable pub known_version : ℕ → Bool
known_version v = eqb v 1 || eqb v 2 || eqb v 3 || eqb v 4 || eqb v 100 || eqb v 200 || eqb v 300

-- a version holds a row's field
unfoldable pub held_in : ℕ → Row → Bool
held_in v r = leb r.first v && leb v r.last

-- the k-th row; past the table one that no version holds
abbrev pub row_at : ℕ → Row
row_at k = get_or rows k (row 0 null 1 0)

-- the place of a number among the rows; past the last where it has none
unfoldable pub index_of : List Row → ℕ → ℕ
index_of [] n = 0
index_of (r ∷ rs) n = pick (eqb r.number n) 0 (suc (index_of rs n))

-- the row of a number, if there is one
unfoldable pub find : List Row → ℕ → Option Row
find [] n = none
find (r ∷ rs) n = pick (eqb r.number n) (some r) (find rs n)

-- "Levels: 0 Software, 1 TrustedEnvironment, 2 StrongBox where the version's schema prints it": from version 3
unfoldable pub level_top : ℕ → ℕ
level_top v = pick (leb 3 v) 2 1

-- "from version 3 a boot hash"
unfoldable pub hashed : ℕ → Bool
hashed v = leb 3 v

-- tops of the numbers
abbrev pub top32 : ℕ
top32 = 0xffff_ffff

abbrev pub top64 : ℕ
top64 = 0xffff_ffff_ffff_ffff
