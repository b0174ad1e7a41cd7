-- What is proved of the use ruling (document 01, "The use ruling"). Each statement stands under the sentence that it
-- renders; the theorem of the same name stands in proofs/Permitted.antt, Marked.antt, TagRows.antt, Tokens.antt or NothingElse.antt. Read
-- Allowed.antt and Refuses.antt first, then `PermittedExactly`, `RefusedExactly`, `HardwareExactly` and `SoftwareExactly`.
use Rattle.std.specs.Prelude.{◌≡◌, ◌⊎◌, ◌↔◌, Bool, true, false, List, [], ◌∷◌, ℕ, ◌/◌, ◌%◌, ◌^◌, get_or}
use Rattle.std.proofs.Math.Option.{Option}
use Rattle.std.specs.Int.Count.{ones}
use Rattle.answer.specs.Answer.{got, refused}
use Rattle.answer.specs.Refusal.{ill_shaped}
use Rattle.schema.specs.Content.{FieldWith}
use Rattle.checks.specs.Checks.{token_refused, fresh_refused}
use Rattle.records.specs.Content.{octets_at, fields_of}
use Rattle.records.specs.Equal.{Equal}
use Rattle.records.specs.Shape.{well_shaped_record}
use Rattle.records.specs.declared.FieldList.{FieldList}
use Rattle.records.specs.declared.Record.{Record}
use Rattle.ruling.specs.Rules.{said_fields, holds_number, Rules, rules_of}
use Rattle.ruling.specs.Ruling.{held_tags, looked_at, Permit, ruled, ruling}
use Rattle.ruling.specs.Allowed.{Allowed}
use Rattle.ruling.specs.Refuses.{RefusesFirst}
use Rattle.ruling.specs.declared.request.Request.{Request}

-- the rules of a record's lists
abbrev pub software_rules : Record → Rules
software_rules r = rules_of (said_fields r.software)

abbrev pub hardware_rules : Record → Rules
hardware_rules r = rules_of (said_fields r.hardware)

-- ---- permits

-- "permitted if and only if every rule that applies, from both lists, allows it"
abbrev pub PermittedExactly : Type 0
PermittedExactly =
    (level keymint_level : ℕ) (s h : Rules) (q : Request)
    → ((w : Permit) × (ruled level keymint_level s h q ≡ got w)) ↔ Allowed s h q

-- the same of a record
abbrev pub RecordPermittedExactly : Type 0
RecordPermittedExactly =
    (r : Record) (q : Request)
    → ((w : Permit) × (ruling r q ≡ got w)) ↔ (well_shaped_record r ≡ true) × Allowed (software_rules r) (hardware_rules r) q

-- ---- refusals

-- "A record that isn't well-shaped gives 20 before all else"
abbrev pub IllShapedIs20 : Type 0
IllShapedIs20 = (r : Record) (q : Request) → well_shaped_record r ≡ false → ruling r q ≡ refused ill_shaped 0

abbrev pub WellShapedIsRuled : Type 0
WellShapedIsRuled =
    (r : Record) (q : Request) → well_shaped_record r ≡ true
    → ruling r q ≡ ruled r.attestation.level r.keymint.level (software_rules r) (hardware_rules r) q

-- "Checks, in order": a number is given exactly where what it says holds and what no smaller number says does; "Refusals of
-- rulings .. have place 0"
abbrev pub RefusalIsFirst : Type 0
RefusalIsFirst =
    (level keymint_level : ℕ) (s h : Rules) (q : Request) (n place : ℕ)
    → (ruled level keymint_level s h q ≡ refused n place) ↔ (place ≡ 0) × RefusesFirst n s h q

-- the same of a record, with 20
abbrev pub RefusedExactly : Type 0
RefusedExactly =
    (r : Record) (q : Request) (n place : ℕ)
    → (ruling r q ≡ refused n place)
    ↔ (place ≡ 0) × (((well_shaped_record r ≡ false) × (n ≡ 20)) ⊎ ((well_shaped_record r ≡ true) × RefusesFirst n (software_rules r) (hardware_rules r) q))

-- ---- marks

-- bit k of a mark
abbrev pub bit_at : ℕ → ℕ → ℕ
bit_at mark k = mark / 2 ^ k % 2

-- bit k's tag: that a list holds it, that it was looked at; and that either level is Software
abbrev pub HeldIn : Rules → ℕ → Type 0
HeldIn l k = get_or (held_tags l) k false ≡ true

abbrev pub LookedAt : Rules → Rules → Request → ℕ → Type 0
LookedAt s h q k = get_or (looked_at s h q) k false ≡ true

abbrev pub Software : ℕ → ℕ → Type 0
Software level keymint_level = (level ≡ 0) ⊎ (keymint_level ≡ 0)

-- "Bits from 0: purpose, algorithm, padding, digest, keySize, 400, 401, 402, 504, 505, 509, 507, 508, 305, 405, 503": the
-- numbers of their fields
abbrev pub bit_numbers : List ℕ
bit_numbers = 1 ∷ 2 ∷ 6 ∷ 5 ∷ 3 ∷ 400 ∷ 401 ∷ 402 ∷ 504 ∷ 505 ∷ 509 ∷ 507 ∷ 508 ∷ 305 ∷ 405 ∷ 503 ∷ []

-- which of them a list of fields holds
abbrev pub holding : {O : Type 0} → List (FieldWith O) → List ℕ → List Bool
holding fs [] = []
holding fs (n ∷ ns) = holds_number fs n ∷ holding fs ns

-- "that list holds the tag": the tags that a list holds are the fields that it holds under those numbers
abbrev pub TagsNumbered : Type 0
TagsNumbered = (l : FieldList) → held_tags (rules_of (said_fields l)) ≡ holding (said_fields l) bit_numbers

-- what holds of each permit that is given, and of each bit of its marks
abbrev pub EachPermit : (ℕ → ℕ → Rules → Rules → Request → Permit → Type 0) → Type 0
EachPermit Says = (level keymint_level : ℕ) (s h : Rules) (q : Request) (w : Permit) → ruled level keymint_level s h q ≡ got w → Says level keymint_level s h q w

-- "and how many bits are set in each"
abbrev pub Counts : Type 0
Counts = EachPermit λ level keymint_level s h q w. (w.hardware_bits ≡ ones w.hardware) × (w.software_bits ≡ ones w.software)

-- "A bit is set exactly when that list holds the tag and it was looked at .. If either level is Software, .. the hardware
-- mark is 0"
abbrev pub HardwareExactly : Type 0
HardwareExactly =
    EachPermit λ level keymint_level s h q w.
    (k : ℕ) → (bit_at w.hardware k ≡ 1) ↔ (Software level keymint_level → ⊥) × (HeldIn h k × LookedAt s h q k)

-- ".. the hardware bits join the software mark"
abbrev pub SoftwareExactly : Type 0
SoftwareExactly =
    EachPermit λ level keymint_level s h q w.
    (k : ℕ) → (bit_at w.software k ≡ 1) ↔ (Software level keymint_level × (HeldIn h k × LookedAt s h q k)) ⊎ (HeldIn s k × LookedAt s h q k)

-- "every rule that applies": a tag that a list holds and that was looked at stands in one of the marks
abbrev pub AppliedIsMarked : Type 0
AppliedIsMarked =
    EachPermit λ level keymint_level s h q w.
    (k : ℕ) → HeldIn s k ⊎ HeldIn h k → LookedAt s h q k → (bit_at w.hardware k ≡ 1) ⊎ (bit_at w.software k ≡ 1)

-- ---- what the answer depends on

-- well-shapedness, the two levels and the rules of both lists, and nothing else
abbrev pub NothingElse : Type 0
NothingElse =
    (r r' : Record) (q : Request) → well_shaped_record r ≡ well_shaped_record r'
    → r.attestation.level ≡ r'.attestation.level → r.keymint.level ≡ r'.keymint.level
    → software_rules r ≡ software_rules r' → hardware_rules r ≡ hardware_rules r' → ruling r q ≡ ruling r' q

-- "504 present and no token": then 40, whatever types it would have; and where that lets it pass, 41 does, whatever its time and
-- challenge would be
abbrev pub AbsentTokenUnread : Type 0
AbsentTokenUnread =
    (kinds time challenge uptime handle : ℕ) (s h st ht : Option ℕ)
    → (token_refused false kinds s h ≡ token_refused false 0 s h)
    × ((token_refused false 0 s h ≡ true) ⊎ (fresh_refused uptime time handle challenge s h st ht ≡ false))

-- "octet parts aren't looked at here": wherever they lie, a list's rules are the same
abbrev pub OctetsUnseen : Type 0
OctetsUnseen = (l : FieldList) (s : List ℕ) → rules_of (said_fields l) ≡ rules_of (fields_of l (octets_at s))

-- "Two such records .. are equal exactly when ..": equal records get the same answer
abbrev pub EqualRuled : Type 0
EqualRuled =
    (r : Record) (s : List ℕ) (r' : Record) (s' : List ℕ) (q : Request) → well_shaped_record r ≡ true → well_shaped_record r' ≡ true
    → Equal r s r' s' → ruling r q ≡ ruling r' q
