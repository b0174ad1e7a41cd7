-- Document 01, "The use ruling": the checks in order, the first that refuses, and the marks of a permit.
use Rattle.std.specs.Prelude.{Bool, true, false, not, ◌&&◌, ◌||◌, List, [], ◌∷◌, ◌++◌, ℕ, ◌+◌, ◌*◌, eqb}
use Rattle.std.specs.Int.Bits.{bit_or}
use Rattle.std.specs.Int.Count.{ones}
use Rattle.answer.specs.Answer.{Answer, got, refused, guard, pick}
use Rattle.answer.specs.Refusal.{ill_shaped, purpose_unknown, purpose_not_allowed, algorithm_unfit, padding_not_allowed, digest_not_allowed, key_too_small, clock_below_floor, not_yet_active, expired, no_auth_rule, token_unfit, token_not_fresh, device_locked, user_not_present, not_confirmed, early_boot_is_over, used_up}
use Rattle.records.specs.Shape.{well_shaped_record}
use Rattle.records.specs.declared.Record.{Record}
use Rattle.checks.specs.Tags.{there, either}
use Rattle.ruling.specs.Rules.{Rules, said_fields, rules_of}
use Rattle.checks.specs.Checks.{known_purpose, purpose_refused, agreed, algorithm_fits, looks_at_padding, padding_refused, looks_at_digest, digest_refused, looks_at_key_size, key_size_refused, signs, expiry, clock_refused, active_refused, expiry_refused, auth_missing, token_refused, fresh_refused, null_refused, uses_refused}
use Rattle.ruling.specs.Token.{token_challenge, token_kinds, token_there, token_time}
use Rattle.ruling.specs.declared.request.Request.{Request}

-- a refusal's number, and whether it refuses
abbrev pub Check : Type 0
Check = ℕ × Bool

-- the number of the first that refuses; 0 where none does
unfoldable pub first_refusing : List Check → ℕ
first_refusing [] = 0
first_refusing (c ∷ cs) = pick c.1 c.0 (first_refusing cs)

-- what the use is, and with which algorithm, padding, digest and key size: 30 to 35
unfoldable pub shape_checks : Rules → Rules → Request → List Check
shape_checks s h q =
    (purpose_unknown, not (known_purpose q.purpose))
    ∷ (purpose_not_allowed, purpose_refused q.purpose s.purpose h.purpose)
    ∷ (algorithm_unfit, not (algorithm_fits q.purpose (agreed s.algorithm h.algorithm)))
    ∷ (padding_not_allowed, padding_refused q.purpose (agreed s.algorithm h.algorithm) q.padding s.padding h.padding)
    ∷ (digest_not_allowed, digest_refused q.purpose (agreed s.algorithm h.algorithm) q.padding q.digest s.digest h.digest)
    ∷ (key_too_small, key_size_refused q.purpose (agreed s.algorithm h.algorithm) q.padding q.digest s.key_size h.key_size)
    ∷ []

-- 36 to 38
unfoldable pub date_checks : Rules → Rules → Request → List Check
date_checks s h q =
    (clock_below_floor, clock_refused q.clock q.floor s.active h.active (expiry q.purpose s.origination s.usage) (expiry q.purpose h.origination h.usage))
    ∷ (not_yet_active, active_refused q.clock s.active h.active)
    ∷ (expired, expiry_refused q.clock (expiry q.purpose s.origination s.usage) (expiry q.purpose h.origination h.usage))
    ∷ []

-- 39 to 41
unfoldable pub token_checks : Rules → Rules → Request → List Check
token_checks s h q =
    (no_auth_rule, auth_missing s.no_auth h.no_auth s.auth_type h.auth_type)
    ∷ (token_unfit, token_refused (token_there q) (token_kinds q) s.auth_type h.auth_type)
    ∷ (token_not_fresh, fresh_refused q.uptime (token_time q) q.handle (token_challenge q) s.auth_type h.auth_type s.auth_timeout h.auth_timeout)
    ∷ []

-- 42 to 46
unfoldable pub device_checks : Rules → Rules → Request → List Check
device_checks s h q =
    (device_locked, null_refused s.unlocked h.unlocked q.locked)
    ∷ (user_not_present, null_refused s.presence h.presence (not q.present))
    ∷ (not_confirmed, null_refused s.confirmation h.confirmation (not q.confirmed))
    ∷ (early_boot_is_over, null_refused s.early_boot h.early_boot q.early_boot_over)
    ∷ (used_up, uses_refused q.uses s.use_limit h.use_limit)
    ∷ []

-- "Checks, in order"
abbrev pub checks : Rules → Rules → Request → List Check
checks s h q = shape_checks s h q ++ (date_checks s h q ++ (token_checks s h q ++ device_checks s h q))

-- ---- the marks of a permit

-- "Bits from 0: purpose, algorithm, padding, digest, keySize, 400, 401, 402, 504, 505, 509, 507, 508, 305, 405, 503":
-- which of them a list holds
unfoldable pub held_tags : Rules → List Bool
held_tags l =
    there l.purpose
    ∷ there l.algorithm
    ∷ there l.padding
    ∷ there l.digest
    ∷ there l.key_size
    ∷ there l.active
    ∷ there l.origination
    ∷ there l.usage
    ∷ there l.auth_type
    ∷ there l.auth_timeout
    ∷ l.unlocked
    ∷ l.presence
    ∷ l.confirmation
    ∷ l.early_boot
    ∷ there l.use_limit
    ∷ l.no_auth
    ∷ []

-- which of them were looked at: "505 only where either list has 504; 503 only where neither has"
unfoldable pub looked : ℕ → ℕ → ℕ → Bool → List Bool
looked p a m auth =
    true
    ∷ true
    ∷ looks_at_padding p
    ∷ looks_at_digest p m
    ∷ looks_at_key_size p a m
    ∷ true
    ∷ signs p
    ∷ not (signs p)
    ∷ true
    ∷ auth
    ∷ true
    ∷ true
    ∷ true
    ∷ true
    ∷ true
    ∷ not auth
    ∷ []

unfoldable pub bit : Bool → ℕ
bit true = 1
bit false = 0

-- "A bit is set exactly when that list holds the tag and it was looked at"; bit 0 first
unfoldable pub mark_of : List Bool → List Bool → ℕ
mark_of [] ls = 0
mark_of (b ∷ bs) [] = 0
mark_of (b ∷ bs) (l ∷ ls) = bit (b && l) + 2 * mark_of bs ls

-- "two 16-bit marks, hardware and software, and how many bits are set in each"
pub record Permit : Type 0 where
  pub hardware : ℕ
  pub hardware_bits : ℕ
  pub software : ℕ
  pub software_bits : ℕ

unfoldable pub permit : ℕ → ℕ → Permit
permit hardware software = record { hardware = hardware; hardware_bits = ones hardware; software = software; software_bits = ones software }

-- "If either level is Software, the hardware bits join the software mark and the hardware mark is 0"
unfoldable pub permit_of : ℕ → ℕ → ℕ → ℕ → Permit
permit_of level keymint_level hardware software =
    pick (eqb level 0 || eqb keymint_level 0) (permit 0 (bit_or hardware software)) (permit hardware software)

-- what was looked at, by both lists' rules
abbrev pub looked_at : Rules → Rules → Request → List Bool
looked_at s h q = looked q.purpose (agreed s.algorithm h.algorithm) q.padding (either s.auth_type h.auth_type)

-- ---- the ruling: "A record that isn't well-shaped gives 20 before all else"; "Refusals of rulings .. have place 0"

-- a refusal by its number, or what follows where it is 0
unfoldable pub unless : {A : Type 0} → ℕ → A → Answer A
unless number a = pick (eqb number 0) (got a) (refused number 0)

unfoldable pub ruled : ℕ → ℕ → Rules → Rules → Request → Answer Permit
ruled level keymint_level s h q =
    unless (first_refusing (checks s h q)) (permit_of level keymint_level (mark_of (held_tags h) (looked_at s h q)) (mark_of (held_tags s) (looked_at s h q)))

unfoldable pub ruling : Record → Request → Answer Permit
ruling r q =
    guard (well_shaped_record r) ill_shaped 0
    (ruled r.attestation.level r.keymint.level (rules_of (said_fields r.software)) (rules_of (said_fields r.hardware)) q)
