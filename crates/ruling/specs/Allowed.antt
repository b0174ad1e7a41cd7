-- Document 01, "The use ruling", once more: what a permit means, rule by rule, over the rules of both lists. Nothing here
-- goes by the order of the checks or by a test.
use Rattle.std.specs.Prelude.{◌≡◌, ◌⊎◌, Bool, true, false, List, ℕ, ◌+◌, ◌*◌, ◌-◌, ◌<◌, ◌≤◌, length, get_or}
use Rattle.std.proofs.Math.Option.{Option, some}
use Rattle.std.specs.Int.Bits.{bit_and}
use Rattle.ruling.specs.Rules.{Rules}
use Rattle.checks.specs.Checks.{digest_bytes, key_bytes}
use Rattle.ruling.specs.Token.{token_challenge, token_kinds, token_there, token_time}
use Rattle.ruling.specs.declared.request.Request.{Request}

-- one of the two lists holds the tag
abbrev pub Held : {A : Type 0} → Option A → Option A → Type 0
Held {A} s h = ((a : A) × (s ≡ some a)) ⊎ ((a : A) × (h ≡ some a))

-- "A tag in either list applies; in both, both must allow"
abbrev pub EachHeld : {A : Type 0} → Option A → Option A → (A → Type 0) → Type 0
EachHeld {A} s h Allows = ((a : A) → s ≡ some a → Allows a) × ((a : A) → h ≡ some a → Allows a)

abbrev pub Among : ℕ → List ℕ → Type 0
Among n set = (i : ℕ) × (i < length set) × (get_or set i 0 ≡ n)

-- "A set tag must be in at least one list"
abbrev pub InSets : ℕ → Option (List ℕ) → Option (List ℕ) → Type 0
InSets n s h = Held s h × EachHeld s h (Among n)

-- a NULL tag of either list
abbrev pub Either : Bool → Bool → Type 0
Either s h = (s ≡ true) ⊎ (h ≡ true)

-- "RSA SIGN: padding 1 with digest 0; 3 with digest 1 to 6; 5 with digest 0 to 6. RSA DECRYPT: padding 1 or 4, digest not
-- looked at; 2 with digest 1 to 6. EC SIGN: padding 1, digest 0 to 6. Purposes 6 and 7: neither is looked at", with "RSA
-- (1) for 1, 2, 7" and "EC (3) for 2, 6, 7": purpose p, algorithm a, padding m, digest d
pub data Shape (p a m d : ℕ) : Type 0 where
  rsa_sign : p ≡ 2 → a ≡ 1 → ((m ≡ 1) × (d ≡ 0)) ⊎ (((m ≡ 3) × ((1 ≤ d) × (d ≤ 6))) ⊎ ((m ≡ 5) × (d ≤ 6))) → Shape p a m d
  rsa_decrypt : p ≡ 1 → a ≡ 1 → (m ≡ 1) ⊎ ((m ≡ 4) ⊎ ((m ≡ 2) × ((1 ≤ d) × (d ≤ 6)))) → Shape p a m d
  ec_sign : p ≡ 2 → a ≡ 3 → m ≡ 1 → d ≤ 6 → Shape p a m d
  agree_key : p ≡ 6 → a ≡ 3 → Shape p a m d
  attest_key : p ≡ 7 → (a ≡ 1) ⊎ (a ≡ 3) → Shape p a m d

-- the purposes to which 401 applies, and those to which 402 does
abbrev pub Signing : ℕ → Type 0
Signing p = (p ≡ 2) ⊎ (p ≡ 7)

abbrev pub Deciphering : ℕ → Type 0
Deciphering p = (p ≡ 1) ⊎ (p ≡ 6)

-- a token of this time is at most so many seconds old; times are in ms
abbrev pub Recent : ℕ → ℕ → ℕ → Type 0
Recent uptime time seconds = (time ≤ uptime) × (uptime - time ≤ 1000 * seconds)

pub record Allowed (s h : Rules) (q : Request) : Type 0 where
  -- 31
  pub purpose : InSets q.purpose s.purpose h.purpose
  -- 32: the algorithm is present, and the lists do not disagree
  pub algorithm : ℕ
  pub present : Held s.algorithm h.algorithm
  pub agreed : EachHeld s.algorithm h.algorithm (λ a. a ≡ algorithm)
  -- 30, 32, 33 and 34 by shape
  pub shape : Shape q.purpose algorithm q.padding q.digest
  -- 33 and 34 by the sets
  pub padding : (q.purpose ≡ 1) ⊎ (q.purpose ≡ 2) → InSets q.padding s.padding h.padding
  pub digest : (q.purpose ≡ 2) ⊎ ((q.purpose ≡ 1) × (q.padding ≡ 2)) → InSets q.digest s.digest h.digest
  -- 35
  pub key_size : (q.purpose ≡ 2) × ((algorithm ≡ 1) × (q.padding ≡ 3))
      → Held s.key_size h.key_size × EachHeld s.key_size h.key_size (λ bits. 2 * digest_bytes q.digest + 2 ≤ key_bytes bits)
  -- 36
  pub floor : Held s.active h.active → q.floor ≤ q.clock
  pub origination_floor : Signing q.purpose → Held s.origination h.origination → q.floor ≤ q.clock
  pub usage_floor : Deciphering q.purpose → Held s.usage h.usage → q.floor ≤ q.clock
  -- 37
  pub active : EachHeld s.active h.active (λ date. date ≤ q.clock)
  -- 38
  pub origination : Signing q.purpose → EachHeld s.origination h.origination (λ date. q.clock ≤ date)
  pub usage : Deciphering q.purpose → EachHeld s.usage h.usage (λ date. q.clock ≤ date)
  -- 39
  pub auth : Either s.no_auth h.no_auth ⊎ Held s.auth_type h.auth_type
  -- 40
  pub token : EachHeld s.auth_type h.auth_type (λ wanted. (token_there q ≡ true) × (bit_and (token_kinds q) wanted ≡ 0 → ⊥))
  -- 41
  pub recent : Held s.auth_type h.auth_type → EachHeld s.auth_timeout h.auth_timeout (Recent q.uptime (token_time q))
  pub bound : Held s.auth_type h.auth_type → (Held s.auth_timeout h.auth_timeout → ⊥) → token_challenge q ≡ q.handle
  -- 42 to 46
  pub unlocked : Either s.unlocked h.unlocked → q.locked ≡ false
  pub presence : Either s.presence h.presence → q.present ≡ true
  pub confirmation : Either s.confirmation h.confirmation → q.confirmed ≡ true
  pub early_boot : Either s.early_boot h.early_boot → q.early_boot_over ≡ false
  pub use_limit : EachHeld s.use_limit h.use_limit (λ limit. q.uses < limit)
