-- Document 01, "The use ruling", a third time: what each refusal's number says, over the rules of both lists. Nothing here
-- goes by a test. "Checks, in order": a number is given where no smaller one's sentence holds, so 33 and 34 may take it that
-- the algorithm goes with the purpose, 35 that the digest goes with the padding, 36 and 38 that the purpose is known.
use Rattle.std.specs.Prelude.{◌≡◌, ◌⊎◌, true, false, List, [], ◌∷◌, ℕ, ◌+◌, ◌*◌, ◌-◌, ◌<◌, ◌≤◌}
use Rattle.std.proofs.Math.Option.{Option, some}
use Rattle.std.specs.Int.Bits.{bit_and}
use Rattle.answer.specs.Sentences.{SaysFirst}
use Rattle.ruling.specs.Rules.{Rules}
use Rattle.checks.specs.Checks.{digest_bytes, key_bytes}
use Rattle.ruling.specs.Allowed.{Held, EachHeld, InSets, Either, Shape, Signing, Deciphering}
use Rattle.ruling.specs.Token.{token_challenge, token_kinds, token_there, token_time}
use Rattle.ruling.specs.declared.request.Request.{Request}

-- one of the two lists holds the tag, with such a value
abbrev pub InOne : {A : Type 0} → Option A → Option A → (A → Type 0) → Type 0
InOne {A} s h Such = ((a : A) × ((s ≡ some a) × Such a)) ⊎ ((a : A) × ((h ≡ some a) × Such a))

-- "1 DECRYPT, 2 SIGN, 6 AGREE_KEY or 7 ATTEST_KEY"
abbrev pub KnownPurpose : ℕ → Type 0
KnownPurpose p = (p ≡ 1) ⊎ ((p ≡ 2) ⊎ ((p ≡ 6) ⊎ (p ≡ 7)))

-- the algorithm: one list has it, and no list has another
abbrev pub Algorithm : Rules → Rules → ℕ → Type 0
Algorithm s h a = Held s.algorithm h.algorithm × EachHeld s.algorithm h.algorithm (λ b. b ≡ a)

-- "RSA (1) for 1, 2, 7"; "EC (3) for 2, 6, 7"
abbrev pub Fits : ℕ → ℕ → Type 0
Fits p a = ((a ≡ 1) × ((p ≡ 1) ⊎ ((p ≡ 2) ⊎ (p ≡ 7)))) ⊎ ((a ≡ 3) × ((p ≡ 2) ⊎ ((p ≡ 6) ⊎ (p ≡ 7))))

-- 33 "by shape and by the sets": whatever the digest, the use has no shape; or the padding is looked at and not in the sets
abbrev pub PaddingUnfit : Rules → Rules → Request → Type 0
PaddingUnfit s h q =
    (a : ℕ) × (Algorithm s h a × (((d : ℕ) → Shape q.purpose a q.padding d → ⊥)
    ⊎ (((q.purpose ≡ 1) ⊎ (q.purpose ≡ 2)) × (InSets q.padding s.padding h.padding → ⊥))))

-- 34: with this digest the use has no shape; or the digest is looked at and not in the sets
abbrev pub DigestUnfit : Rules → Rules → Request → Type 0
DigestUnfit s h q =
    (a : ℕ) × (Algorithm s h a × ((Shape q.purpose a q.padding q.digest → ⊥)
    ⊎ (((q.purpose ≡ 2) ⊎ ((q.purpose ≡ 1) × (q.padding ≡ 2))) × (InSets q.digest s.digest h.digest → ⊥))))

-- each number with what it says
abbrev pub sentences : Rules → Rules → Request → List (ℕ × Type 0)
sentences s h q =
    -- "purpose is not 1 DECRYPT, 2 SIGN, 6 AGREE_KEY or 7 ATTEST_KEY"
    (30, (KnownPurpose q.purpose → ⊥))
    -- "it isn't allowed"
    ∷ (31, (InSets q.purpose s.purpose h.purpose → ⊥))
    -- "algorithm absent, the lists disagree, or it is neither RSA (1) for 1, 2, 7 nor EC (3) for 2, 6, 7": no algorithm
    -- that the lists have and agree on fits
    ∷ (32, ((a : ℕ) → Algorithm s h a → Fits q.purpose a → ⊥))
    -- "33 padding, 34 digest"
    ∷ (33, PaddingUnfit s h q)
    ∷ (34, DigestUnfit s h q)
    -- "RSA SIGN, padding 3 and keySize absent, or its bytes (bits/8 rounded up) under 2D+2"
    ∷ (
      35,
      (q.purpose ≡ 2) × (Algorithm s h 1 × ((q.padding ≡ 3)
          × ((Held s.key_size h.key_size → ⊥) ⊎ InOne s.key_size h.key_size (λ bits. key_bytes bits < 2 * digest_bytes q.digest + 2)))),
    )
    -- "a date tag applies and clock < floor. 400 applies always, 401 to SIGN and ATTEST_KEY, 402 to DECRYPT and AGREE_KEY"
    ∷ (
      36,
      (q.clock < q.floor) × (Held s.active h.active
          ⊎ ((Signing q.purpose × Held s.origination h.origination) ⊎ (Deciphering q.purpose × Held s.usage h.usage))),
    )
    -- "clock < active"
    ∷ (37, InOne s.active h.active (λ date. q.clock < date))
    -- "clock > expiry"
    ∷ (
      38,
      (Signing q.purpose × InOne s.origination h.origination (λ date. date < q.clock))
          ⊎ (Deciphering q.purpose × InOne s.usage h.usage (λ date. date < q.clock)),
    )
    -- "neither 503 nor 504 is present"
    ∷ (39, (Either s.no_auth h.no_auth ⊎ Held s.auth_type h.auth_type → ⊥))
    -- "504 present and no token, or the token's type shares no bit with it"
    ∷ (40, InOne s.auth_type h.auth_type (λ wanted. (token_there q ≡ false) ⊎ (bit_and (token_kinds q) wanted ≡ 0)))
    -- "504 present; with 505, token time after uptime or uptime - token time > 1000 times it; without 505, challenge differs
    -- from the handle"
    ∷ (
      41,
      Held s.auth_type h.auth_type
          × (InOne s.auth_timeout h.auth_timeout (λ seconds. (q.uptime < token_time q) ⊎ (1000 * seconds < q.uptime - token_time q))
          ⊎ ((Held s.auth_timeout h.auth_timeout → ⊥) × (token_challenge q ≡ q.handle → ⊥))),
    )
    -- "509 and locked"
    ∷ (42, Either s.unlocked h.unlocked × (q.locked ≡ true))
    -- "507 and not present"
    ∷ (43, Either s.presence h.presence × (q.present ≡ false))
    -- "508 and not confirmed"
    ∷ (44, Either s.confirmation h.confirmation × (q.confirmed ≡ false))
    -- "305 and early boot over"
    ∷ (45, Either s.early_boot h.early_boot × (q.early_boot_over ≡ true))
    -- "uses so far >= 405"
    ∷ (46, InOne s.use_limit h.use_limit (λ limit. limit ≤ q.uses))
    ∷ []

-- "Checks, in order"
abbrev pub RefusesFirst : ℕ → Rules → Rules → Request → Type 0
RefusesFirst n s h q = SaysFirst (sentences s h q) n
