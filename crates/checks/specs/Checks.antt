-- Document 01, "The use ruling": each check, over just the tags that it reads. s and h are what the software and the
-- hardware list say; a check that is true refuses.
use Rattle.std.specs.Prelude.{Bool, not, ◌&&◌, ◌||◌, List, ℕ, ◌+◌, ◌*◌, ◌-◌, ◌/◌, eqb, leb, ltb}
use Rattle.std.proofs.Math.Option.{Option, none, some}
use Rattle.std.specs.Int.Bits.{bit_and}
use Rattle.answer.specs.Answer.{pick}
use Rattle.checks.specs.Tags.{either, both_allow, set_allows}

-- ---- 30, 31: the purpose

-- "1 DECRYPT, 2 SIGN, 6 AGREE_KEY or 7 ATTEST_KEY"
unfoldable pub known_purpose : ℕ → Bool
known_purpose p = eqb p 1 || (eqb p 2 || (eqb p 6 || eqb p 7))

-- "31: it isn't allowed"
unfoldable pub purpose_refused : ℕ → Option (List ℕ) → Option (List ℕ) → Bool
purpose_refused p s h = not (set_allows p s h)

-- ---- 32: the algorithm

-- the algorithm, where it is present and the lists do not disagree; 0 stands for none, as no key has it
unfoldable pub agreed : Option ℕ → Option ℕ → ℕ
agreed none none = 0
agreed none (some b) = b
agreed (some a) none = a
agreed (some a) (some b) = pick (eqb a b) a 0

-- "RSA (1) for 1, 2, 7"; "EC (3) for 2, 6, 7"
unfoldable pub algorithm_fits : ℕ → ℕ → Bool
algorithm_fits p a = (eqb a 1 && (eqb p 1 || (eqb p 2 || eqb p 7))) || (eqb a 3 && (eqb p 2 || (eqb p 6 || eqb p 7)))

-- ---- 33, 34: padding and digest, "by shape and by the sets"; a is the algorithm, p the purpose, m the padding

-- "RSA SIGN: padding 1 ..; 3 ..; 5 ..". "RSA DECRYPT: padding 1 or 4 ..; 2 ..". "EC SIGN: padding 1"
unfoldable pub padding_fits : ℕ → ℕ → ℕ → Bool
padding_fits p a m =
    pick (eqb p 1) (eqb m 1 || (eqb m 2 || eqb m 4))
    (pick (eqb a 1) (eqb m 1 || (eqb m 3 || eqb m 5)) (eqb m 1))

-- "Purposes 6 and 7: neither is looked at"
abbrev pub looks_at_padding : ℕ → Bool
looks_at_padding p = eqb p 1 || eqb p 2

unfoldable pub padding_refused : ℕ → ℕ → ℕ → Option (List ℕ) → Option (List ℕ) → Bool
padding_refused p a m s h = looks_at_padding p && not (padding_fits p a m && set_allows m s h)

-- "RSA DECRYPT: padding 1 or 4, digest not looked at"
unfoldable pub looks_at_digest : ℕ → ℕ → Bool
looks_at_digest p m = eqb p 2 || (eqb p 1 && eqb m 2)

-- "padding 1 with digest 0; 3 with digest 1 to 6; 5 with digest 0 to 6"; "2 with digest 1 to 6"; EC: "digest 0 to 6"
unfoldable pub digest_fits : ℕ → ℕ → ℕ → Bool
digest_fits a m d =
    pick (eqb a 3) (leb d 6)
    (pick (eqb m 1) (eqb d 0)
    (pick (eqb m 5) (leb d 6) (leb 1 d && leb d 6)))

unfoldable pub digest_refused : ℕ → ℕ → ℕ → ℕ → Option (List ℕ) → Option (List ℕ) → Bool
digest_refused p a m d s h = looks_at_digest p m && not (digest_fits a m d && set_allows d s h)

-- ---- 35: the key's size

-- "D for digests 1 to 6 is 16, 20, 28, 32, 48, 64"
unfoldable pub digest_bytes : ℕ → ℕ
digest_bytes d = pick (eqb d 1) 16 (pick (eqb d 2) 20 (pick (eqb d 3) 28 (pick (eqb d 4) 32 (pick (eqb d 5) 48 64))))

-- "bits/8 rounded up"
abbrev pub key_bytes : ℕ → ℕ
key_bytes bits = (bits + 7) / 8

-- "RSA SIGN, padding 3"
abbrev pub looks_at_key_size : ℕ → ℕ → ℕ → Bool
looks_at_key_size p a m = eqb p 2 && (eqb a 1 && eqb m 3)

-- "keySize absent, or its bytes under 2D+2"
unfoldable pub key_size_refused : ℕ → ℕ → ℕ → ℕ → Option ℕ → Option ℕ → Bool
key_size_refused p a m d s h = looks_at_key_size p a m && not (either s h && both_allow (λ bits. leb (2 * digest_bytes d + 2) (key_bytes bits)) s h)

-- ---- 36 to 38: dates, in ms since 1970

-- "401 to SIGN and ATTEST_KEY, 402 to DECRYPT and AGREE_KEY": the expiry date that applies
unfoldable pub signs : ℕ → Bool
signs p = eqb p 2 || eqb p 7

abbrev pub expiry : ℕ → Option ℕ → Option ℕ → Option ℕ
expiry p origination usage = pick (signs p) origination usage

-- "a date tag applies and clock < floor"; a is 400 and e the expiry date, of either list
unfoldable pub clock_refused : ℕ → ℕ → Option ℕ → Option ℕ → Option ℕ → Option ℕ → Bool
clock_refused clock floor sa ha se he = ltb clock floor && (either sa ha || either se he)

-- "clock < active .. Equality is allowed"
unfoldable pub active_refused : ℕ → Option ℕ → Option ℕ → Bool
active_refused clock s h = not (both_allow (λ active. leb active clock) s h)

-- "clock > expiry. Equality is allowed"
unfoldable pub expiry_refused : ℕ → Option ℕ → Option ℕ → Bool
expiry_refused clock s h = not (both_allow (λ date. leb clock date) s h)

-- ---- 39 to 41: the user's authentication; n is 503, t the token's

-- "neither 503 nor 504 is present"
unfoldable pub auth_missing : Bool → Bool → Option ℕ → Option ℕ → Bool
auth_missing ns nh s h = not ((ns || nh) || either s h)

-- "504 present and no token, or the token's type shares no bit with it"
unfoldable pub token_refused : Bool → ℕ → Option ℕ → Option ℕ → Bool
token_refused token kinds s h = not (both_allow (λ wanted. token && not (eqb (bit_and kinds wanted) 0)) s h)

-- "token time after uptime or uptime - token time > 1000 times it"
unfoldable pub recent : ℕ → ℕ → ℕ → Bool
recent uptime time seconds = leb time uptime && leb (uptime - time) (1000 * seconds)

-- "504 present; with 505 .., without 505, challenge differs from the handle"
unfoldable pub fresh_refused : ℕ → ℕ → ℕ → ℕ → Option ℕ → Option ℕ → Option ℕ → Option ℕ → Bool
fresh_refused uptime time handle challenge sa ha st ht =
    either sa ha
    && not (pick (either st ht) (both_allow (recent uptime time) st ht) (eqb challenge handle))

-- ---- 42 to 46

-- a NULL tag of either list, and what it forbids
abbrev pub null_refused : Bool → Bool → Bool → Bool
null_refused s h forbidden = (s || h) && forbidden

-- "uses so far >= 405"
unfoldable pub uses_refused : ℕ → Option ℕ → Option ℕ → Bool
uses_refused uses s h = not (both_allow (λ limit. ltb uses limit) s h)
