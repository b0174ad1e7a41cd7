-- What each check asks, in plain words: it does not refuse exactly where its rule holds. Assumes nothing.
use mathlib.Core.Path.{◌≡◌, refl, sym, ◌∙◌}
use mathlib.Core.Logic.{◌⊎◌, inl, inr}
use mathlib.Core.Bool.{Bool, true, false, not, ◌&&◌, true≢false}
use mathlib.Core.Option.{Option}
use mathlib.Core.List.{List}
use Prim.Native.Nat.{ℕ, ◌+◌, ◌*◌, ◌-◌, ◌<◌, ◌≤◌}
use native.Mathlib.Omega.{arith}
use lib.Bits.{bit_and}
use lib.Dec.{T, eqb, leb, ltb}
use Rattle.answer.specs.Answer.{pick}
use Rattle.answer.proofs.Logic.{by_le}
use Rattle.checks.specs.Checks.{known_purpose, purpose_refused, algorithm_fits, padding_fits, padding_refused, looks_at_digest, digest_fits, digest_refused, digest_bytes, key_bytes, key_size_refused, signs, clock_refused, active_refused, expiry_refused, auth_missing, token_refused, recent, fresh_refused, null_refused, uses_refused}
use Rattle.ruling.specs.Allowed.{Held, EachHeld, InSets, Either, Signing, Deciphering, Recent}
use Rattle.ruling.specs.Refuses.{KnownPurpose, Fits}
use Rattle.ruling.proofs.Means.{Means, equal, at_most, below, true_flag, both, one_of, only_with, negated, twice, says, held, each, in_sets}

pub itself : (b : Bool) → Means b (T b)
itself b = record { to = λ t. t; from = λ t. t }

-- ---- 30 to 32

pub means_30 : (p : ℕ) → Means (not (not (known_purpose p))) (KnownPurpose p)
unfolding known_purpose
means_30 p = twice (one_of (equal p 1) (one_of (equal p 2) (one_of (equal p 6) (equal p 7))))

pub means_31 : (p : ℕ) (s h : Option (List ℕ)) → Means (not (purpose_refused p s h)) (InSets p s h)
unfolding purpose_refused
means_31 p s h = twice (in_sets p s h)

pub means_32 : (p a : ℕ) → Means (not (not (algorithm_fits p a))) (Fits p a)
unfolding algorithm_fits
means_32 p a =
    twice
    (one_of (both (equal a 1) (one_of (equal p 1) (one_of (equal p 2) (equal p 7)))) (both (equal a 3) (one_of (equal p 2) (one_of (equal p 6) (equal p 7)))))

-- ---- 33 to 35

module _ (p a m : ℕ) where
  pub means_33 : (s h : Option (List ℕ)) → Means (not (padding_refused p a m s h)) ((p ≡ 1) ⊎ (p ≡ 2) → T (padding_fits p a m) × InSets m s h)
  unfolding padding_refused
  means_33 s h = only_with (one_of (equal p 1) (equal p 2)) (both (itself (padding_fits p a m)) (in_sets m s h))

  pub means_34 : (d : ℕ) (s h : Option (List ℕ)) → Means (not (digest_refused p a m d s h)) ((p ≡ 2) ⊎ ((p ≡ 1) × (m ≡ 2)) → T (digest_fits a m d) × InSets d s h)
  unfolding digest_refused looks_at_digest
  means_34 d s h = only_with (one_of (equal p 2) (both (equal p 1) (equal m 2))) (both (itself (digest_fits a m d)) (in_sets d s h))

  pub means_35 : (d : ℕ) (s h : Option ℕ) → Means (not (key_size_refused p a m d s h)) ((p ≡ 2) × ((a ≡ 1) × (m ≡ 3)) → Held s h × EachHeld s h (λ bits. 2 * digest_bytes d + 2 ≤ key_bytes bits))
  unfolding key_size_refused
  means_35 d s h =
      only_with (both (equal p 2) (both (equal a 1) (equal m 3)))
      (both (held s h) (each (λ bits. leb (2 * digest_bytes d + 2) (key_bytes bits)) (λ bits. 2 * digest_bytes d + 2 ≤ key_bytes bits) (λ bits. at_most (2 * digest_bytes d + 2) (key_bytes bits)) s h))

-- ---- 36 to 38

pub means_36 : (clock floor : ℕ) (sa ha se he : Option ℕ) → Means (not (clock_refused clock floor sa ha se he)) (Held sa ha ⊎ Held se he → floor ≤ clock)
unfolding clock_refused
means_36 clock floor sa ha se he =
    says (negated (both (below clock floor) (one_of (held sa ha) (held se he)))) (λ n x. by_le floor clock (λ l. l) (λ l. absurd (n (l, x))))
    (λ n x. let l : floor ≤ clock = n x.1 in let g : clock < floor = x.0 in absurd (omega arith))

pub means_37 : (clock : ℕ) (s h : Option ℕ) → Means (not (active_refused clock s h)) (EachHeld s h (λ date. date ≤ clock))
unfolding active_refused
means_37 clock s h = twice (each (λ date. leb date clock) (λ date. date ≤ clock) (λ date. at_most date clock) s h)

pub means_38 : (clock : ℕ) (s h : Option ℕ) → Means (not (expiry_refused clock s h)) (EachHeld s h (λ date. clock ≤ date))
unfolding expiry_refused
means_38 clock s h = twice (each (λ date. leb clock date) (λ date. clock ≤ date) (λ date. at_most clock date) s h)

pub signing : (p : ℕ) → Signing p → signs p ≡ true
unfolding signs
signing p (inl e) = rw e refl
signing p (inr e) = rw e refl

pub deciphering : (p : ℕ) → Deciphering p → signs p ≡ false
unfolding signs
deciphering p (inl e) = rw e refl
deciphering p (inr e) = rw e refl

-- ---- 39 to 41

pub means_39 : (ns nh : Bool) (s h : Option ℕ) → Means (not (auth_missing ns nh s h)) (Either ns nh ⊎ Held s h)
unfolding auth_missing
means_39 ns nh s h = twice (one_of (one_of (true_flag ns) (true_flag nh)) (held s h))

pub means_40 : (token : Bool) (kinds : ℕ) (s h : Option ℕ) → Means (not (token_refused token kinds s h)) (EachHeld s h (λ wanted. (token ≡ true) × (bit_and kinds wanted ≡ 0 → ⊥)))
unfolding token_refused
means_40 token kinds s h =
    twice (each (λ wanted. token && not (eqb (bit_and kinds wanted) 0)) (λ wanted. (token ≡ true) × (bit_and kinds wanted ≡ 0 → ⊥)) (λ wanted. both (true_flag token) (negated (equal (bit_and kinds wanted) 0))) s h)

picked : {a b c : Bool} {P Q R : Type 0} → Means a P → Means b Q → Means c R → Means (pick a b c) ((P → Q) × ((P → ⊥) → R))
unfolding pick
picked {a} {b} {c} {P} {Q} {R} f g h = go a f
  where
    go : (a : Bool) → Means a P → Means (pick a b c) ((P → Q) × ((P → ⊥) → R))
    go true f = record { to = λ t. (λ p. g.to t, λ n. absurd (n (f.to tt))); from = λ p. g.from (p.0 (f.to tt)) }
    go false f = record { to = λ t. (λ p. absurd (f.from p), λ n. h.to t); from = λ p. h.from (p.1 (λ x. f.from x)) }

is-recent : (uptime time seconds : ℕ) → Means (recent uptime time seconds) (Recent uptime time seconds)
unfolding recent
is-recent uptime time seconds = both (at_most time uptime) (at_most (uptime - time) (1000 * seconds))

pub means_41 : (uptime time handle challenge : ℕ) (sa ha st ht : Option ℕ)
    → Means (not (fresh_refused uptime time handle challenge sa ha st ht)) (Held sa ha → (Held st ht → EachHeld st ht (Recent uptime time)) × ((Held st ht → ⊥) → challenge ≡ handle))
unfolding fresh_refused
means_41 uptime time handle challenge sa ha st ht =
    only_with (held sa ha) (picked (held st ht) (each (recent uptime time) (Recent uptime time) (is-recent uptime time) st ht) (equal challenge handle))

-- ---- 42 to 46

-- a NULL tag forbids what is so, and what is not so
pub means_forbids : (s h b : Bool) → Means (not (null_refused s h b)) (Either s h → b ≡ false)
means_forbids s h b =
    says (negated (both (one_of (true_flag s) (true_flag h)) (true_flag b))) (λ n x. go b (λ e. n (x, e))) (λ n x. absurd (true≢false (sym x.1 ∙ n x.0)))
  where
    go : (b : Bool) → (b ≡ true → ⊥) → b ≡ false
    go true n = absurd (n refl)
    go false n = refl

pub means_wants : (s h b : Bool) → Means (not (null_refused s h (not b))) (Either s h → b ≡ true)
means_wants s h b = only_with (one_of (true_flag s) (true_flag h)) (true_flag b)

pub means_46 : (uses : ℕ) (s h : Option ℕ) → Means (not (uses_refused uses s h)) (EachHeld s h (λ limit. uses < limit))
unfolding uses_refused
means_46 uses s h = twice (each (λ limit. ltb uses limit) (λ limit. uses < limit) (λ limit. below uses limit) s h)
