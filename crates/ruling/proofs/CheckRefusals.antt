-- What each check finds, in document 01's words: it refuses exactly where its number's sentence holds, given what the checks
-- before it have let pass. Assumes nothing.
use mathlib.Core.Path.{◌≡◌, sym, ◌∙◌}
use mathlib.Core.Logic.{◌⊎◌, inl, inr, ⊎_elim}
use mathlib.Core.Bool.{Bool, true, false, not, ◌&&◌, true≢false}
use mathlib.Core.Option.{Option}
use mathlib.Core.List.{List}
use Prim.Native.Nat.{ℕ, ◌+◌, ◌*◌, ◌-◌, ◌<◌, ◌≤◌}
use native.Mathlib.Omega.{arith}
use lib.Bits.{bit_and}
use lib.Dec.{T, T_not, eqb, leb, ltb}
use Rattle.answer.specs.Answer.{pick}
use Rattle.checks.specs.Tags.{either, set_allows, both_allow}
use Rattle.ruling.specs.Rules.{Rules}
use Rattle.checks.specs.Checks.{known_purpose, purpose_refused, agreed, algorithm_fits, padding_fits, padding_refused, looks_at_digest, digest_fits, digest_refused, digest_bytes, key_bytes, key_size_refused, expiry, clock_refused, active_refused, expiry_refused, auth_missing, token_refused, recent, fresh_refused, null_refused, uses_refused}
use Rattle.ruling.specs.Allowed.{Held, InSets, Either, Signing, Deciphering}
use Rattle.ruling.specs.Refuses.{InOne, KnownPurpose, Algorithm, Fits, PaddingUnfit, DigestUnfit}
use Rattle.ruling.specs.declared.request.Request.{Request}
use Rattle.ruling.proofs.Means.{Means, equal, below, above, at_least, true_flag, false_flag, both, not_both, one_of, negated, twice, refusing, says, held, in_one, in_sets}
use Rattle.ruling.proofs.CheckMeanings.{itself, means_30, means_31, means_32, means_33, means_34, signing, deciphering, means_39}
use Rattle.ruling.proofs.Shaping.{agreed-says, agreed-is, shape_of, shape-padding, shape-digest, known_side}

-- ---- 30 to 32

pub finds_30 : (p : ℕ) → Means (not (known_purpose p)) (KnownPurpose p → ⊥)
finds_30 p = refusing (not (known_purpose p)) (means_30 p)

pub finds_31 : (p : ℕ) (s h : Option (List ℕ)) → Means (purpose_refused p s h) (InSets p s h → ⊥)
finds_31 p s h = refusing (purpose_refused p s h) (means_31 p s h)

module _ (s h : Rules) where
  abbrev pub algorithm : ℕ
  algorithm = agreed s.algorithm h.algorithm

  is-algorithm : (a : ℕ) → Algorithm s h a → algorithm ≡ a
  is-algorithm a x = agreed-is s.algorithm h.algorithm a x.0 x.1

  has_algorithm : (algorithm ≡ 0 → ⊥) → Algorithm s h algorithm
  has_algorithm n = agreed-says s.algorithm h.algorithm n

  fit_algorithm : (p : ℕ) → Fits p algorithm → Algorithm s h algorithm
  fit_algorithm p (inl (e, x)) = has_algorithm (λ z. omega arith)
  fit_algorithm p (inr (e, x)) = has_algorithm (λ z. omega arith)

  pub finds_32 : (p : ℕ) → Means (not (algorithm_fits p algorithm)) ((a : ℕ) → Algorithm s h a → Fits p a → ⊥)
  finds_32 p =
      says (refusing (not (algorithm_fits p algorithm)) (means_32 p algorithm)) (λ n a x f. n (rw (is-algorithm a x) f))
      (λ n f. n algorithm (fit_algorithm p f) f)

-- ---- 33 to 35

-- each padding goes with a digest
digest_for : (a m : ℕ) → T (digest_fits a m (pick (eqb m 1) 0 1))
unfolding digest_fits pick
digest_for a m = go (eqb a 3) (eqb m 1) (eqb m 5)
  where
    go : (x y z : Bool) → T (pick x (leb (pick y 0 1) 6) (pick y (eqb (pick y 0 1) 0) (pick z (leb (pick y 0 1) 6) (leb 1 (pick y 0 1) && leb (pick y 0 1) 6))))
    go true true z = tt
    go true false z = tt
    go false true z = tt
    go false false true = tt
    go false false false = tt

module _ (s h : Rules) (q : Request) where
  abbrev p : ℕ
  p = q.purpose

  abbrev m : ℕ
  m = q.padding

  abbrev d : ℕ
  d = q.digest

  abbrev a : ℕ
  a = algorithm s h

  abbrev padding_test : Bool
  padding_test = padding_refused p a m s.padding h.padding

  abbrev digest_test : Bool
  digest_test = digest_refused p a m d s.digest h.digest

  module _ (f : Fits p a) where
    pub finds_33 : Means padding_test (PaddingUnfit s h q)
    unfolding padding_refused
    finds_33 = record { to = to; from = from }
      where
        to : T padding_test → PaddingUnfit s h q
        to t =
            let w = (both (one_of (equal p 1) (equal p 2)) (not_both (padding_fits p a m) (set_allows m s.padding h.padding) (itself (not (padding_fits p a m))) (negated (in_sets m s.padding h.padding)))).to t in
            (a, (fit_algorithm s h p f, ⊎_elim (λ x. inl (λ e y. T_not (padding_fits p a m) x (shape-padding p a m e y w.0))) (λ x. inr (w.0, x)) w.1))

        from : PaddingUnfit s h q → T padding_test
        from (b, (x, y)) =
            (refusing padding_test (means_33 p a m s.padding h.padding)).from λ k.
            let e : ℕ = pick (eqb m 1) 0 1 in
            ⊎_elim (λ n. n e (rw (← is-algorithm s h b x) (shape_of p a m e (λ l. (k l).0) (λ l. digest_for a m) f))) (λ n. n.1 (k n.0).1) y

    pub finds_34 : T (not padding_test) → Means digest_test (DigestUnfit s h q)
    unfolding digest_refused looks_at_digest
    finds_34 passed = record { to = to; from = from }
      where
        to : T digest_test → DigestUnfit s h q
        to t =
            let w = (both (one_of (equal p 2) (both (equal p 1) (equal m 2))) (not_both (digest_fits a m d) (set_allows d s.digest h.digest) (itself (not (digest_fits a m d))) (negated (in_sets d s.digest h.digest)))).to t in
            (a, (fit_algorithm s h p f, ⊎_elim (λ x. inl (λ y. T_not (digest_fits a m d) x (shape-digest p a m d y w.0))) (λ x. inr (w.0, x)) w.1))

        from : DigestUnfit s h q → T digest_test
        from (b, (x, y)) =
            (refusing digest_test (means_34 p a m d s.digest h.digest)).from λ k.
            ⊎_elim (λ n. n (rw (← is-algorithm s h b x) (shape_of p a m d (λ l. ((means_33 p a m s.padding h.padding).to passed l).0) (λ l. (k l).0) f))) (λ n. n.1 (k n.0).1) y

  abbrev TooSmall : ℕ → Type 0
  TooSmall bits = key_bytes bits < 2 * digest_bytes d + 2

  pub finds_35 : Means (key_size_refused p a m d s.key_size h.key_size) ((p ≡ 2) × (Algorithm s h 1 × ((m ≡ 3) × ((Held s.key_size h.key_size → ⊥) ⊎ InOne s.key_size h.key_size TooSmall))))
  unfolding key_size_refused
  finds_35 =
      let enough : ℕ → Bool = λ bits. leb (2 * digest_bytes d + 2) (key_bytes bits) in
      says
      (both (both (equal p 2) (both (equal a 1) (equal m 3)))
      (not_both (either s.key_size h.key_size) (both_allow enough s.key_size h.key_size) (negated (held s.key_size h.key_size)) (in_one enough TooSmall (λ bits. above (2 * digest_bytes d + 2) (key_bytes bits)) s.key_size h.key_size)))
      (λ w. (w.0.0, (rw w.0.1.0 at (has_algorithm s h (λ z. let o : a ≡ 1 = w.0.1.0 in omega arith)), (w.0.1.1, w.1))))
      (λ w. ((w.0, (is-algorithm s h 1 w.1.0, w.1.1.0)), w.1.1.1))

-- ---- 36 to 38

apart : (p : ℕ) → Signing p → Deciphering p → ⊥
apart p x y = true≢false (sym (signing p x) ∙ deciphering p y)

-- a test of the expiry date that applies
by_side : (test : Option ℕ → Option ℕ → Bool) (P : Option ℕ → Option ℕ → Type 0) → ((s h : Option ℕ) → Means (test s h) (P s h)) → (p : ℕ) → Signing p ⊎ Deciphering p
    → (so ho su hu : Option ℕ) → Means (test (expiry p so su) (expiry p ho hu)) ((Signing p × P so ho) ⊎ (Deciphering p × P su hu))
unfolding pick
by_side test P f p (inl g) so ho su hu = rw (signing p g) (says (f so ho) (λ x. inl (g, x)) (⊎_elim (λ x. x.1) (λ x. absurd (apart p g x.0))))
by_side test P f p (inr g) so ho su hu = rw (deciphering p g) (says (f su hu) (λ x. inr (g, x)) (⊎_elim (λ x. absurd (apart p x.0 g)) (λ x. x.1)))

module _ (p clock : ℕ) (k : KnownPurpose p) where
  pub finds_36 : (floor : ℕ) (sa ha so ho su hu : Option ℕ)
      → Means (clock_refused clock floor sa ha (expiry p so su) (expiry p ho hu)) ((clock < floor) × (Held sa ha ⊎ ((Signing p × Held so ho) ⊎ (Deciphering p × Held su hu))))
  unfolding clock_refused
  finds_36 floor sa ha so ho su hu = both (below clock floor) (one_of (held sa ha) (by_side (λ s h. either s h) (λ s h. Held s h) held p (known_side p k) so ho su hu))

  pub finds_38 : (so ho su hu : Option ℕ)
      → Means (expiry_refused clock (expiry p so su) (expiry p ho hu)) ((Signing p × InOne so ho (λ date. date < clock)) ⊎ (Deciphering p × InOne su hu (λ date. date < clock)))
  unfolding expiry_refused
  finds_38 so ho su hu =
      by_side (λ s h. not (both_allow (λ date. leb clock date) s h)) (λ s h. InOne s h (λ date. date < clock))
      (in_one (λ date. leb clock date) (λ date. date < clock) (λ date. above clock date)) p (known_side p k) so ho su hu

pub finds_37 : (clock : ℕ) (s h : Option ℕ) → Means (active_refused clock s h) (InOne s h (λ date. clock < date))
unfolding active_refused
finds_37 clock s h = in_one (λ date. leb date clock) (λ date. clock < date) (λ date. above date clock) s h

-- ---- 39 to 41

pub finds_39 : (ns nh : Bool) (s h : Option ℕ) → Means (auth_missing ns nh s h) (Either ns nh ⊎ Held s h → ⊥)
finds_39 ns nh s h = refusing (auth_missing ns nh s h) (means_39 ns nh s h)

pub finds_40 : (token : Bool) (kinds : ℕ) (s h : Option ℕ) → Means (token_refused token kinds s h) (InOne s h (λ wanted. (token ≡ false) ⊎ (bit_and kinds wanted ≡ 0)))
unfolding token_refused
finds_40 token kinds s h =
    in_one (λ wanted. token && not (eqb (bit_and kinds wanted) 0)) (λ wanted. (token ≡ false) ⊎ (bit_and kinds wanted ≡ 0))
    (λ wanted. not_both token (not (eqb (bit_and kinds wanted) 0)) (false_flag token) (twice (equal (bit_and kinds wanted) 0))) s h

not_picked : (a b c : Bool) {P Q R : Type 0} → Means a P → Means (not b) Q → Means (not c) R → (Q → P) → Means (not (pick a b c)) (Q ⊎ ((P → ⊥) × R))
unfolding pick
not_picked true b c f g h w = record { to = λ t. inl (g.to t); from = ⊎_elim (λ x. g.from x) (λ x. absurd (x.0 (f.to tt))) }
not_picked false b c f g h w = record { to = λ t. inr (f.from, h.to t); from = ⊎_elim (λ x. absurd (f.from (w x))) (λ x. h.from x.1) }

module _ (uptime time : ℕ) where
  abbrev Stale : ℕ → Type 0
  Stale seconds = (uptime < time) ⊎ (1000 * seconds < uptime - time)

  is_stale : (seconds : ℕ) → Means (not (recent uptime time seconds)) (Stale seconds)
  unfolding recent
  is_stale seconds = not_both (leb time uptime) (leb (uptime - time) (1000 * seconds)) (above time uptime) (above (uptime - time) (1000 * seconds))

  pub finds_41 : (handle challenge : ℕ) (sa ha st ht : Option ℕ)
      → Means (fresh_refused uptime time handle challenge sa ha st ht) (Held sa ha × (InOne st ht Stale ⊎ ((Held st ht → ⊥) × (challenge ≡ handle → ⊥))))
  unfolding fresh_refused
  finds_41 handle challenge sa ha st ht =
      both (held sa ha)
      (not_picked (either st ht) (both_allow (recent uptime time) st ht) (eqb challenge handle) (held st ht) (in_one (recent uptime time) Stale is_stale st ht) (negated (equal challenge handle))
      (⊎_elim (λ x. inl (x.0, x.1.0)) (λ x. inr (x.0, x.1.0))))

-- ---- 42 to 46

pub finds_so : (s h b : Bool) → Means (null_refused s h b) (Either s h × (b ≡ true))
finds_so s h b = both (one_of (true_flag s) (true_flag h)) (true_flag b)

pub finds_not_so : (s h b : Bool) → Means (null_refused s h (not b)) (Either s h × (b ≡ false))
finds_not_so s h b = both (one_of (true_flag s) (true_flag h)) (false_flag b)

pub finds_46 : (uses : ℕ) (s h : Option ℕ) → Means (uses_refused uses s h) (InOne s h (λ limit. limit ≤ uses))
unfolding uses_refused
finds_46 uses s h = in_one (λ limit. ltb uses limit) (λ limit. limit ≤ uses) (λ limit. at_least uses limit) s h
