-- What a permit means, and what a refusal's number says: check by check what it finds is what its number says, so that the
-- first that refuses has the smallest number whose sentence holds. Assumes nothing.
use mathlib.Core.Path.{◌≡◌, refl, sym, ◌∙◌}
use mathlib.Core.Logic.{inl, inr, ⊎_elim}
use mathlib.Core.Bool.{Bool, true, false}
use Prim.Native.Nat.{ℕ, ◌≤◌}
use native.Mathlib.Omega.{arith}
use lib.Dec.{eqb}
use borrow.Author.Tests.{eq-eqb, ne_eqb}
use Rattle.answer.specs.Answer.{got, refused, guard, pick}
use Rattle.answer.proofs.Sentences.{says-from}
use Rattle.answer.proofs.Answer.{refused-got, got_inj, pick_case}
use Rattle.answer.proofs.Logic.{not_equal}
use Rattle.records.specs.Shape.{well_shaped_record}
use Rattle.records.specs.declared.Record.{Record}
use Rattle.ruling.specs.Rules.{Rules}
use Rattle.ruling.specs.Ruling.{first_refusing, shape_checks, date_checks, token_checks, device_checks, checks, Permit, permit_of, looked_at, mark_of, held_tags, unless, ruled, ruling}
use Rattle.ruling.specs.Statements.{software_rules, hardware_rules, PermittedExactly, RecordPermittedExactly, IllShapedIs20, WellShapedIsRuled, RefusalIsFirst, RefusedExactly}
use Rattle.ruling.specs.Refuses.{sentences}
use Rattle.ruling.specs.Token.{token_challenge, token_kinds, token_there, token_time}
use Rattle.ruling.specs.declared.request.Request.{Request}
use Rattle.ruling.proofs.First.{Finds, all_numbered, none-refuses, clear_first, first_says, says_first}
use Rattle.ruling.proofs.Means.{equal}
use Rattle.ruling.proofs.CheckMeanings.{means_30, means_32}
use Rattle.ruling.proofs.CheckRefusals.{finds_30, finds_31, algorithm, finds_32, finds_33, finds_34, finds_35, finds_36, finds_37, finds_38, finds_39, finds_40, finds_41, finds_so, finds_not_so, finds_46}
use Rattle.ruling.proofs.Rulewise.{to-rules, from-rules}

-- ---- a number and what follows where it is 0

module _ {A : Type 0} (n : ℕ) (a : A) where
  unless-got : {w : A} → unless n a ≡ got w → (n ≡ 0) × (a ≡ w)
  unfolding unless
  unless-got e =
      pick_case (eqb n 0) (got a) (refused n 0) e (λ t f. ((equal n 0).to t, got_inj f)) (λ t f. absurd (refused-got f))

  unless-refused : {k p : ℕ} → unless n a ≡ refused k p → (n ≡ 0 → ⊥) × (n ≡ k) × (p ≡ 0)
  unfolding unless
  unless-refused e =
      pick_case (eqb n 0) (got a) (refused n 0) e (λ t f. absurd (refused-got (sym f))) (λ t f. (not_equal n 0 t, cc, cc))

-- ---- by the rules of both lists

module _ (level keymint_level : ℕ) (s h : Rules) (q : Request) where
  abbrev number : ℕ
  number = first_refusing (checks s h q)

  abbrev permitted : Permit
  permitted = permit_of level keymint_level (mark_of (held_tags h) (looked_at s h q)) (mark_of (held_tags s) (looked_at s h q))

  -- a permit's marks are those of the definition
  pub permit-is : {w : Permit} → ruled level keymint_level s h q ≡ got w → permitted ≡ w
  unfolding ruled
  permit-is e = (unless-got number permitted e).1

pub permitted-exactly : PermittedExactly
unfolding ruled unless pick
permitted-exactly level keymint_level s h q = (
  (λ x. to-rules s h q (none-refuses (checks s h q) (all_numbered s h q) (unless-got _ _ x.1).0)),
  (λ x. (permitted level keymint_level s h q, rw (eq-eqb (number level keymint_level s h q) 0 (clear_first (checks s h q) (from-rules s h q x))) refl)),
)

-- one number more whose check finds just what it says
next : {A B : Type 0} {n : ℕ} → A → B → (n ≡ n) × (A × B)
next a b = (refl, (a, b))

-- what the checks find is what the numbers say
found : (s h : Rules) (q : Request) → Finds (checks s h q) (sentences s h q)
unfolding shape_checks date_checks token_checks device_checks
found s h q =
    let p = q.purpose in
    next (finds_30 p) λ k30.
    next (finds_31 p s.purpose h.purpose) λ k31.
    next (finds_32 s h p) λ k32.
    let known = (means_30 p).to k30 in
    let fits = (means_32 p (algorithm s h)).to k32 in
    next (finds_33 s h q fits) λ k33.
    next (finds_34 s h q fits k33) λ k34.
    next (finds_35 s h q) λ k35.
    next (finds_36 p q.clock known q.floor s.active h.active s.origination h.origination s.usage h.usage) λ k36.
    next (finds_37 q.clock s.active h.active) λ k37.
    next (finds_38 p q.clock known s.origination h.origination s.usage h.usage) λ k38.
    next (finds_39 s.no_auth h.no_auth s.auth_type h.auth_type) λ k39.
    next (finds_40 (token_there q) (token_kinds q) s.auth_type h.auth_type) λ k40.
    next (finds_41 q.uptime (token_time q) q.handle (token_challenge q) s.auth_type h.auth_type s.auth_timeout h.auth_timeout) λ k41.
    next (finds_so s.unlocked h.unlocked q.locked) λ k42.
    next (finds_not_so s.presence h.presence q.present) λ k43.
    next (finds_not_so s.confirmation h.confirmation q.confirmed) λ k44.
    next (finds_so s.early_boot h.early_boot q.early_boot_over) λ k45.
    next (finds_46 q.uses s.use_limit h.use_limit) λ k46.
    tt

pub refusal_is-first : RefusalIsFirst
unfolding ruled unless pick
refusal_is-first level keymint_level s h q n place = (
  (λ e.
      let u = unless-refused (first_refusing (checks s h q)) _ e in
      (u.2, rw u.1 at (first_says (checks s h q) (sentences s h q) 30 tt (found s h q) u.0))),
  (λ x.
      let low : 30 ≤ n = says-from (sentences s h q) 30 n tt x.1.0 in
      rw (x.0, says_first (checks s h q) (sentences s h q) 30 n tt (found s h q) x.1, ne_eqb n 0 (λ z. omega arith)) refl),
)

-- ---- of a record

pub ill_shaped-is_20 : IllShapedIs20
unfolding ruling guard
ill_shaped-is_20 r q e = rw e refl

pub well_shaped-is-ruled : WellShapedIsRuled
unfolding ruling guard
well_shaped-is-ruled r q e = rw e refl

-- a record is well-shaped or not
by_shape : {X : Type 0} (r : Record) → (well_shaped_record r ≡ true → X) → (well_shaped_record r ≡ false → X) → X
by_shape {X} r f g = go (well_shaped_record r) f g
  where
    go : (b : Bool) → (b ≡ true → X) → (b ≡ false → X) → X
    go true f g = f refl
    go false f g = g refl

pub record_permitted-exactly : RecordPermittedExactly
record_permitted-exactly r q =
    let by_rules = permitted-exactly r.attestation.level r.keymint.level (software_rules r) (hardware_rules r) q in (
      (λ x. by_shape r (λ t. (t, by_rules.0 (x.0, sym (well_shaped-is-ruled r q t) ∙ x.1))) (λ f. absurd (refused-got (sym (ill_shaped-is_20 r q f) ∙ x.1)))),
      (λ x. let w = by_rules.1 x.1 in (w.0, well_shaped-is-ruled r q x.0 ∙ w.1)),
    )

pub refused-exactly : RefusedExactly
refused-exactly r q n place =
    let by_rules = refusal_is-first r.attestation.level r.keymint.level (software_rules r) (hardware_rules r) q n place in (
      (λ e. by_shape r (λ t. let w = by_rules.0 (sym (well_shaped-is-ruled r q t) ∙ e) in (w.0, inr (t, w.1))) (λ f. let g = sym e ∙ ill_shaped-is_20 r q f in (cc, inl (f, cc)))),
      (λ x. ⊎_elim (λ y. ill_shaped-is_20 r q y.0 ∙ rw (x.0, y.1) refl) (λ y. well_shaped-is-ruled r q y.0 ∙ by_rules.1 (x.0, y.1)) x.1),
    )
