-- None of the checks refuses exactly where every rule allows, check by check. Assumes nothing.
use mathlib.Core.Path.{◌≡◌}
use mathlib.Core.Logic.{◌⊎◌, inl, inr, ⊎_elim}
use mathlib.Core.Bool.{not}
use mathlib.Core.Option.{Option}
use Prim.Native.Nat.{ℕ, ◌≤◌}
use native.Mathlib.Omega.{arith}
use lib.Dec.{T}
use Rattle.answer.specs.Answer.{pick}
use Rattle.ruling.specs.Rules.{Rules}
use Rattle.checks.specs.Checks.{agreed, expiry, clock_refused, expiry_refused}
use Rattle.ruling.specs.Ruling.{shape_checks, date_checks, token_checks, device_checks, checks}
use Rattle.ruling.specs.Allowed.{Held, EachHeld, Allowed, Signing, Deciphering}
use Rattle.ruling.specs.Refuses.{Fits}
use Rattle.ruling.specs.Token.{token_challenge, token_kinds, token_there, token_time}
use Rattle.ruling.specs.declared.request.Request.{Request}
use Rattle.ruling.proofs.First.{Clear}
use Rattle.ruling.proofs.CheckMeanings.{means_30, means_31, means_32, means_33, means_34, means_35, means_36, means_37, means_38, signing, deciphering, means_39, means_40, means_41, means_forbids, means_wants, means_46}
use Rattle.ruling.proofs.Shaping.{agreed-says, agreed-is, shape_of, shape_known, shape-fits, shape-padding, shape-digest, known_side}

-- ---- the expiry date that applies, by the purpose

module _ (p clock floor : ℕ) (sa ha so ho su hu : Option ℕ) where
  abbrev ClockClear : Type 0
  ClockClear = T (not (clock_refused clock floor sa ha (expiry p so su) (expiry p ho hu)))

  abbrev ExpiryClear : Type 0
  ExpiryClear = T (not (expiry_refused clock (expiry p so su) (expiry p ho hu)))

  floor_signing : ClockClear → Signing p → Held so ho → floor ≤ clock
  unfolding pick
  floor_signing k g x = (means_36 clock floor sa ha so ho).to (rw (signing p g) at k) (inr x)

  floor_deciphering : ClockClear → Deciphering p → Held su hu → floor ≤ clock
  unfolding pick
  floor_deciphering k g x = (means_36 clock floor sa ha su hu).to (rw (deciphering p g) at k) (inr x)

  clock-clear : Signing p ⊎ Deciphering p → (Held sa ha → floor ≤ clock) → (Signing p → Held so ho → floor ≤ clock) → (Deciphering p → Held su hu → floor ≤ clock) → ClockClear
  unfolding pick
  clock-clear (inl g) u v w = rw (signing p g) ((means_36 clock floor sa ha so ho).from (⊎_elim u (v g)))
  clock-clear (inr g) u v w = rw (deciphering p g) ((means_36 clock floor sa ha su hu).from (⊎_elim u (w g)))

  expiry_signing : ExpiryClear → Signing p → EachHeld so ho (λ date. clock ≤ date)
  unfolding pick
  expiry_signing k g = (means_38 clock so ho).to (rw (signing p g) at k)

  expiry_deciphering : ExpiryClear → Deciphering p → EachHeld su hu (λ date. clock ≤ date)
  unfolding pick
  expiry_deciphering k g = (means_38 clock su hu).to (rw (deciphering p g) at k)

  expiry-clear : Signing p ⊎ Deciphering p → (Signing p → EachHeld so ho (λ date. clock ≤ date)) → (Deciphering p → EachHeld su hu (λ date. clock ≤ date)) → ExpiryClear
  unfolding pick
  expiry-clear (inl g) v w = rw (signing p g) ((means_38 clock so ho).from (v g))
  expiry-clear (inr g) v w = rw (deciphering p g) ((means_38 clock su hu).from (w g))

module _ (s h : Rules) (q : Request) where
  abbrev algorithm : ℕ
  algorithm = agreed s.algorithm h.algorithm

  -- ---- from the checks to the rules

  not_none : (p a : ℕ) → Fits p a → a ≡ 0 → ⊥
  not_none p a (inl (e, x)) z = omega arith
  not_none p a (inr (e, x)) z = omega arith

  pub to-rules : Clear (checks s h q) → Allowed s h q
  unfolding shape_checks date_checks token_checks device_checks
  to-rules (k30, (k31, (k32, (k33, (k34, (k35, (k36, (k37, (k38, (k39, (k40, (k41, (k42, (k43, (k44, (k45, (k46, _))))))))))))))))) =
      let p = q.purpose in
      let m = q.padding in
      let d = q.digest in
      let fits = (means_32 p algorithm).to k32 in
      let pads = (means_33 p algorithm m s.padding h.padding).to k33 in
      let digs = (means_34 p algorithm m d s.digest h.digest).to k34 in
      let says = agreed-says s.algorithm h.algorithm (not_none p algorithm fits) in
      let fresh = (means_41 q.uptime (token_time q) q.handle (token_challenge q) s.auth_type h.auth_type s.auth_timeout h.auth_timeout).to k41 in
      record {
        purpose = (means_31 p s.purpose h.purpose).to k31;
        algorithm = algorithm;
        present = says.0;
        agreed = says.1;
        shape = shape_of p algorithm m d (λ x. (pads x).0) (λ x. (digs x).0) fits;
        padding = λ x. (pads x).1;
        digest = λ x. (digs x).1;
        key_size = (means_35 p algorithm m d s.key_size h.key_size).to k35;
        floor = λ x. (means_36 q.clock q.floor s.active h.active (expiry p s.origination s.usage) (expiry p h.origination h.usage)).to k36 (inl x);
        origination_floor = floor_signing p q.clock q.floor s.active h.active s.origination h.origination s.usage h.usage k36;
        usage_floor = floor_deciphering p q.clock q.floor s.active h.active s.origination h.origination s.usage h.usage k36;
        active = (means_37 q.clock s.active h.active).to k37;
        origination = expiry_signing p q.clock q.floor s.active h.active s.origination h.origination s.usage h.usage k38;
        usage = expiry_deciphering p q.clock q.floor s.active h.active s.origination h.origination s.usage h.usage k38;
        auth = (means_39 s.no_auth h.no_auth s.auth_type h.auth_type).to k39;
        token = (means_40 (token_there q) (token_kinds q) s.auth_type h.auth_type).to k40;
        recent = λ x. ((λ n e. ((fresh x).0 (inl (n, e))).0 n e), (λ n e. ((fresh x).0 (inr (n, e))).1 n e));
        bound = λ x. (fresh x).1;
        unlocked = (means_forbids s.unlocked h.unlocked q.locked).to k42;
        presence = (means_wants s.presence h.presence q.present).to k43;
        confirmation = (means_wants s.confirmation h.confirmation q.confirmed).to k44;
        early_boot = (means_forbids s.early_boot h.early_boot q.early_boot_over).to k45;
        use_limit = (means_46 q.uses s.use_limit h.use_limit).to k46;
      }

  -- ---- from the rules to the checks

  -- one check more that does not refuse
  clear : {A B : Type 0} → A → B → A × B
  clear a b = (a, b)

  pub from-rules : Allowed s h q → Clear (checks s h q)
  unfolding shape_checks date_checks token_checks device_checks
  from-rules w =
      let p = q.purpose in
      let a = w.algorithm in
      let m = q.padding in
      let d = q.digest in
      let e : agreed s.algorithm h.algorithm ≡ a = agreed-is s.algorithm h.algorithm a w.present w.agreed in
      let side = known_side p (shape_known p a m d w.shape) in
      clear ((means_30 p).from (shape_known p a m d w.shape))
      (clear ((means_31 p s.purpose h.purpose).from w.purpose)
      (clear (rw e ((means_32 p a).from (shape-fits p a m d w.shape)))
      (clear (rw e ((means_33 p a m s.padding h.padding).from (λ x. (shape-padding p a m d w.shape x, w.padding x))))
      (clear (rw e ((means_34 p a m d s.digest h.digest).from (λ x. (shape-digest p a m d w.shape x, w.digest x))))
      (clear (rw e ((means_35 p a m d s.key_size h.key_size).from w.key_size))
      (clear (clock-clear p q.clock q.floor s.active h.active s.origination h.origination s.usage h.usage side w.floor w.origination_floor w.usage_floor)
      (clear ((means_37 q.clock s.active h.active).from w.active)
      (clear (expiry-clear p q.clock q.floor s.active h.active s.origination h.origination s.usage h.usage side w.origination w.usage)
      (clear ((means_39 s.no_auth h.no_auth s.auth_type h.auth_type).from w.auth)
      (clear ((means_40 (token_there q) (token_kinds q) s.auth_type h.auth_type).from w.token)
      (clear ((means_41 q.uptime (token_time q) q.handle (token_challenge q) s.auth_type h.auth_type s.auth_timeout h.auth_timeout).from (λ x. ((λ y. w.recent x), w.bound x)))
      (clear ((means_forbids s.unlocked h.unlocked q.locked).from w.unlocked)
      (clear ((means_wants s.presence h.presence q.present).from w.presence)
      (clear ((means_wants s.confirmation h.confirmation q.confirmed).from w.confirmation)
      (clear ((means_forbids s.early_boot h.early_boot q.early_boot_over).from w.early_boot)
      (clear ((means_46 q.uses s.use_limit h.use_limit).from w.use_limit) tt))))))))))))))))
