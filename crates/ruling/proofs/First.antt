-- The first check that refuses: a check at a time, group by group, and by what each number says. Assumes nothing.
use mathlib.Core.Path.{◌≡◌, refl, sym, ◌∙◌}
use mathlib.Core.Logic.{inl, inr, ⊎_elim}
use mathlib.Core.Bool.{Bool, true, false, not, ◌&&◌}
use mathlib.Core.List.{List, [], ◌∷◌, ◌++◌}
use Prim.Native.Nat.{ℕ, suc, ◌<◌, ◌≤◌}
use native.Mathlib.Omega.{arith}
use lib.Dec.{T, leb, ltb, ltb→lt}
use Rattle.std.specs.Prelude.{Result, Ok, Err}
use Rattle.answer.specs.Answer.{pick}
use Rattle.answer.specs.Refusal.{number_of}
use Rattle.answer.specs.declared.Refusal.{Refusal}
use Rattle.answer.specs.Sentences.{Says, SaysFirst}
use Rattle.answer.proofs.Sentences.{ascending, says-from}
use Rattle.answer.proofs.Logic.{and_left, and_right}
use Rattle.checks.specs.Checks.{algorithm_fits}
use Rattle.ruling.specs.Rules.{Rules}
use Rattle.ruling.specs.Code.{number_or_zero}
use Rattle.ruling.specs.Ruling.{Check, first_refusing, shape_checks, date_checks, token_checks, device_checks, checks}
use Rattle.ruling.specs.declared.request.Request.{Request}
use Rattle.ruling.proofs.Means.{Means}

-- ---- a check at a time: y is what the code found of it

module _ (n : ℕ) {x y : Bool} (cs : List Check) (e : y ≡ x) where
  pub refuses : y ≡ true → n ≡ first_refusing ((n, x) ∷ cs)
  unfolding first_refusing pick
  refuses t = rw (← e, t) refl

  pub passes : {r : ℕ} → y ≡ false → r ≡ first_refusing cs → r ≡ first_refusing ((n, x) ∷ cs)
  unfolding first_refusing pick
  passes t k = rw (← e, t) k

pub none_left : 0 ≡ first_refusing []
unfolding first_refusing
none_left = refl

-- no algorithm fits no purpose
pub none_fits : (p : ℕ) → algorithm_fits p 0 ≡ false
unfolding algorithm_fits
none_fits p = refl

pub ruleset unfit = (none_fits)

-- ---- group by group

-- no check has the number 0
abbrev pub numbered : List Check → Bool
numbered [] = true
numbered (c ∷ cs) = ltb 0 c.0 && numbered cs

first_here : (cs ds : List Check) → (first_refusing cs ≡ 0 → ⊥) → first_refusing cs ≡ first_refusing (cs ++ ds)
unfolding first_refusing pick
first_here [] ds h = absurd (h refl)
first_here ((n, true) ∷ cs) ds h = refl
first_here ((n, false) ∷ cs) ds h = first_here cs ds h

first_later : (cs ds : List Check) → T (numbered cs) → first_refusing cs ≡ 0 → first_refusing ds ≡ first_refusing (cs ++ ds)
unfolding first_refusing pick
first_later [] ds t e = refl
first_later ((n, true) ∷ cs) ds t e = let h : 0 < n = ltb→lt 0 n (and_left (ltb 0 n) (numbered cs) t) in absurd (omega arith)
first_later ((n, false) ∷ cs) ds t e = first_later cs ds (and_right (ltb 0 n) (numbered cs) t) e

-- no refusal has the number 0
abbrev above : Refusal → Bool
above r = ltb 0 (number_of r)

has_number : (r : Refusal) → T (above r)
has_number Refusal.TooLong = tt
has_number Refusal.RunsOut = tt
has_number Refusal.BadIdentifier = tt
has_number Refusal.BadLength = tt
has_number Refusal.TooDeep = tt
has_number Refusal.TooManyElements = tt
has_number Refusal.SpareBytes = tt
has_number Refusal.UnknownVersion = tt
has_number Refusal.WrongElement = tt
has_number Refusal.BadContent = tt
has_number Refusal.NotInVersion = tt
has_number Refusal.FieldOrder = tt
has_number Refusal.MemberOrder = tt
has_number Refusal.TooManyMembers = tt
has_number Refusal.IllShaped = tt
has_number Refusal.OutputShort = tt
has_number Refusal.EncodingTooLong = tt
has_number Refusal.PurposeUnknown = tt
has_number Refusal.PurposeNotAllowed = tt
has_number Refusal.AlgorithmUnfit = tt
has_number Refusal.PaddingNotAllowed = tt
has_number Refusal.DigestNotAllowed = tt
has_number Refusal.KeyTooSmall = tt
has_number Refusal.ClockBelowFloor = tt
has_number Refusal.NotYetActive = tt
has_number Refusal.Expired = tt
has_number Refusal.NoAuthRule = tt
has_number Refusal.TokenUnfit = tt
has_number Refusal.TokenNotFresh = tt
has_number Refusal.DeviceLocked = tt
has_number Refusal.UserNotPresent = tt
has_number Refusal.NotConfirmed = tt
has_number Refusal.EarlyBootOver = tt
has_number Refusal.UsedUp = tt
has_number Refusal.ChallengeDiffers = tt
has_number Refusal.SoftwareLevel = tt
has_number Refusal.NoRootOfTrust = tt
has_number Refusal.BootUnlocked = tt
has_number Refusal.BootNotVerified = tt
has_number Refusal.OriginNotGenerated = tt
has_number Refusal.ShortImage = tt

pub above_0 : (r : Refusal) → number_of r ≡ 0 → ⊥
above_0 r e = let l : 0 < number_of r = ltb→lt 0 (number_of r) (has_number r) in omega arith

module _ (s h : Rules) (q : Request) where
  shapes : T (numbered (shape_checks s h q))
  unfolding shape_checks
  shapes = tt

  dates : T (numbered (date_checks s h q))
  unfolding date_checks
  dates = tt

  tokens : T (numbered (token_checks s h q))
  unfolding token_checks
  tokens = tt

  -- what the groups answer in turn
  module _ (a : Result (Unit {0}) Refusal) (e : number_or_zero a ≡ first_refusing (shape_checks s h q)) where
    pub first-shape : (x : Refusal) → a ≡ Err x → number_of x ≡ first_refusing (checks s h q)
    first-shape x r = (rw r at e) ∙ first_here (shape_checks s h q) (date_checks s h q ++ (token_checks s h q ++ device_checks s h q)) (λ z. above_0 x ((rw r at e) ∙ z))

    module _ (i : a ≡ Ok tt) (b : Result (Unit {0}) Refusal) (f : number_or_zero b ≡ first_refusing (date_checks s h q)) where
      past_shape : first_refusing (date_checks s h q ++ (token_checks s h q ++ device_checks s h q)) ≡ first_refusing (checks s h q)
      past_shape = first_later (shape_checks s h q) (date_checks s h q ++ (token_checks s h q ++ device_checks s h q)) shapes (sym (rw i at e))

      pub first_date : (x : Refusal) → b ≡ Err x → number_of x ≡ first_refusing (checks s h q)
      first_date x r = (rw r at f) ∙ first_here (date_checks s h q) (token_checks s h q ++ device_checks s h q) (λ z. above_0 x ((rw r at f) ∙ z)) ∙ past_shape

      module _ (j : b ≡ Ok tt) (c : Result (Unit {0}) Refusal) (g : number_or_zero c ≡ first_refusing (token_checks s h q)) where
        past_date : first_refusing (token_checks s h q ++ device_checks s h q) ≡ first_refusing (checks s h q)
        past_date = first_later (date_checks s h q) (token_checks s h q ++ device_checks s h q) dates (sym (rw j at f)) ∙ past_shape

        pub first-token : (x : Refusal) → c ≡ Err x → number_of x ≡ first_refusing (checks s h q)
        first-token x r = (rw r at g) ∙ first_here (token_checks s h q) (device_checks s h q) (λ z. above_0 x ((rw r at g) ∙ z)) ∙ past_date

        pub first_device : c ≡ Ok tt → (d : ℕ) → d ≡ first_refusing (device_checks s h q) → d ≡ first_refusing (checks s h q)
        first_device k d l = l ∙ first_later (token_checks s h q) (device_checks s h q) tokens (sym (rw k at g)) ∙ past_date

  pub all_numbered : T (numbered (checks s h q))
  unfolding shape_checks date_checks token_checks device_checks
  all_numbered = tt

-- ---- where none refuses

abbrev pub Clear : List Check → Type 0
Clear [] = Unit {0}
Clear (c ∷ cs) = T (not c.1) × Clear cs

pub none-refuses : (cs : List Check) → T (numbered cs) → first_refusing cs ≡ 0 → Clear cs
unfolding first_refusing pick
none-refuses [] t e = tt
none-refuses ((n, true) ∷ cs) t e = let h : 0 < n = ltb→lt 0 n (and_left (ltb 0 n) (numbered cs) t) in absurd (omega arith)
none-refuses ((n, false) ∷ cs) t e = (tt, none-refuses cs (and_right (ltb 0 n) (numbered cs) t) e)

pub clear_first : (cs : List Check) → Clear cs → first_refusing cs ≡ 0
unfolding first_refusing pick
clear_first [] k = refl
clear_first ((n, true) ∷ cs) k = absurd k.0
clear_first ((n, false) ∷ cs) k = clear_first cs k.1

-- ---- the first that refuses, by what each number says

-- each check finds just what its number says, given that those before it do not refuse
abbrev pub Finds : List Check → List (ℕ × Type 0) → Type 0
Finds [] [] = Unit {0}
Finds [] (x ∷ xs) = ⊥
Finds (c ∷ cs) [] = ⊥
Finds (c ∷ cs) (x ∷ xs) = (c.0 ≡ x.0) × (Means c.1 x.1 × (T (not c.1) → Finds cs xs))

pub first_says : (cs : List Check) (xs : List (ℕ × Type 0)) (low : ℕ) → T (ascending low xs) → Finds cs xs → (first_refusing cs ≡ 0 → ⊥) → SaysFirst xs (first_refusing cs)
unfolding first_refusing pick
first_says [] xs low t f n = absurd (n refl)
first_says (c ∷ cs) [] low t f n = absurd f
first_says ((k, true) ∷ cs) ((j, P) ∷ xs) low t (e, (w, r)) n = (inl (e, w.to tt), none)
  where
    none : (m : ℕ) → m < k → Says ((j, P) ∷ xs) m → ⊥
    none m l (inl (g, x)) = omega arith
    none m l (inr v) = let i : suc j ≤ m = says-from xs (suc j) m (and_right (leb low j) (ascending (suc j) xs) t) v in omega arith
first_says ((k, false) ∷ cs) ((j, P) ∷ xs) low t (e, (w, r)) n =
    let z = first_says cs xs (suc j) (and_right (leb low j) (ascending (suc j) xs) t) (r tt) n in
    (inr z.0, λ m l. ⊎_elim (λ y. w.from y.1) (z.1 m l))

pub says_first : (cs : List Check) (xs : List (ℕ × Type 0)) (low n : ℕ) → T (ascending low xs) → Finds cs xs → SaysFirst xs n → first_refusing cs ≡ n
unfolding first_refusing pick
says_first cs [] low n t f (v, none) = absurd v
says_first [] (x ∷ xs) low n t f (v, none) = absurd f
says_first ((k, true) ∷ cs) ((j, P) ∷ xs) low n t (e, (w, r)) (inl (g, x), none) = e ∙ sym g
says_first ((k, true) ∷ cs) ((j, P) ∷ xs) low n t (e, (w, r)) (inr v, none) =
    absurd (none j (says-from xs (suc j) n (and_right (leb low j) (ascending (suc j) xs) t) v) (inl (refl, w.to tt)))
says_first ((k, false) ∷ cs) ((j, P) ∷ xs) low n t (e, (w, r)) (inl (g, x), none) = absurd (w.from x)
says_first ((k, false) ∷ cs) ((j, P) ∷ xs) low n t (e, (w, r)) (inr v, none) =
    says_first cs xs (suc j) n (and_right (leb low j) (ascending (suc j) xs) t) (r tt) (v, λ m l y. none m l (inr y))
