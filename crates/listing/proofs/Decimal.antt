-- What `decimal` has to do: its digits spell the number, and the first of them is no 0 unless it stands alone. By
-- induction on the digits. Assumes nothing.
use mathlib.Core.Path.{◌≡◌, refl}
use mathlib.Core.List.{List, [], ◌∷◌, ◌++◌}
use Prim.Native.Nat.{ℕ, zero, suc, ◌+◌, ◌-◌, ◌*◌, ◌/◌, ◌%◌, ◌<◌, ◌≤◌}
use native.Mathlib.Omega.{arith}
use lib.ListN.{get_or}
use Rattle.answer.proofs.Logic.{by_le}
use Rattle.listing.specs.Text.{digits, decimal}
use Rattle.listing.proofs.Texts.{digits-none}

-- the number that decimal digits spell, after those that spell n
abbrev pub spelled : ℕ → List ℕ → ℕ
spelled n [] = n
spelled n (d ∷ ds) = spelled (n * 10 + (d - 48)) ds

spelled_append : (n : ℕ) (xs ys : List ℕ) → spelled n (xs ++ ys) ≡ spelled (spelled n xs) ys
spelled_append n [] ys = refl
spelled_append n (x ∷ xs) ys = spelled_append (n * 10 + (x - 48)) xs ys

digits_spell : (f n : ℕ) → n ≤ f → spelled 0 (digits f n) ≡ n
unfolding digits
digits_spell zero n h = omega arith
digits_spell (suc f) zero h = refl
digits_spell (suc f) (suc n) h =
    rw (spelled_append 0 (digits f (suc n / 10)) ((48 + suc n % 10) ∷ []), digits_spell f (suc n / 10) (omega arith)) (omega arith)

pub decimal_spells : (n : ℕ) → spelled 0 (decimal n) ≡ n
unfolding decimal
decimal_spells zero = refl
decimal_spells (suc n) = digits_spell (suc n) (suc n) (omega arith)

first-append : (xs ys : List ℕ) → 48 < get_or xs 0 0 → 48 < get_or (xs ++ ys) 0 0
first-append [] ys h = absurd (omega arith)
first-append (x ∷ xs) ys h = h

digits_lead : (f n : ℕ) → 0 < n → n ≤ f → 48 < get_or (digits f n) 0 0
unfolding digits
digits_lead zero n h l = absurd (omega arith)
digits_lead (suc f) zero h l = absurd (omega arith)
digits_lead (suc f) (suc n) h l =
    by_le 1 (suc n / 10)
    (λ w. first-append (digits f (suc n / 10)) ((48 + suc n % 10) ∷ []) (digits_lead f (suc n / 10) (omega arith) (omega arith)))
    (λ w. let z : suc n / 10 ≡ 0 = omega arith in rw (z, digits-none f) (omega arith))

-- no leading zero: the first digit of a number above 0 is '1' to '9'
pub decimal_lead : (n : ℕ) → 0 < n → 48 < get_or (decimal n) 0 0
unfolding decimal
decimal_lead zero h = absurd (omega arith)
decimal_lead (suc n) h = digits_lead (suc n) (suc n) (omega arith) (omega arith)
