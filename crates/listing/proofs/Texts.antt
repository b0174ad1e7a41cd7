-- How the texts of numbers, octets and sets grow by one more digit, octet or member. Assumes nothing.
use mathlib.Core.Path.{◌≡◌, refl}
use mathlib.Core.Bool.{Bool}
use mathlib.Core.List.{List, [], ◌∷◌, ◌++◌, append_assoc, append-nil}
use Prim.Native.Nat.{ℕ, zero, suc, ◌+◌, ◌*◌, ◌/◌, ◌%◌, ◌^◌, ◌<◌, ◌≤◌}
use native.Mathlib.Omega.{arith}
use native.Mathlib.Nat.{pow-suc}
use lib.ListN.{length, get_or, length-append}
use lib.Dec.{eqb, eqb→eq}
use Rattle.answer.specs.Answer.{pick}
use Rattle.records.specs.Rows.{all_below}
use Rattle.records.proofs.Rowwise.{all_at}
use Rattle.listing.specs.Text.{space, dash, digits, decimal, hex_digit, hex_pair, hex_text, octets_text, more_numbers, numbers_text}

-- ---- a number

-- as many turns as the number are enough
enough : (f g n : ℕ) → n ≤ f → n ≤ g → digits f n ≡ digits g n
unfolding digits
enough zero zero n h l = refl
enough zero (suc g) zero h l = refl
enough zero (suc g) (suc n) h l = absurd (omega arith)
enough (suc f) zero zero h l = refl
enough (suc f) zero (suc n) h l = absurd (omega arith)
enough (suc f) (suc g) zero h l = refl
enough (suc f) (suc g) (suc n) h l = rw (enough f g (suc n / 10) (omega arith) (omega arith)) refl

pub digits-none : (f : ℕ) → digits f 0 ≡ []
unfolding digits
digits-none zero = refl
digits-none (suc f) = refl

pub decimal_one : (n : ℕ) → n < 10 → decimal n ≡ (48 + n) ∷ []
unfolding decimal digits
decimal_one zero h = refl
decimal_one (suc n) h =
    let e : suc n / 10 ≡ 0 = omega arith in
    let f : suc n % 10 ≡ suc n = omega arith in
    rw (e, f, digits-none n) refl

above_zero : (n f : ℕ) → 0 < n → n ≤ f → decimal n ≡ digits f n
unfolding decimal
above_zero zero f h l = absurd (omega arith)
above_zero (suc n) f h l = enough (suc n) f (suc n) (omega arith) l

pub decimal_more : (n : ℕ) → 10 ≤ n → decimal n ≡ decimal (n / 10) ++ ((48 + n % 10) ∷ [])
unfolding decimal digits
decimal_more zero h = absurd (omega arith)
decimal_more (suc n) h = rw (above_zero (suc n / 10) n (omega arith) (omega arith)) refl

digits-few : (k f n : ℕ) → n < 10 ^ k → length (digits f n) ≤ k
unfolding digits
digits-few k zero n h = omega arith
digits-few k (suc f) zero h = omega arith
digits-few zero (suc f) (suc n) h = absurd (omega arith)
digits-few (suc k) (suc f) (suc n) h =
    let l : suc n < 10 ^ k * 10 = rw pow-suc at h in
    rw length-append (omega (arith, digits-few k f (suc n / 10) (omega arith)))

pub decimal-few : (n : ℕ) → n < 2 ^ 64 → length (decimal n) ≤ 20
unfolding decimal
decimal-few zero h = omega arith
decimal-few (suc n) h = digits-few 20 (suc n) (suc n) (omega arith)

-- ---- octets

-- the sixteen digits, in their order
abbrev hex_digits : List ℕ
hex_digits = 48 ∷ 49 ∷ 50 ∷ 51 ∷ 52 ∷ 53 ∷ 54 ∷ 55 ∷ 56 ∷ 57 ∷ 97 ∷ 98 ∷ 99 ∷ 100 ∷ 101 ∷ 102 ∷ []

abbrev hex_digit_at : ℕ → Bool
hex_digit_at n = eqb (get_or hex_digits n 0) (hex_digit n)

pub hex_digit_there : (n : ℕ) → n < 16 → get_or hex_digits n 0 ≡ hex_digit n
unfolding all_below hex_digit pick
hex_digit_there n h = eqb→eq (get_or hex_digits n 0) (hex_digit n) (rw (all_at hex_digit_at 16 n h refl) tt)

pub hex_text-append : (xs ys : List ℕ) → hex_text (xs ++ ys) ≡ hex_text xs ++ hex_text ys
unfolding hex_text
hex_text-append [] ys = refl
hex_text-append (x ∷ xs) ys = rw (hex_text-append xs ys) (simp append_assoc)

pub hex_text_one : (b : ℕ) → hex_text (b ∷ []) ≡ hex_digit (b / 16) ∷ hex_digit (b % 16) ∷ []
unfolding hex_text hex_pair
hex_text_one b = refl

pub octets_text-none : (xs : List ℕ) → length xs ≤ 0 → 45 ∷ [] ≡ octets_text xs
unfolding octets_text
octets_text-none [] h = refl
octets_text-none (x ∷ xs) h = absurd (omega arith)

pub octets_text_some : (xs : List ℕ) → 0 < length xs → hex_text xs ≡ octets_text xs
unfolding octets_text
octets_text_some [] h = absurd (omega arith)
octets_text_some (x ∷ xs) h = refl

-- ---- a set

pub more_numbers-append : (xs ys : List ℕ) → more_numbers (xs ++ ys) ≡ more_numbers xs ++ more_numbers ys
unfolding more_numbers
more_numbers-append [] ys = refl
more_numbers-append (x ∷ xs) ys = rw (more_numbers-append xs ys) (simp append_assoc)

pub more_numbers_one : (n : ℕ) → more_numbers (n ∷ []) ≡ space ++ decimal n
unfolding more_numbers
more_numbers_one n = rw append-nil refl

pub numbers_text-none : (xs : List ℕ) → length xs ≡ 0 → dash ≡ numbers_text xs
unfolding numbers_text
numbers_text-none [] e = refl
numbers_text-none (x ∷ xs) e = absurd (omega arith)

pub numbers_text_some : (x : ℕ) (xs : List ℕ) → decimal x ++ more_numbers xs ≡ numbers_text (x ∷ xs)
unfolding numbers_text
numbers_text_some x xs = refl
