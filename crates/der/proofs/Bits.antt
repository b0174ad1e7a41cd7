-- Masks and shifts as arithmetic, and one octet of a part of a slice: what the header readers' tests mean in the
-- definitions' terms (`tests`). Assumes nothing.
use mathlib.Core.Path.{◌≡◌, refl, sym, ◌∙◌}
use mathlib.Core.Bool.{true, false}
use mathlib.Core.List.{List, [], ◌∷◌}
use Prim.Native.Nat.{ℕ, ◌+◌, ◌*◌, ◌%◌, ◌^◌, ◌<◌, ◌≤◌}
use native.Mathlib.Nat.{mod-eq_of_lt, le_refl}
use native.Mathlib.Numerals.{add-one}
use native.Mathlib.Omega.{arith}
use mir.Val.{Fits}
use mir.Syntax.{w8, w64}
use lib.Bits.{bit_and, bit_or, and_mask, or_shifted}
use lib.Dec.{eqb}
use lib.ListN.{length, get_or, take, drop_of_length-le, length-take}
use lib.Seq.{slice, slice-cons}
use borrow.Author.Tests.{le-ltb, lt-ltb, le-leb, lt-leb, eq-eqb, ne_eqb}
use Rattle.answer.specs.Answer.{Answer, refused}
use Rattle.codec.specs.Octets.{octet}

pub low5 : (a : ℕ) → bit_and a 31 ≡ a % 32
low5 a = and_mask a 5

pub low7 : (a : ℕ) → bit_and a 127 ≡ a % 128
low7 a = and_mask a 7

-- a shifted left by k with c below it: a sum, where nothing is lost
pub join : (k a c : ℕ) → a * 2 ^ k < 2 ^ 64 → c < 2 ^ k → bit_or ((a * 2 ^ k) % 2 ^ 64) c ≡ a * 2 ^ k + c
join k a c h l = rw (mod-eq_of_lt h) (or_shifted a k c l)

-- seven bits to an octet
pub join7 : (b c : ℕ) → c < 128 → bit_or ((bit_and b 127 * 2 ^ 7) % 2 ^ 64) c ≡ b % 128 * 128 + c
join7 b c h = rw low7 (join 7 (b % 128) c (omega arith) h)

-- two octets of a length
pub join8 : (b c : ℕ) → Fits w8 b → Fits w8 c → bit_or ((b * 2 ^ 8) % 2 ^ 64) c ≡ b * 256 + c
join8 b c l h = join 8 b c (omega (arith, l.fits)) h.fits

pub ones : (a : ℕ) → bit_and a 31 ≡ 31 → eqb (a % 32) 31 ≡ true
ones a h = eq-eqb _ _ (sym (low5 a) ∙ h)

pub not_ones : (a : ℕ) → (bit_and a 31 ≡ 31 → ⊥) → eqb (a % 32) 31 ≡ false
not_ones a h = ne_eqb _ _ (λ e. h (low5 a ∙ e))

pub fits5 : (a : ℕ) → Fits w64 (bit_and a 31)
fits5 a = omega (arith, low5 a)

pub fits7 : (a : ℕ) → Fits w64 (bit_and a 127)
fits7 a = omega (arith, low7 a)

-- the next octet of a part of s
module _ {A : Type 0} (p e : ℕ) (s : List ℕ) (k : ℕ → ℕ → List ℕ → Answer A) where
  pub octet_at : p < e → e ≤ length s → octet p (slice p e s) k ≡ k (get_or s p 0) (p + 1) (slice (p + 1) e s)
  unfolding octet
  octet_at h l = rw (slice-cons p e s 0 h l, add-one) refl

  pub octet-none : e ≤ p → octet p (slice p e s) k ≡ refused 2 p
  unfolding octet
  octet-none h = rw (drop_of_length-le (take e s) {i = p} (omega (arith, length-take e s))) refl

-- all that is left of s: the octet at p and the rest, or nothing
pub rest_cons : (s : List ℕ) (p : ℕ) → p < length s → slice p (length s) s ≡ get_or s p 0 ∷ slice (p + 1) (length s) s
rest_cons s p h = slice-cons p (length s) s 0 h (le_refl _) ∙ rw add-one refl

pub rest_none : (s : List ℕ) (p : ℕ) → length s ≤ p → slice p (length s) s ≡ []
rest_none s p h = drop_of_length-le (take (length s) s) {i = p} (omega (arith, length-take (length s) s))

-- the tests of the definitions, from what the code's branches know
pub ruleset tests = (le-ltb, lt-ltb, le-leb, lt-leb, eq-eqb, ne_eqb, ones, not_ones, low5, join7, octet_at, octet-none)
