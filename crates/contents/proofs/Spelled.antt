-- Octets as a number, one more octet at a time; and what a number of more than eight octets is. Assumes nothing.
use mathlib.Core.Path.{◌≡◌, refl, ◌∙◌}
use mathlib.Core.List.{List, [], ◌∷◌, ◌++◌}
use Prim.Native.Nat.{ℕ, zero, suc, ◌+◌, ◌*◌, ◌^◌, ◌<◌, ◌≤◌}
use native.Mathlib.Omega.{arith}
use native.Mathlib.Nat.{mul_assoc, mul-le-mul_right, zero-mul, zero-add}
use mir.Val.{Fits}
use mir.Syntax.{w8, w64}
use lib.ListN.{length, get_or, take, drop, length-append}
use lib.Pow.{pow-add, pow_mono}
use lib.Seq.{take-suc, length-take-le}
use native.Mathlib.Numerals.{add-one}
use borrow.Author.Tests.{le-leb, lt-leb, lt-ltb, le-ltb, ne_eqb}
use Rattle.std.specs.Prelude.{Option}
use Rattle.answer.specs.Answer.{got, refused, guard}
use Rattle.codec.specs.Octets.{Octets}
use Rattle.codec.specs.Shortest.{big_endian}
use Rattle.codec.specs.Integer.{integer_of}
use Rattle.codec.proofs.Shortest.{big_endian-lt}
use Rattle.contents.specs.Leaf.{within_top, of_value}

-- ---- one more octet

pub big_endian_snoc : (xs : List ℕ) (y : ℕ) → big_endian (xs ++ (y ∷ [])) ≡ big_endian xs * 256 + y
big_endian_snoc [] y = omega arith
big_endian_snoc (x ∷ xs) y =
    let m : length (xs ++ (y ∷ [])) ≡ suc (length xs) = length-append xs (y ∷ []) ∙ omega arith in
    let e : 8 * suc (length xs) ≡ 8 * length xs + 8 = omega arith in
    rw (m, e, pow-add, big_endian_snoc xs y) (omega (arith, mul_assoc x (2 ^ (8 * length xs)) 256))

-- seven octets leave room for one more
pub room_for_one : (xs : List ℕ) (v : ℕ) → Octets xs → length xs ≤ 7 → v ≡ big_endian xs → v * 256 + 255 < 2 ^ 64
room_for_one xs v o h q =
    let b : v < 2 ^ (8 * length xs) = rw q (big_endian-lt xs o) in
    let p : 2 ^ (8 * length xs) ≤ 2 ^ 56 = pow_mono {i = 8 * length xs} {j = 56} (omega arith) in
    omega arith

pub octets_all : (s : List ℕ) → ((k : ℕ) → Fits w8 (get_or s k 0)) → Octets s
octets_all [] f = tt
octets_all (x ∷ xs) f = ((f 0).fits, octets_all xs (λ k. f (suc k)))

pub octets_take : (n : ℕ) (s : List ℕ) → Octets s → Octets (take n s)
octets_take zero s o = tt
octets_take (suc n) [] o = tt
octets_take (suc n) (x ∷ xs) o = (o.0, octets_take n xs o.1)

-- the octets up to here leave room for one more
pub spelled_fits : (xs : List ℕ) (i v : ℕ) → ((k : ℕ) → Fits w8 (get_or xs k 0)) → i < length xs → length xs ≤ 8 → v ≡ big_endian (take i xs) → v * 256 + 255 < 2 ^ 64
spelled_fits xs i v f h l q = room_for_one (take i xs) v (octets_take i xs (octets_all xs f)) (omega (arith, length-take-le i xs (omega arith))) q

-- one more octet of those up to here
pub spelled_more : (xs : List ℕ) (i v : ℕ) → i < length xs → v ≡ big_endian (take i xs) → v * 256 + get_or xs i 0 ≡ big_endian (take (i + 1) xs)
spelled_more xs i v h q = rw (add-one, take-suc xs i 0 h, big_endian_snoc, q) refl

-- ---- a number within its top

over_eight : (xs : List ℕ) → 1 ≤ get_or xs 0 0 → 8 < length xs → 2 ^ 64 ≤ big_endian xs
over_eight [] h l = absurd (omega arith)
over_eight (x ∷ r) h l =
    let p : 2 ^ 64 ≤ 2 ^ (8 * length r) = pow_mono {i = 64} {j = 8 * length r} (omega arith) in
    omega (arith, mul-le-mul_right (2 ^ (8 * length r)) h)

module _ (xs : List ℕ) (top : ℕ) where
  pub top_long : Fits w64 top → 1 ≤ get_or xs 0 0 → 8 < length xs → (p : ℕ) → refused 10 p ≡ within_top top p (big_endian xs)
  unfolding within_top guard
  top_long f h l p = rw (lt-leb (big_endian xs) top (omega (arith, over_eight xs h l, f.fits))) refl

  pub top_over : (v : ℕ) → v ≡ big_endian xs → top < v → (p : ℕ) → refused 10 p ≡ within_top top p (big_endian xs)
  unfolding within_top guard
  top_over v e h p = rw (← e, lt-leb v top h) refl

  pub top_within : (v : ℕ) → v ≡ big_endian xs → v ≤ top → (p : ℕ) → got v ≡ within_top top p (big_endian xs)
  unfolding within_top guard
  top_within v e h p = rw (← e, le-leb v top h) refl

-- ---- an INTEGER's content, by its first octets

module _ (top : ℕ) where
  pub content_none : (xs : List ℕ) → length xs ≡ 0 → (p : ℕ) → refused 10 p ≡ integer_of top 10 p xs
  unfolding integer_of
  content_none [] e p = refl
  content_none (x ∷ xs) e p = absurd (omega arith)

  pub content_high : (xs : List ℕ) → 0 < length xs → 128 ≤ get_or xs 0 0 → (p : ℕ) → refused 10 p ≡ integer_of top 10 p xs
  unfolding integer_of guard
  content_high [] h l p = absurd (omega arith)
  content_high (a ∷ []) h l p = rw (le-ltb a 128 l) refl
  content_high (a ∷ b ∷ r) h l p = rw (le-ltb a 128 l) refl

  pub content_one_over : (xs : List ℕ) → length xs ≡ 1 → get_or xs 0 0 < 128 → top < get_or xs 0 0 → (p : ℕ) → refused 10 p ≡ integer_of top 10 p xs
  unfolding integer_of guard
  content_one_over [] e a h p = absurd (omega arith)
  content_one_over (x ∷ []) e a h p = rw (lt-ltb x 128 a, lt-leb x top h) refl
  content_one_over (x ∷ y ∷ r) e a h p = absurd (omega arith)

  pub content_one : (xs : List ℕ) → length xs ≡ 1 → get_or xs 0 0 < 128 → get_or xs 0 0 ≤ top → (p : ℕ) → got (get_or xs 0 0) ≡ integer_of top 10 p xs
  unfolding integer_of guard
  content_one [] e a h p = absurd (omega arith)
  content_one (x ∷ []) e a h p = rw (lt-ltb x 128 a, le-leb x top h) refl
  content_one (x ∷ y ∷ r) e a h p = absurd (omega arith)

  pub content_long : (xs : List ℕ) → 0 < length xs → (length xs ≡ 1 → ⊥) → get_or xs 0 0 ≡ 0 → get_or xs 1 0 < 128 → (p : ℕ) → refused 10 p ≡ integer_of top 10 p xs
  unfolding integer_of guard
  content_long [] h n z b p = absurd (omega arith)
  content_long (x ∷ []) h n z b p = absurd (n (omega arith))
  content_long (x ∷ y ∷ r) h n z b p = rw (z, lt-ltb y 128 b) refl

  module _ (r : Option ℕ) where
    pub content_zero : (xs : List ℕ) → 0 < length xs → (length xs ≡ 1 → ⊥) → get_or xs 0 0 ≡ 0 → 128 ≤ get_or xs 1 0 → ((p : ℕ) → of_value p r ≡ within_top top p (big_endian (drop 1 xs)))
        → (p : ℕ) → of_value p r ≡ integer_of top 10 p xs
    unfolding integer_of guard within_top
    content_zero [] h n z b e p = absurd (omega arith)
    content_zero (x ∷ []) h n z b e p = absurd (n (omega arith))
    content_zero (x ∷ y ∷ t) h n z b e p = let v : big_endian (0 ∷ y ∷ t) ≡ big_endian (y ∷ t) = rw (zero-mul, zero-add) refl in e p ∙ rw (z, le-ltb y 128 b, v) refl

    pub content_more : (xs : List ℕ) → 0 < length xs → (length xs ≡ 1 → ⊥) → get_or xs 0 0 < 128 → (get_or xs 0 0 ≡ 0 → ⊥) → ((p : ℕ) → of_value p r ≡ within_top top p (big_endian xs))
        → (p : ℕ) → of_value p r ≡ integer_of top 10 p xs
    unfolding integer_of guard within_top
    content_more [] h n a z e p = absurd (omega arith)
    content_more (x ∷ []) h n a z e p = absurd (n (omega arith))
    content_more (x ∷ y ∷ t) h n a z e p = e p ∙ rw (lt-ltb x 128 a, ne_eqb x 0 z) refl
