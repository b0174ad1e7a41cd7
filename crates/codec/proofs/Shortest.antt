-- Shortest numbers, once for every width. The idea: bits n is the least k with n < 2 ^ k (`bits-le`, `bits_gt`), and
-- octets of one length are determined by the number that they spell (`big_endian_inj`). Assumes nothing.
use mathlib.Core.Path.{◌≡◌, refl, sym, ap, ◌∙◌, subst}
use mathlib.Core.List.{List, [], ◌∷◌}
use Prim.Native.Nat.{ℕ, zero, suc, ◌+◌, ◌-◌, ◌*◌, ◌/◌, ◌%◌, ◌^◌, ◌<◌, ◌≤◌}
use native.Mathlib.Omega.{arith}
use native.Mathlib.Nat.{pow-suc, mod-eq_of_lt, mod-lt}
use lib.ListN.{length}
use lib.Dec.{ltb, lt→ltb}
use lib.Arith.{digits_lt, digits_div, digits_mod, le→nltb}
use lib.Pow.{pow_mono, pow-add, mod-pow-add}
use lib.Count.{count_leading_zeros, leading_length}
use Rattle.answer.proofs.Logic.{by_le}
use Rattle.answer.proofs.Answer.{pick_yes, pick_no}
use Rattle.codec.specs.Octets.{Octets}
use Rattle.codec.specs.Shortest.{big_endian, low_octets, bits, integer_size, integer_octets, length_size, length_octets}

-- ---- significant bits

below_pow : (n : ℕ) → n < 2 ^ n
below_pow zero = omega arith
below_pow (suc n) = omega (arith, below_pow n, pow-suc 2 n)

bits-both : (n : ℕ) → (n < 2 ^ bits n) × (2 ^ bits n ≤ 2 * n + 1)
unfolding bits
bits-both n =
    let s = leading_length n n (below_pow n) in
    let e : s.0 ≡ n - count_leading_zeros n n = omega (arith, s.1) in
    (subst (λ (m : ℕ). n < 2 ^ m) e s.2, subst (λ (m : ℕ). 2 ^ m ≤ 2 * n + 1) e s.3)

pub bits-le : (n k : ℕ) → n < 2 ^ k → bits n ≤ k
bits-le n k h =
    by_le (bits n) k (λ g. g) (λ g. absurd (omega (arith, (bits-both n).1, pow_mono g, pow-suc 2 k)))

pub bits_gt : (n k : ℕ) → 2 ^ k ≤ n → k < bits n
bits_gt n k h = by_le (bits n) k (λ g. absurd (omega (arith, (bits-both n).0, pow_mono g))) (λ g. g)

pub lt-bits : (n k : ℕ) → bits n ≤ k → n < 2 ^ k
lt-bits n k h = omega (arith, (bits-both n).0, pow_mono h)

-- what a machine word's leading zeros say
pub bits-word : (w n : ℕ) → n < 2 ^ w → w - count_leading_zeros w n ≡ bits n
bits-word w n h =
    let s = leading_length w n h in
    let up : bits n ≤ s.0 = bits-le n s.0 s.2 in
    let dn : s.0 ≤ bits n = by_le s.0 (bits n) (λ g. g) (λ g. absurd (omega (arith, s.3, pow_mono g, pow-suc 2 (bits n), (bits-both n).0))) in
    omega (arith, s.1)

-- ---- octets of a number

pub length-low_octets : (k n : ℕ) → length (low_octets k n) ≡ k
length-low_octets zero n = refl
length-low_octets (suc k) n = ap suc (length-low_octets k n)

pub octets-low_octets : (k n : ℕ) → Octets (low_octets k n)
octets-low_octets zero n = tt
octets-low_octets (suc k) n = (mod-lt (n / 2 ^ (8 * k)) (omega arith), octets-low_octets k n)

pub eight : (k : ℕ) → 8 * suc k ≡ 8 + 8 * k
eight k = omega arith

pub big_endian-lt : (bs : List ℕ) → Octets bs → big_endian bs < 2 ^ (8 * length bs)
big_endian-lt [] o = omega arith
big_endian-lt (x ∷ xs) o = rw (eight (length xs), pow-add 2 8 (8 * length xs)) (digits_lt o.0 (big_endian-lt xs o.1))

big_endian_mod : (k n : ℕ) → big_endian (low_octets k n) ≡ n % 2 ^ (8 * k)
big_endian_mod zero n = omega arith
big_endian_mod (suc k) n = rw (eight k, mod-pow-add n 8 (8 * k), big_endian_mod k n, length-low_octets k n)

-- what is written is read back
pub big_endian-back : (k n : ℕ) → n < 2 ^ (8 * k) → big_endian (low_octets k n) ≡ n
big_endian-back k n h = big_endian_mod k n ∙ mod-eq_of_lt h

-- as many octets that spell the same number are the same octets
pub big_endian_inj : (xs ys : List ℕ) → Octets xs → Octets ys → length xs ≡ length ys → big_endian xs ≡ big_endian ys → xs ≡ ys
big_endian_inj [] [] o u l e = refl
big_endian_inj [] (y ∷ ys) o u l e = absurd (omega arith)
big_endian_inj (x ∷ xs) [] o u l e = absurd (omega arith)
big_endian_inj (x ∷ xs) (y ∷ ys) o u l e =
    let l' : length xs ≡ length ys = omega arith in
    let B : ℕ = 2 ^ (8 * length ys) in
    let hx : big_endian xs < B = rw l' at (big_endian-lt xs o.1) in
    let hy : big_endian ys < B = big_endian-lt ys u.1 in
    let e' : x * B + big_endian xs ≡ y * B + big_endian ys = rw l' at e in
    let q : x ≡ y = sym (digits_div x hx) ∙ ap (λ (z : ℕ). z / B) e' ∙ digits_div y hy in
    let r : big_endian xs ≡ big_endian ys = sym (digits_mod x hx) ∙ ap (λ (z : ℕ). z % B) e' ∙ digits_mod y hy in
    let t : xs ≡ ys = big_endian_inj xs ys o.1 u.1 l' r in
    cc

-- what is read was written so
pub low_octets-back : (bs : List ℕ) → Octets bs → low_octets (length bs) (big_endian bs) ≡ bs
low_octets-back bs o =
    big_endian_inj (low_octets (length bs) (big_endian bs)) bs (octets-low_octets (length bs) (big_endian bs)) o (length-low_octets (length bs) (big_endian bs))
    (big_endian-back (length bs) (big_endian bs) (big_endian-lt bs o))

-- ---- no shorter form

-- octets with the sign bit clear that spell a number are at least as many as the INTEGER of that number has
pub integer_shortest : (bs : List ℕ) → 0 < length bs → big_endian bs < 2 ^ (8 * length bs - 1) → length (integer_octets (big_endian bs)) ≤ length bs
unfolding integer_octets integer_size
integer_shortest bs l h = omega (arith, length-low_octets (bits (big_endian bs) / 8 + 1) (big_endian bs), bits-le (big_endian bs) (8 * length bs - 1) h)

-- octets that spell a number are at least as many as its length octets are after the first
pub length_shortest : (bs : List ℕ) → Octets bs → length_size (big_endian bs) ≤ length bs
unfolding length_size
length_shortest bs o = omega (arith, bits-le (big_endian bs) (8 * length bs) (big_endian-lt bs o))

-- ---- sizes

pub length-integer_octets : (n : ℕ) → length (integer_octets n) ≡ integer_size n
unfolding integer_octets
length-integer_octets n = length-low_octets (integer_size n) n

pub integer_size-is : (n k : ℕ) → 8 * k ≤ bits n → bits n < 8 * k + 8 → integer_size n ≡ suc k
unfolding integer_size
integer_size-is n k lo hi = omega arith

pub length-short : (n : ℕ) → n < 128 → length_octets n ≡ n ∷ []
unfolding length_octets
length-short n h = pick_yes (ltb n 128) _ _ (lt→ltb n 128 h)

pub length-long : (n k : ℕ) → 128 ≤ n → length_size n ≡ k → length_octets n ≡ (128 + k) ∷ low_octets k n
unfolding length_octets
length-long n k l e = pick_no (ltb n 128) _ _ (le→nltb n 128 l) ∙ rw e

pub length_one : (n : ℕ) → 128 ≤ n → n < 256 → length_octets n ≡ 129 ∷ n ∷ []
unfolding length_size
length_one n l h =
    let v : n / 2 ^ (8 * 0) % 256 ≡ n = omega arith in
    length-long n 1 l (omega (arith, bits_gt n 7 l, bits-le n 8 h)) ∙ rw v

pub length_two : (n : ℕ) → 256 ≤ n → n < 65536 → length_octets n ≡ 130 ∷ n / 256 ∷ n % 256 ∷ []
unfolding length_size
length_two n l h =
    let v : n / 2 ^ (8 * 1) % 256 ≡ n / 256 = omega arith in
    let w : n / 2 ^ (8 * 0) % 256 ≡ n % 256 = omega arith in
    length-long n 2 (omega arith) (omega (arith, bits_gt n 8 l, bits-le n 16 h)) ∙ rw (v, w)
