-- Sizes of identifiers, lengths and INTEGERs from significant bits, as the code finds them. Assumes nothing.
use mathlib.Core.Path.{◌≡◌, refl, ◌∙◌}
use Prim.Native.Nat.{ℕ, ◌+◌, ◌-◌, ◌/◌, ◌%◌, ◌<◌, ◌≤◌}
use Rattle.std.specs.Prelude.{min}
use native.Mathlib.Omega.{arith}
use mir.Val.{Fits}
use mir.Syntax.{w64}
use lib.Count.{count_leading_zeros}
use lib.ListN.{length}
use Rattle.codec.specs.Shortest.{bits, integer_size, length_size, length_octets}
use Rattle.codec.specs.Header.{identifier, identifier_octets}
use Rattle.codec.proofs.Shortest.{bits-word, length-short, length-long, length-low_octets}
use Rattle.codec.proofs.Header.{one_octet, two_octets, three_octets}

pub bits_64 : (x : ℕ) → Fits w64 x → 64 - count_leading_zeros 64 x ≡ bits x
bits_64 x h = bits-word 64 x h.fits

pub integer_size_lem : (x b : ℕ) → b ≡ bits x → b / 8 + 1 ≡ integer_size x
unfolding integer_size
integer_size_lem x b e = rw e

pub length-size-short : (n : ℕ) → n < 128 → 1 ≡ length (length_octets n)
length-size-short n h = rw (length-short n h)

pub length-size-long : (n b k : ℕ) → 128 ≤ n → b ≡ bits n → k ≡ b / 8 + min 1 (b % 8) → k + 1 ≡ length (length_octets n)
unfolding length_size
length-size-long n b k h e d =
    let up : b / 8 + min 1 (b % 8) ≡ (b + 7) / 8 = omega arith in
    let c : k ≡ (bits n + 7) / 8 = d ∙ rw (← e) up in
    rw (length-long n (length_size n) h refl, c) (omega (arith, length-low_octets ((bits n + 7) / 8) n))

pub identifier-size_one : (n : ℕ) → n < 31 → (f : ℕ) → 1 ≡ length (identifier_octets (identifier f n))
identifier-size_one n h f = rw (one_octet (identifier f n) h)

pub identifier-size_two : (n : ℕ) → 31 ≤ n → n < 128 → (f : ℕ) → 2 ≡ length (identifier_octets (identifier f n))
identifier-size_two n l h f = rw (two_octets (identifier f n) l h)

pub identifier-size_three : (n : ℕ) → 128 ≤ n → (f : ℕ) → 3 ≡ length (identifier_octets (identifier f n))
identifier-size_three n l f = rw (three_octets (identifier f n) l)
