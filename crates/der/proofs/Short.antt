-- The short ways of a header, in plain variables: each says what the long way would. Assumes nothing.
use mathlib.Core.Path.{◌≡◌, refl, sym}
use mathlib.Core.List.{List}
use Prim.Native.Nat.{ℕ, ◌+◌, ◌-◌, ◌*◌, ◌/◌, ◌%◌, ◌^◌, ◌<◌, ◌≤◌}
use native.Mathlib.Omega.{arith}
use lib.Bits.{bit_and, bit_or}
use lib.ListN.{length, get_or}
use lib.Seq.{slice, length-slice}
use borrow.Author.Tests.{le-leb}
use Rattle.std.specs.Prelude.{Ok}
use Rattle.answer.specs.Answer.{got, guard, bind, pick}
use Rattle.codec.specs.Octets.{taken}
use Rattle.codec.specs.Header.{identifier, header, read_identifier, read_length, read_header, reported}
use Rattle.der.specs.Short.{ShortIs, ExtentIs, HeaderIs}
use Rattle.der.proofs.Bits.{tests}
use Rattle.der.proofs.Headers.{number_high, identifier_high}

-- ---- an identifier of one octet, and of three

module _ (s : List ℕ) (at end : ℕ) (fit : end ≤ length s) where
  pub short_one : at < end → (bit_and (get_or s at 0) 31 ≡ 31 → ⊥) → ShortIs s at end (get_or s at 0 / 32) (bit_and (get_or s at 0) 31) (at + 1)
  unfolding read_identifier pick
  short_one h n = record { is = simp tests; from = omega arith }

  pub short_three : at < end → 4 ≤ end - at → bit_and (get_or s at 0) 31 ≡ 31 → 128 < get_or s (at + 1) 0 → get_or s (at + 2) 0 < 128
      → ShortIs s at end (get_or s at 0 / 32) (bit_or ((bit_and (get_or s (at + 1) 0) 127 * 2 ^ 7) % 2 ^ 64) (get_or s (at + 2) 0)) (at + 3)
  short_three h l o b c =
      let p : at + 1 + 1 ≡ at + 2 = omega arith in
      let q : at + 1 + 1 + 1 ≡ at + 3 = omega arith in
      let f = get_or s at 0 / 32 in
      let e = number_high s f (at + 1) end fit (omega arith) (omega arith) b (omega arith) (rw p c) in
      record { is = rw (q, p) at (sym (identifier_high s at end (Ok (record { form = f; number = _; next = at + 1 + 1 + 1 })) fit h o e)); from = omega arith }

-- ---- a length and the content after it

pub extent_is : (s : List ℕ) (at end z b : ℕ) → got (taken z b (slice b end s)) ≡ read_length at (slice at end s) → at < b → b ≤ end → z ≤ end - b → ExtentIs s at end b (b + z)
extent_is s at end z b e i j h =
    let q : b + z - b ≡ z = omega arith in
    record { is = rw (← e, q) refl; from = i; size = omega arith; to = omega arith }

-- a length of one octet
pub extent_short : (s : List ℕ) (at end : ℕ) → end ≤ length s → at < end → get_or s at 0 < 128 → get_or s at 0 ≤ end - (at + 1) → ExtentIs s at end (at + 1) (at + 1 + get_or s at 0)
unfolding read_length pick
extent_short s at end fit h l m =
    let q : at + 1 + get_or s at 0 - (at + 1) ≡ get_or s at 0 = omega arith in
    record { is = simp (tests, q); from = omega arith; size = omega arith; to = omega arith }

-- ---- a header, from its identifier and its length

module _ (s : List ℕ) (at end : ℕ) (fit : end ≤ length s) where
  joined : (f n p b x : ℕ) → read_identifier at (slice at end s) ≡ got (taken (identifier f n) p (slice p end s)) → ExtentIs s p end b x
      → read_header at (slice at end s) ≡ got (taken (header (identifier f n) (x - b)) b (slice b end s))
  unfolding read_header bind guard reported
  joined f n p b x e i = let l : x - b ≤ end - b = omega (arith, i.to) in rw (e, i.is, length-slice b end s fit, le-leb _ _ l) refl

  pub header_is : (f n p b x : ℕ) → ShortIs s at end f n p → ExtentIs s p end b x → HeaderIs s at end f n b x
  header_is f n p b x k i = record { is = joined f n p b x k.is i; from = omega (arith, k.from, i.from); size = i.size; to = i.to }

  module _ (f n p b x : ℕ) (k : ShortIs s at end f n p) (i : ExtentIs s p end b x) where
    quick : HeaderIs s at end f n b x
    quick = header_is f n p b x k i

    pub quick_is : got (taken (header (identifier f n) (x - b)) b (slice b end s)) ≡ read_header at (slice at end s)
    quick_is = sym quick.is

    pub quick_from : at < b
    quick_from = quick.from

    pub quick_size : b ≤ x
    quick_size = quick.size

    pub quick_to : b + (x - b) ≤ end
    quick_to = omega (arith, quick.size, quick.to)
