-- What the writer's leaves leave in the output, in plain variables. The idea: stores are splices, and one splice after
-- another is one. Assumes nothing.
use mathlib.Core.Path.{◌≡◌, refl, sym, ap, ◌∙◌}
use mathlib.Core.List.{List, [], ◌∷◌, ◌++◌, append-nil}
use Rattle.std.specs.Prelude.{Result, Ok, Err}
use Rattle.std.specs.Result.{IsErr, IsErrAnd}
use Rattle.answer.specs.declared.Refused.{Refused}
use Prim.Native.Nat.{ℕ, zero, suc, ◌+◌, ◌-◌, ◌*◌, ◌/◌, ◌%◌, ◌^◌, ◌<◌, ◌≤◌, min}
use native.Mathlib.Omega.{arith}
use native.Mathlib.Nat.{div-one, div-div-eq-div-mul, zero-add, suc-add}
use native.Mathlib.Numerals.{add-one}
use mir.Val.{Fits}
use mir.Syntax.{w8, w64}
use lib.Bits.{bit_and, bit_or, or_shifted_r}
use lib.ListN.{length, get_or, take, drop, set, length-set, length-append, length-drop}
use lib.Seq.{drop-drop, take-suc, take_all, take_at, length-take-le}
use Rattle.std.proofs.lemmas.List.{drop_all}
use borrow.Rule.Slice.PartMut.{put_mid}
use Rattle.std.specs.Int.{bytes_high_first}
use lib.Pow.{pow-add}
use borrow.Author.Tests.{le-ltb, lt-ltb, le-leb, lt-leb}
use Rattle.answer.proofs.Logic.{by_le}
use Rattle.answer.proofs.Answer.{got_inj, refused-got}
use Rattle.answer.specs.Answer.{Answer, got, refused, guard, pick}
use Rattle.answer.specs.Refusal.{number_of}
use Rattle.codec.specs.Octets.{splice, left}
use Rattle.codec.specs.Shortest.{low_octets, bits, integer_size, integer_octets, length_size, length_octets}
use Rattle.codec.specs.Integer.{integer_element}
use Rattle.codec.specs.Header.{Identifier, identifier, identifier_octets, header_octets, element_octets}
use Rattle.codec.proofs.Splice.{splice-nothing, splice_one, length-splice, splice-splice, splice_before, splice_stores}
use Rattle.codec.proofs.Shortest.{bits-le, lt-bits, length-low_octets, length-short, length-long}
use Rattle.codec.proofs.Header.{one_octet, two_octets, three_octets}
use Rattle.der_write.specs.Write.{of_put, header_put, room_after, room_for}
use Rattle.der.proofs.Bits.{low7}
use Rattle.der_write.proofs.Sizes.{identifier-size_one, identifier-size_two, identifier-size_three}

-- ---- room

module _ (out : List ℕ) (at n : ℕ) where
  pub place_fits : (end : ℕ) → end ≡ at + n → end ≤ length out → got end ≡ room_after out at n
  unfolding room_after guard
  place_fits end e h = rw (e, le-leb (at + n) (length out) (omega arith)) refl

  pub place_past : length out < at + n → refused 21 0 ≡ room_after out at n
  unfolding room_after guard
  place_past h = rw (lt-leb (at + n) (length out) h) refl

  -- a value says that there is room
  pub has_space : (end : ℕ) → got end ≡ room_after out at n → (at + n ≤ length out) × (end ≡ at + n)
  unfolding room_after guard
  has_space end e =
      by_le (at + n) (length out)
      (λ h. (h, got_inj (e ∙ rw (le-leb (at + n) (length out) h) refl)))
      (λ h.
      let r : got end ≡ refused 21 0 = e ∙ rw (lt-leb (at + n) (length out) h) refl in
      absurd (refused-got (sym r)))

-- the length of a part of a slice, from at to end
pub part_length : (out : List ℕ) (at end n : ℕ) → at + n ≤ length out → end ≡ at + n → length (take (end - at) (drop at out)) ≡ n
part_length out at end n h e =
    let l : end - at ≤ length (drop at out) = omega (arith, length-drop at out) in
    length-take-le (end - at) (drop at out) l ∙ omega arith

-- ---- the low octets of a number, as the last of the sixteen that u128 has

pow_256 : (k : ℕ) → 256 ^ k ≡ 2 ^ (8 * k)
pow_256 zero = refl
pow_256 (suc k) = let e : 8 * suc k ≡ 8 * k + 8 = omega arith in rw (e, pow-add 2 (8 * k) 8, ← pow_256 k) (omega arith)

bytes-low : (n x : ℕ) → bytes_high_first n x ≡ low_octets n x
bytes-low zero x = refl
bytes-low (suc zero) x = rw (div-one x) refl
bytes-low (suc (suc k)) x = rw (bytes-low (suc k) x, pow_256 (suc k)) refl

drop-bytes : (j n x : ℕ) → drop j (bytes_high_first (j + n) x) ≡ bytes_high_first n x
drop-bytes zero n x = rw (zero-add n) refl
drop-bytes (suc j) n x = rw (suc-add j n) (drop-bytes j n x)

-- a write to a part of a slice, once it has its length, is a splice
pub put_mid-splice : (old ys xs : List ℕ) (at n : ℕ) → ys ≡ xs → n ≡ length xs → put_mid at (at + n - at) old ys ≡ splice old at xs
unfolding splice
put_mid-splice old ys xs at n e h =
    let m : at + n - at ≡ n = omega arith in
    rw (m, drop-drop n at old, e, h) refl

-- ---- octets copied one after the other

module _ (old from : List ℕ) where
  pub copied_none : old ≡ splice old 0 (take 0 from)
  copied_none = sym (splice-nothing old 0)

  pub copied_more : {to : List ℕ} (k : ℕ) → k < min (length old) (length from) → to ≡ splice old 0 (take k from)
      → set to k (get_or from k 0) ≡ splice old 0 (take (k + 1) from)
  copied_more {to} k h e =
      let t : 0 + length (take k from) ≡ k = zero-add _ ∙ length-take-le k from (omega arith) in
      let l : 0 + length (take k from) ≤ length old = omega arith in
      let f : k < length (splice old 0 (take k from)) = omega (arith, length-splice old 0 (take k from) l) in
      rw (e, ← splice_one (splice old 0 (take k from)) k (get_or from k 0) f, add-one, take-suc from k 0 (omega arith))
      (rw t at (splice-splice old 0 (take k from) (get_or from k 0 ∷ []) l))

  pub copied_all : {to : List ℕ} (k : ℕ) → k ≡ min (length old) (length from) → to ≡ splice old 0 (take k from) → to ≡ splice old 0 (take (length old) from)
  copied_all {to} k h e =
      by_le (length old) (length from)
      (λ l. let d : k ≡ length old = omega arith in rw d at e)
      (λ l. let d : k ≡ length from = omega arith in
      e ∙ ap (splice old 0) (take_all k from (omega arith) ∙ sym (take_all (length old) from (omega arith))))

pub whole : (old xs : List ℕ) → length old ≡ length xs → splice old 0 xs ≡ xs
unfolding splice
whole old xs e = let d : drop (0 + length xs) old ≡ [] = drop_all (0 + length xs) old (omega arith) in rw (d, append-nil) refl

-- ---- the octets of a number, from the last to the first

module _ (old : List ℕ) (x n : ℕ) where
  pub octets_start : (x ≡ x / 2 ^ (8 * (n - n))) × (old ≡ splice old n (low_octets (n - n) x))
  octets_start = let e : n - n ≡ 0 = omega arith in rw e (sym (div-one x), sym (splice-nothing old n))

  pub octets_shift : (k : ℕ) → 0 < k → k ≤ n → x / 2 ^ (8 * (n - k)) / 256 ≡ x / 2 ^ (8 * (n - (k - 1)))
  octets_shift k p q =
      let e : n - (k - 1) ≡ suc (n - k) = omega arith in
      let c : 8 * (n - k) + 8 ≡ 8 * suc (n - k) = omega arith in
      rw (e, div-div-eq-div-mul, ← c, pow-add) refl

  pub octets_more : (k : ℕ) → 0 < k → k ≤ n → n ≤ length old
      → set (splice old k (low_octets (n - k) x)) (k - 1) (x / 2 ^ (8 * (n - k)) % 256) ≡ splice old (k - 1) (low_octets (n - (k - 1)) x)
  octets_more zero p q h = absurd (omega arith)
  octets_more (suc j) p q h =
      let e₁ : suc j - 1 ≡ j = omega arith in
      let e₂ : n - j ≡ suc (n - suc j) = omega arith in
      rw (e₁, e₂) (splice_before old j (low_octets (n - suc j) x) (x / 2 ^ (8 * (n - suc j)) % 256) (omega (arith, length-low_octets (n - suc j) x)))

  pub octets_all : (k : ℕ) (out : List ℕ) → length old ≡ n → k ≤ 0 → out ≡ splice old k (low_octets (n - k) x) → out ≡ low_octets n x
  octets_all k out z l q =
      let e₁ : n - k ≡ n = omega arith in
      let e₂ : k ≡ 0 = omega arith in
      q ∙ rw (e₁, e₂) (whole old (low_octets n x) (z ∙ sym (length-low_octets n x)))

-- a part that is filled, of a slice that is just filled so
pub put_mid_is : (old ys xs : List ℕ) (at k : ℕ) → ys ≡ xs → k ≡ length xs → put_mid at k old ys ≡ splice old at xs
unfolding splice
put_mid_is old ys xs at k e h = rw (drop-drop k at old, e, h) refl

-- all of xs, over a slice that is just as long
pub copied_whole : (old xs : List ℕ) {to : List ℕ} → length old ≡ length xs → to ≡ splice old 0 (take (length old) xs) → to ≡ xs
copied_whole old xs h e = e ∙ (ap (splice old 0) (take_all (length old) xs (omega (arith, h))) ∙ whole old xs h)

-- ---- an identifier

-- the high seven bits of a number, marked as not the last
pub high7 : (n : ℕ) → n < 16384 → bit_or (n / 2 ^ 7) 128 ≡ 128 + n / 128
high7 n h = or_shifted_r 1 7 (n / 2 ^ 7) (omega arith) ∙ omega arith

pub fits_high7 : (n : ℕ) → n < 16384 → Fits w8 (bit_or (n / 2 ^ 7) 128)
fits_high7 n h = omega (arith, high7 n h)

pub fits_low7 : (n : ℕ) → Fits w8 (bit_and n 127)
fits_low7 n = omega (arith, low7 n)

module _ (old : List ℕ) (at f n : ℕ) (room : at + length (identifier_octets (identifier f n)) ≤ length old) where
  pub room_one : n < 31 → at < length old
  room_one h = omega (arith, identifier-size_one n h f)

  pub room_two : 31 ≤ n → n < 128 → at + 1 < length old
  room_two l h = omega (arith, identifier-size_two n l h f)

  pub room_three : 128 ≤ n → at + 2 < length old
  room_three l = omega (arith, identifier-size_three n l f)

  pub room-first : 31 ≤ n → at < length old
  room-first l = by_le 128 n (λ h. omega (arith, room_three h)) (λ h. omega (arith, room_two l h))

  pub room_second : 128 ≤ n → at + 1 < length old
  room_second l = omega (arith, room_three l)

  pub put_one : n < 31 → set old at (f * 32 + n) ≡ splice old at (identifier_octets (identifier f n))
  put_one h = rw (one_octet (identifier f n) h) (sym (splice_one old at (f * 32 + n) (room_one h)))

  pub put_two : 31 ≤ n → n < 128 → set (set old at (f * 32 + 31)) (at + 1) n ≡ splice old at (identifier_octets (identifier f n))
  put_two l h =
      let r = room_two l h in
      rw (two_octets (identifier f n) l h, add-one) (splice_stores old at ((f * 32 + 31) ∷ n ∷ []) (omega arith))

  pub put_three : 128 ≤ n → n < 16384 → set (set (set old at (f * 32 + 31)) (at + 1) (bit_or (n / 2 ^ 7) 128)) (at + 2) (bit_and n 127) ≡ splice old at (identifier_octets (identifier f n))
  put_three l h =
      let r = room_three l in
      let e : at + 2 ≡ suc (suc at) = omega arith in
      rw (three_octets (identifier f n) l, high7 n h, low7, e, add-one) (splice_stores old at ((f * 32 + 31) ∷ (128 + n / 128) ∷ n % 128 ∷ []) (omega arith))

-- ---- a length

length-length_octets : (n : ℕ) → 128 ≤ n → length (length_octets n) ≡ length_size n + 1
length-length_octets n h = rw (length-long n (length_size n) h refl) (omega (arith, length-low_octets (length_size n) n))

size_few : (n : ℕ) → Fits w64 n → length_size n ≤ 8
unfolding length_size
size_few n h = omega (arith, bits-le n 64 h.fits)

-- k is what `length_size` answers, less one
module _ (old : List ℕ) (at n m : ℕ) (e : m ≡ length (length_octets n)) (h : 128 ≤ n) where
  pub size_after : m - 1 ≡ length_size n
  size_after = omega (arith, length-length_octets n h)

  pub size_some : 1 ≤ m
  size_some = omega (arith, length-length_octets n h)

  pub size_fits : Fits w64 n → Fits w8 (128 + (m - 1))
  size_fits f = omega (arith, size_after, size_few n f)

  module _ (room : at + length (length_octets n) ≤ length old) where
    pub length-first : at < length old
    length-first = omega (arith, length-length_octets n h)

    pub length_rest : at + 1 + (m - 1) ≤ length (set old at (128 + (m - 1)))
    length_rest = simp length-set (omega (arith, size_some))

    pub put-long : (out : List ℕ) → out ≡ splice (set old at (128 + (m - 1))) (at + 1) (low_octets (m - 1) n) → out ≡ splice old at (length_octets n)
    put-long out q =
        let f = length-first in
        q
        ∙ rw (size_after, length-long n (length_size n) h refl, ← splice_one old at (128 + length_size n) f)
        (splice-splice old at ((128 + length_size n) ∷ []) (low_octets (length_size n) n) (omega arith))

module _ (old : List ℕ) (at n : ℕ) (room : at + length (length_octets n) ≤ length old) (h : n < 128) where
  pub short-first : at < length old
  short-first = omega (arith, ap length (length-short n h))

  pub put-short : set old at n ≡ splice old at (length_octets n)
  put-short = rw (length-short n h) (sym (splice_one old at n short-first))

-- ---- a header

pub header-length : (i : Identifier) (n : ℕ) → length (header_octets i n) ≡ length (identifier_octets i) + length (length_octets n)
unfolding header_octets
header-length i n = length-append (identifier_octets i) (length_octets n)

-- what a `?` hands on is the refusal that came
pub handed_on : (r : Result ℕ Refused) (e : Refused) (M : Answer ℕ) → IsErr r × IsErrAnd r (λ x. x ≡ e) → refused (number_of e.0) e.1 ≡ M → of_put r ≡ M
handed_on (Ok a) e M h q = absurd h.1
handed_on (Err x) e M h q = rw h.1 q

-- what stands after a refusal, and after a value
pub kept : (M : Answer ℕ) (n p : ℕ) (old : List ℕ) (at : ℕ) (xs : List ℕ) → refused n p ≡ M → old ≡ left M old at xs
kept M n p old at xs e = rw (← e) refl

pub wrote : (M : Answer ℕ) (a : ℕ) (old new : List ℕ) (at : ℕ) (xs : List ℕ) → got a ≡ M → new ≡ splice old at xs → new ≡ left M old at xs
wrote M a old new at xs e w = rw (← e) w

module _ (old : List ℕ) (at f n z : ℕ) where
  -- the second write after the first
  pub header-put : (mid new : List ℕ) (m : ℕ) → ((g : ℕ) → m ≡ length (identifier_octets (identifier g n))) → at + length (header_octets (identifier f n) z) ≤ length old
      → mid ≡ splice old at (identifier_octets (identifier f n)) → new ≡ splice mid (at + m) (length_octets z) → new ≡ splice old at (header_octets (identifier f n) z)
  unfolding header_octets
  header-put mid new m e room p q =
      let i = identifier f n in
      rw (q, p, e f) (splice-splice old at (identifier_octets i) (length_octets z) (omega (arith, length-append (identifier_octets i) (length_octets z))))

  pub no_form : 8 ≤ f → refused 3 at ≡ header_put old at (identifier f n) z
  unfolding header_put guard
  no_form h = rw (le-ltb f 8 h) refl

  pub no_number : f < 8 → 16384 ≤ n → refused 3 at ≡ header_put old at (identifier f n) z
  unfolding header_put guard
  no_number h l = rw (lt-ltb f 8 h, le-ltb n 16384 l) refl

  module _ (h : f < 8) (l : n < 16384) where
    pub no_size_lem : 65536 ≤ z → refused 4 at ≡ header_put old at (identifier f n) z
    unfolding header_put guard
    no_size_lem s = rw (lt-ltb f 8 h, lt-ltb n 16384 l, le-ltb z 65536 s) refl

    module _ (s : z < 65536) (m k : ℕ) (e : (g : ℕ) → m ≡ length (identifier_octets (identifier g n))) (e₂ : k ≡ length (length_octets z)) where
      header-octets : length (header_octets (identifier f n) z) ≡ m + k
      header-octets = omega (arith, header-length (identifier f n) z, e f)

      -- what is left to ask is whether there is room
      pub header_place : room_after old at (m + k) ≡ header_put old at (identifier f n) z
      unfolding header_put room_for guard
      header_place = rw (lt-ltb f 8 h, lt-ltb n 16384 l, lt-ltb z 65536 s, header-octets) refl

      module _ (end : ℕ) (r : got end ≡ room_after old at (m + k)) where
        pub header_fits : (f < 8) × (n < 16384) × (length (take (end - at) (drop at old)) ≡ length (header_octets (identifier f n) z))
        header_fits = let x = has_space old at (m + k) end r in (h, l, part_length old at end (m + k) x.0 x.1 ∙ sym header-octets)

        pub header_there : (ys : List ℕ) → ys ≡ header_octets (identifier f n) z → put_mid at (end - at) old ys ≡ splice old at (header_octets (identifier f n) z)
        header_there ys q = let x = has_space old at (m + k) end r in put_mid_is old ys _ at (end - at) q (omega (arith, x.1, header-octets))

module _ (old : List ℕ) (at f n z : ℕ) (room : at + length (header_octets (identifier f n) z) ≤ length old) where
  pub header-first : at + length (identifier_octets (identifier f n)) ≤ length old
  header-first = omega (arith, header-length (identifier f n) z)

  pub header_second : (mid : List ℕ) (m : ℕ) → length mid ≡ length old → ((g : ℕ) → m ≡ length (identifier_octets (identifier g n))) → at + m + length (length_octets z) ≤ length mid
  header_second mid m l e = omega (arith, header-length (identifier f n) z, e f)

-- ---- an INTEGER

pub integer_element_lem : (x : ℕ) → bits x ≤ 64 → integer_element x ≡ 2 ∷ integer_size x ∷ low_octets (integer_size x) x
unfolding integer_element element_octets header_octets identifier_octets pick integer_octets integer_size
integer_element_lem x h =
    let n : ℕ = bits x / 8 + 1 in
    let e : length (low_octets n x) ≡ n = length-low_octets n x in
    rw (e, length-short n (omega arith)) refl

module _ (old : List ℕ) (at x n : ℕ) (fit : Fits w64 x) (e : n ≡ integer_size x) where
  octets : integer_element x ≡ 2 ∷ n ∷ low_octets n x
  octets = rw e (integer_element_lem x (bits-le x 64 fit.fits))

  pub integer_length : length (integer_element x) ≡ 2 + n
  integer_length = rw octets (omega (arith, length-low_octets n x))

  pub integer_put : (new : List ℕ) → at + (2 + n) ≤ length old → new ≡ splice (set (set old at 2) (at + 1) n) (at + 2) (low_octets n x) → new ≡ splice old at (integer_element x)
  integer_put new room q =
      let two : set (set old at 2) (at + 1) n ≡ splice old at (2 ∷ n ∷ []) = rw add-one (splice_stores old at (2 ∷ n ∷ []) (omega arith)) in
      q ∙ rw (octets, two) (splice-splice old at (2 ∷ n ∷ []) (low_octets n x) (omega arith))

  -- one content octet is the number
  pub one_fits : n ≡ 1 → Fits w8 x
  unfolding integer_size
  one_fits h = omega (arith, lt-bits x 7 (omega arith))

  pub integer_one : n ≡ 1 → at + (2 + n) ≤ length old → set (set (set old at 2) (at + 1) n) (at + 2) x ≡ splice old at (integer_element x)
  integer_one h room =
      let s = one_fits h in
      let l : low_octets 1 x ≡ x ∷ [] = let v : x / 1 % 256 ≡ x = omega arith in rw v refl in
      let mid = set (set old at 2) (at + 1) n in
      let fits : at + 2 < length mid = simp length-set (omega arith) in
      integer_put (set mid (at + 2) x) room (rw (h, l) (sym (rw h at (splice_one mid (at + 2) x fits))))

  -- two are its halves
  pub two_fits : n ≡ 2 → Fits w8 (x / 256)
  unfolding integer_size
  two_fits h = omega (arith, lt-bits x 15 (omega arith))

  pub integer_two : n ≡ 2 → at + (2 + n) ≤ length old → set (set (set (set old at 2) (at + 1) n) (at + 2) (x / 256)) (at + 3) (x % 256) ≡ splice old at (integer_element x)
  integer_two h room =
      let s = two_fits h in
      let l : low_octets 2 x ≡ x / 256 ∷ (x % 256 ∷ []) = let v : x / 256 % 256 ≡ x / 256 = omega arith in let u : x / 1 % 256 ≡ x % 256 = omega arith in rw (v, u) refl in
      let mid = set (set old at 2) (at + 1) n in
      let fits : at + 2 + 2 ≤ length mid = simp length-set (omega arith) in
      let j : at + 3 ≡ suc (at + 2) = omega arith in
      integer_put (set (set mid (at + 2) (x / 256)) (at + 3) (x % 256)) room (rw (h, l, j) (rw h at (splice_stores mid (at + 2) (x / 256 ∷ (x % 256 ∷ [])) fits)))

  pub integer_place : room_after old at (2 + n) ≡ room_for old at (integer_element x)
  unfolding room_for
  integer_place = rw integer_length refl

  module _ (end : ℕ) (r : got end ≡ room_after old at (2 + n)) where
    pub integer_fits : length (take (end - at) (drop at old)) ≡ 2 + n
    integer_fits = let x = has_space old at (2 + n) end r in part_length old at end (2 + n) x.0 x.1

    pub integer_there : (ys : List ℕ) → ys ≡ integer_element x → put_mid at (end - at) old ys ≡ splice old at (integer_element x)
    integer_there ys q = let y = has_space old at (2 + n) end r in put_mid_is old ys _ at (end - at) q (omega (arith, y.1, integer_length))

-- ---- slices of just the octets that are put

-- the length of a slice from at on
rest_length : (s : List ℕ) (at : ℕ) → length (take (length s - at) (drop at s)) ≡ length s - at
rest_length s at = length-take-le (length s - at) (drop at s) (omega (arith, length-drop at s))

module _ (old : List ℕ) (f n : ℕ) (e : length old ≡ length (identifier_octets (identifier f n))) where
  fits : 0 + length (identifier_octets (identifier f n)) ≤ length old
  fits = omega arith

  pub has_one : n < 31 → 0 < length old
  has_one h = room_one old 0 f n fits h

  pub has-first : 31 ≤ n → 0 < length old
  has-first h = room-first old 0 f n fits h

  pub has_two : 31 ≤ n → n < 128 → 1 < length old
  has_two l h = room_two old 0 f n fits l h

  pub has_second : 128 ≤ n → 1 < length old
  has_second l = room_second old 0 f n fits l

  pub has_three : 128 ≤ n → 2 < length old
  has_three l = room_three old 0 f n fits l

  pub is_one : n < 31 → set old 0 (f * 32 + n) ≡ identifier_octets (identifier f n)
  is_one h = put_one old 0 f n fits h ∙ whole old _ e

  pub is_two : 31 ≤ n → n < 128 → set (set old 0 (f * 32 + 31)) 1 n ≡ identifier_octets (identifier f n)
  is_two l h = put_two old 0 f n fits l h ∙ whole old _ e

  pub is_three : 128 ≤ n → n < 16384 → set (set (set old 0 (f * 32 + 31)) 1 (bit_or (n / 2 ^ 7) 128)) 2 (bit_and n 127) ≡ identifier_octets (identifier f n)
  is_three l h = put_three old 0 f n fits l h ∙ whole old _ e

module _ (old : List ℕ) (n : ℕ) (e : length old ≡ length (length_octets n)) where
  long_enough : 0 + length (length_octets n) ≤ length old
  long_enough = omega arith

  pub has_short : n < 128 → 0 < length old
  has_short h = short-first old 0 n long_enough h

  pub is_short : n < 128 → set old 0 n ≡ length_octets n
  is_short h = put-short old 0 n long_enough h ∙ whole old _ e

  module _ (m : ℕ) (d : m ≡ length (length_octets n)) (h : 128 ≤ n) where
    pub has_long : 0 < length old
    has_long = length-first old 0 n m d h long_enough

    pub is_long : (s ys : List ℕ) → s ≡ set old 0 (128 + (m - 1)) → ys ≡ low_octets (length (take (length s - 1) (drop 1 s))) n → put_mid 1 (length s - 1) s ys ≡ length_octets n
    is_long s ys g q =
        let k : length s - 1 ≡ m - 1 = rw g (simp length-set (omega arith)) in
        let w : ys ≡ low_octets (m - 1) n = q ∙ rw (rest_length s 1, k) refl in
        put-long old 0 n m d h long_enough _ (put_mid_is s ys (low_octets (m - 1) n) 1 (length s - 1) w (k ∙ sym (length-low_octets (m - 1) n)) ∙ rw g refl)
        ∙ whole old _ e

module _ (old : List ℕ) (x n : ℕ) (fit : Fits w64 x) (e : n ≡ integer_size x) (l : length old ≡ 2 + n) where
  all_of : length old ≡ length (integer_element x)
  all_of = omega (arith, integer_length old 0 x n fit e)

  pub is_integer_one : n ≡ 1 → set (set (set old 0 2) 1 n) 2 x ≡ integer_element x
  is_integer_one h = integer_one old 0 x n fit e h (omega arith) ∙ whole old _ all_of

  pub is_integer_two : n ≡ 2 → set (set (set (set old 0 2) 1 n) 2 (x / 256)) 3 (x % 256) ≡ integer_element x
  is_integer_two h = integer_two old 0 x n fit e h (omega arith) ∙ whole old _ all_of

  pub is_integer : (s ys : List ℕ) → s ≡ set (set old 0 2) 1 n → ys ≡ low_octets (length (take (length s - 2) (drop 2 s))) x → put_mid 2 (length s - 2) s ys ≡ integer_element x
  is_integer s ys g q =
      let k : length s - 2 ≡ n = rw g (simp length-set (omega arith)) in
      let w : ys ≡ low_octets n x = q ∙ rw (rest_length s 2, k) refl in
      integer_put old 0 x n fit e _ (omega arith) (put_mid_is s ys (low_octets n x) 2 (length s - 2) w (k ∙ sym (length-low_octets n x)) ∙ rw g refl)
      ∙ whole old _ all_of

-- the header, in the part that it takes
module _ (old : List ℕ) (f n z m : ℕ) (e : (g : ℕ) → m ≡ length (identifier_octets (identifier g n))) (l : length old ≡ length (header_octets (identifier f n) z)) where
  pub first_room : m ≤ length old
  first_room = omega (arith, header-length (identifier f n) z, e f)

  pub first_length : length (take m old) ≡ length (identifier_octets (identifier f n))
  first_length = length-take-le m old first_room ∙ e f

  module _ (ids : List ℕ) (d : ids ≡ identifier_octets (identifier f n)) where
    both_length : length (ids ++ drop m old) ≡ length old
    both_length = rw d (length-append (identifier_octets (identifier f n)) (drop m old) ∙ omega (arith, first_room, length-drop m old, e f))

    pub second_length : length (take (length (ids ++ drop m old) - m) (drop m (ids ++ drop m old))) ≡ length (length_octets z)
    second_length = rest_length (ids ++ drop m old) m ∙ omega (arith, both_length, header-length (identifier f n) z, e f)

    pub is_header : (lens : List ℕ) → lens ≡ length_octets z → put_mid m (length (ids ++ drop m old) - m) (ids ++ drop m old) lens ≡ header_octets (identifier f n) z
    unfolding header_octets
    is_header lens g =
        let k : length (ids ++ drop m old) - m ≡ length lens = rw g (omega (arith, both_length, header-length (identifier f n) z, e f)) in
        let t : take m (ids ++ drop m old) ≡ ids = take_at ids (drop m old) m (rw d (sym (e f))) in
        let r : drop (m + length lens) (ids ++ drop m old) ≡ [] = drop_all (m + length lens) (ids ++ drop m old) (omega (arith, k)) in
        rw (drop-drop (length (ids ++ drop m old) - m) m (ids ++ drop m old), k, t, r, append-nil, d, g) refl
