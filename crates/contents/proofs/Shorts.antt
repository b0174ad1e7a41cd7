-- The short ways of the reader's leaves, in plain variables: what each takes is what the long way would. Assumes nothing.
use mathlib.Core.Path.{◌≡◌, refl, sym, ◌∙◌}
use mathlib.Core.List.{List, [], ◌∷◌}
use Prim.Native.Nat.{ℕ, suc, ◌+◌, ◌-◌, ◌*◌, ◌/◌, ◌%◌, ◌<◌, ◌≤◌}
use native.Mathlib.Omega.{arith}
use lib.Bits.{bit_and}
use lib.ListN.{length, get_or, replicate, get_or-replicate}
use lib.Seq.{slice, slice-cons, slice_empty, get_or-set_other}
use Rattle.answer.specs.Answer.{got}
use Rattle.codec.specs.Octets.{taken}
use Rattle.codec.specs.Header.{identifier}
use Rattle.codec.specs.Integer.{integer_of}
use Rattle.codec.specs.Element.{exactly}
use Rattle.schema.specs.Table.{top32}
use Rattle.schema.specs.Decode.{read_set}
use Rattle.records.specs.Slots.{SetInSlots}
use Rattle.records.specs.Clear.{SpareClear}
use Rattle.der.specs.Short.{ShortIs, HeaderIs}
use Rattle.der.proofs.Bits.{low5}
use Rattle.der.proofs.Short.{short_one, extent_short, header_is}
use Rattle.contents.specs.Element.{opening, opened, opened_as}
use Rattle.contents.specs.Leaf.{read_number}
use Rattle.contents.specs.Set.{members_from, set_of_one}
use Rattle.contents.proofs.Open.{open_is, tagged_is}
use Rattle.contents.proofs.Leaves.{number_is_lem}
use Rattle.contents.proofs.Spelled.{content_one}
use Rattle.contents.proofs.Exact.{exact_whole}
use Rattle.contents.proofs.Members.{gathered_none, gathered_more, gathered_all, set_is}

-- ---- a header of two octets

module _ (s : List ℕ) (at end form number : ℕ) (fit : end ≤ length s) (low : number < 31) (a : get_or s at 0 ≡ form * 32 + number) where
  one : at < end → ShortIs s at end form number (at + 1)
  one h =
      let m : get_or s at 0 % 32 ≡ number = omega arith in
      let f : get_or s at 0 / 32 ≡ form = omega arith in
      let n : bit_and (get_or s at 0) 31 ≡ number = low5 (get_or s at 0) ∙ m in
      rw (f, n) at (short_one s at end fit h (λ e. omega arith))

  pub header-short : at < end → 2 ≤ end - at → get_or s (at + 1) 0 < 128 → get_or s (at + 1) 0 ≤ end - at - 2 → HeaderIs s at end form number (at + 2) (at + 2 + get_or s (at + 1) 0)
  header-short h l b m =
      let q : at + 1 + 1 ≡ at + 2 = omega arith in
      header_is s at end fit form number (at + 1) (at + 2) (at + 2 + get_or s (at + 1) 0) (one h) (rw q at (extent_short s (at + 1) end fit (omega arith) b (omega arith)))

-- ---- a header by the short way, as the element that it opens

module _ (s : List ℕ) (at end : ℕ) (fit : end ≤ length s) where
  element-short : (f n b x : ℕ) → HeaderIs s at end f n b x → got (taken (opening (identifier f n) b (slice b x s)) x (slice x end s)) ≡ opened at (slice at end s)
  element-short f n b x i =
      let q : b + (x - b) ≡ x = omega (arith, i.size) in
      rw q at (open_is s at end fit (omega (arith, i.from, i.size, i.to)) f n (x - b) b (sym i.is) (rw q i.to))

  pub tagged-short : (f n b x : ℕ) → HeaderIs s at end f n b x → got (taken (b, slice b x s) x (slice x end s)) ≡ opened_as f n at (slice at end s)
  tagged-short f n b x i = tagged_is s at end f n f n b x (element-short f n b x i) refl refl

  -- ---- a number of one octet

  pub number_one : (tag : ℕ) → tag < 31 → at < end → 3 ≤ end - at → get_or s at 0 ≡ tag → get_or s (at + 1) 0 ≡ 1 → HeaderIs s at end 0 tag (at + 2) (at + 3)
  number_one tag l h m a b =
      let c : get_or s (at + 1) 0 < 128 = omega arith in
      let d : get_or s (at + 1) 0 ≤ end - at - 2 = omega arith in
      let e : get_or s at 0 ≡ 0 * 32 + tag = omega arith in
      let q : at + 2 + get_or s (at + 1) 0 ≡ at + 3 = omega arith in
      rw q at (header-short s at end 0 tag fit l e h (omega arith) c d)

  pub number_short : (tag top n : ℕ) → HeaderIs s at end 0 tag (at + 2) (at + 3) → get_or s (at + 2) 0 ≡ n → n < 128 → n ≤ top → got (taken n (at + 3) (slice (at + 3) end s)) ≡ read_number tag top at (slice at end s)
  number_short tag top n i w h l =
      let z : slice (suc (at + 2)) (at + 3) s ≡ [] = rw (q3 at) (slice_empty (at + 3) s) in
      let o : slice (at + 2) (at + 3) s ≡ n ∷ [] = slice-cons (at + 2) (at + 3) s 0 (omega arith) (omega (arith, i.to)) ∙ rw (w, z) refl in
      let v : (p : ℕ) → got n ≡ integer_of top 10 p (slice (at + 2) (at + 3) s) = λ p. rw o (content_one top (n ∷ []) refl h l p) in
      number_is_lem s at end tag top (at + 2) (at + 3) (tagged-short 0 tag (at + 2) (at + 3) i) n v
    where
      q3 : (a : ℕ) → suc (a + 2) ≡ a + 3
      q3 a = omega arith

-- ---- a set of one small number

one_gathered : (s : List ℕ) (at end m : ℕ) → end ≤ length s → end - at ≡ 3 → get_or s at 0 ≡ 2 → get_or s (at + 1) 0 ≡ 1 → get_or s (at + 2) 0 ≡ m → m < 128 → got (m ∷ []) ≡ members_from at (slice at end s)
one_gathered s at end m fit l a b c h =
    let k = number_one s at end fit 2 (omega arith) (omega arith) (omega arith) a b in
    let e = number_short s at end fit 2 top32 m k c h (omega arith) in
    let g = gathered_none s at end fit (omega arith) in
    gathered_all s at end fit _ (at + 3) (m + 1) 1
    (gathered_more s at end fit (replicate 16 0) at 0 0 g (omega arith) (omega arith) m (at + 3) e (omega arith) (omega arith) (omega arith)) (omega arith)

pub one_member : (s : List ℕ) (at end : ℕ) → end ≤ length s → end - at ≡ 5 → get_or s at 0 ≡ 49 → get_or s (at + 1) 0 ≡ 3 → get_or s (at + 2) 0 ≡ 2 → get_or s (at + 3) 0 ≡ 1 → get_or s (at + 4) 0 < 128
    → got (get_or s (at + 4) 0 ∷ []) ≡ exactly 9 read_set at (slice at end s)
one_member s at end fit l a b c d m =
    let n = get_or s (at + 4) 0 in
    let p : at + 2 + 1 ≡ at + 3 = omega arith in
    let q : at + 2 + 2 ≡ at + 4 = omega arith in
    let x : at + 2 + get_or s (at + 1) 0 ≡ end = omega arith in
    let i : HeaderIs s at end 1 17 (at + 2) end = rw x at (header-short s at end 1 17 fit (omega arith) a (omega arith) (omega arith) (omega arith) (omega arith)) in
    let e = tagged-short s at end fit 1 17 (at + 2) end i in
    let g : got (n ∷ []) ≡ members_from (at + 2) (slice (at + 2) end s) = one_gathered s (at + 2) end n fit (omega arith) c (rw p d) (rw q refl) m in
    sym (exact_whole read_set s at end fit (n ∷ []) end (sym (set_is s at end (at + 2) end e (n ∷ []) g)) refl)

pub one_slots : (n : ℕ) → SetInSlots (set_of_one n) × SpareClear (set_of_one n)
one_slots n = ((omega arith, refl), spare)
  where
    spare : SpareClear (set_of_one n)
    spare k p q = get_or-set_other (replicate 16 0) 0 k n 0 (λ u. absurd (omega arith)) ∙ get_or-replicate {A = ℕ} 16 k 0 0 q
