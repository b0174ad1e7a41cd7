-- The quick look of the first pass, in plain variables: what it takes whole is what the walk gives. Assumes nothing.
use mathlib.Core.Path.{◌≡◌, sym}
use mathlib.Core.List.{List}
use Prim.Native.Nat.{ℕ, ◌+◌, ◌-◌, ◌/◌, ◌%◌, ◌<◌, ◌≤◌}
use native.Mathlib.Nat.{le_refl}
use native.Mathlib.Omega.{arith}
use lib.Bits.{bit_and}
use lib.ListN.{length, get_or, take}
use lib.Seq.{slice}
use Rattle.answer.specs.Answer.{got}
use Rattle.codec.specs.Tree.{run, walk_element}
use Rattle.der.specs.Walk.{summed}
use Rattle.std.specs.Prelude.{Some}
use Rattle.der.specs.Short.{ShortIs, ExtentIs}
use Rattle.der.specs.Quick.{PlainTo, SingleTo, QuickIs}
use Rattle.der.proofs.Bits.{low5}
use Rattle.der.proofs.Short.{short_one, header_is}
use Rattle.der.proofs.Elements.{holder_part, element_flat, element_held, left_all, run_more, run_end}

-- what a plain element of a holder is among all bytes
plain_within : (s h : List ℕ) (b x y : ℕ) → h ≡ take x s → PlainTo h b (length h) y → y ≡ x → PlainTo s b x x
plain_within s h b x y q w e =
    let i = w.3 in
    (w.0, w.1, w.2, record { is = rw (holder_part s h x b q, holder_part s h x w.2 q, e) at i.is; from = i.from; size = omega (arith, i.size); to = le_refl x }, w.4)

module _ (s : List ℕ) (at end : ℕ) (fit : end ≤ length s) where
  pub plain_to : (a b x : ℕ) → at < end → a ≡ get_or s at 0 → a < 31 → ExtentIs s (at + 1) end b x → PlainTo s at end x
  plain_to a b x h e l i =
      let n : bit_and (get_or s at 0) 31 ≡ 31 → ⊥ = λ z. omega (arith, low5 (get_or s at 0)) in
      (get_or s at 0 / 32, bit_and (get_or s at 0) 31, b, header_is s at end fit _ _ (at + 1) b x (short_one s at end fit h n) i, omega arith)

  pub single_to : (h : List ℕ) (f n p b x y : ℕ) → ShortIs s at end f n p → (f % 2 ≡ 0 → ⊥) → ExtentIs s p end b x → h ≡ take x s → PlainTo h b (length h) y → y ≡ x → SingleTo s at end x
  single_to h f n p b x y k o j q m e =
      let i = m.3 in
      let l : b < x = omega (arith, i.from, i.size) in
      (f, n, b, header_is s at end fit f n p b x k j, o, l, plain_within s h b x y q m e)

-- ---- an element taken whole is what the walk gives

-- the step past it
abbrev pub Taken : List ℕ → ℕ → ℕ → ℕ → ℕ → ℕ → ℕ → ℕ → Type 0
Taken s most depth met at end x m = QuickIs s most depth met at end (Some (record { next = x; met = m }))

plain_walked : (s : List ℕ) (most depth met at end x : ℕ) → met < most → (depth ≡ 0 → ⊥) → PlainTo s at end x → Taken s most depth met at end x (met + 1)
plain_walked s most depth met at end x h d w =
    let i = w.3 in
    let q : w.2 + (x - w.2) ≡ x = omega (arith, i.size) in
    (rw q at (element_flat s most end at met w.0 w.1 (x - w.2) w.2 (sym i.is) depth d h w.4), omega (arith, i.from, i.size), i.to)

module _ (s : List ℕ) (most depth met at end : ℕ) (fit : end ≤ length s) (some : 2 ≤ most) (room : met ≤ most - 2) (deep : 2 ≤ depth) where
  pub quick_plain : (x : ℕ) → PlainTo s at end x → Taken s most depth met at end x (met + 1)
  quick_plain x k = plain_walked s most depth met at end x (omega arith) (λ e. omega arith) k

  -- the run inside a holder of one: past it, and at its end
  single_run : (b x : ℕ) → x ≤ end → b < x → PlainTo s b x x → (g : ℕ) → x - b ≤ g → got (met + 2) ≡ summed (met + 1) (run (walk_element most (depth - 1)) g (met + 1) b (slice b x s))
  single_run b x l k w g e =
      let one = walk_element most (depth - 1) in
      let n : met + 1 + 1 ≡ met + 2 = omega arith in
      let u = plain_walked s most (depth - 1) (met + 1) b x x (omega arith) (λ z. omega arith) w in
      run_end s one x b (met + 1) (met + 2) x
      (run_more s one x b (met + 1) (met + 1) b x (met + 2) (left_all s one x b (met + 1)) k (omega arith) u.1 u.2 (rw n at u.0))
      (omega arith) (omega arith) g e

  pub quick_single : (x : ℕ) → SingleTo s at end x → Taken s most depth met at end x (met + 2)
  quick_single x w =
      let i = w.3 in
      let b = w.2 in
      let z = x - b in
      let q : b + z ≡ x = omega (arith, i.size) in (
        rw q at (element_held s most end at met w.0 w.1 z b (sym i.is) fit i.from (rw q i.to) depth (λ e. omega arith) (omega arith) w.4 (met + 2) (λ g e. rw q (single_run b x i.to w.5 w.6 g (rw q at e)))),
        omega (arith, i.from, i.size),
        i.to,
      )
