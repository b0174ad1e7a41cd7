-- A mark, bit by bit from the highest, and what was looked at. Assumes nothing.
use mathlib.Core.Path.{◌≡◌, refl, subst, ◌∙◌}
use mathlib.Core.Bool.{Bool, true, false, not, ◌&&◌}
use mathlib.Core.List.{List, [], ◌∷◌}
use Prim.Native.Nat.{ℕ, suc, ◌+◌, ◌*◌, ◌-◌, ◌%◌, ◌<◌, ◌≤◌, ◌^◌}
use native.Mathlib.Nat.{mod-eq_of_lt, pow-suc, lt_of_lt_of_le}
use native.Mathlib.Omega.{arith}
use lib.Bits.{bit_or, or_shifted, or_zero_r}
use lib.Dec.{eqb, lit<}
use lib.ListN.{length, drop, get_or, length-drop, drop_of_length-le}
use lib.Pow.{pow_mono}
use lib.Seq.{drop-cons}
use mir.Val.{bool_byte}
use Rattle.std.specs.Prelude.{Some, None, MatchOption}
use Rattle.std.specs.Prelude as code
use Rattle.checks.specs.Checks.{looks_at_padding, looks_at_digest, looks_at_key_size, signs}
use Rattle.checks.specs.Code.{of_number_tag, or_zero}
use Rattle.ruling.specs.Ruling.{bit, looked, mark_of}

-- ---- one bit more

module _ (mark : ℕ) (h : mark < 2 ^ 15) (b : Bool) where
  shifted : (mark * 2) % 65536 ≡ mark * 2
  shifted = mod-eq_of_lt (omega arith)

  pub bit-set : b ≡ true → bit_or ((mark * 2) % 65536) 1 ≡ bit b + 2 * mark
  unfolding bit
  bit-set e = rw (e, shifted, or_shifted mark 1 1 (lit< tt)) (omega arith)

  pub bit-clear : b ≡ false → (mark * 2) % 65536 ≡ bit b + 2 * mark
  unfolding bit
  bit-clear e = rw (e, shifted) (omega arith)

pub bit-joined : (mark : ℕ) → mark < 2 ^ 15 → (b : Bool) → bit_or ((mark * 2) % 65536) (bool_byte b) ≡ bit b + 2 * mark
bit-joined mark h true = bit-set mark h true refl
bit-joined mark h false = rw (or_zero_r (mark * 2 % 65536)) (bit-clear mark h false refl)

-- ---- a mark of n tags is below 2 ^ n

bit_small : (b : Bool) → bit b ≤ 1
unfolding bit
bit_small true = omega arith
bit_small false = omega arith

pub mark_small : (bs ls : List Bool) → mark_of bs ls < 2 ^ length bs
unfolding mark_of
mark_small [] ls = lit< tt
mark_small (b ∷ bs) [] = lt_of_lt_of_le (lit< tt) (pow_mono {i = 1} {j = suc (length bs)} (omega arith))
mark_small (b ∷ bs) (l ∷ ls) =
    let p : 2 ^ suc (length bs) ≡ 2 ^ length bs * 2 = pow-suc 2 (length bs) in
    rw p (omega (arith, mark_small bs ls, bit_small (b && l)))

module _ (bs ls : List Bool) where
  pub mark_begin : length bs ≡ 16 → 0 ≡ mark_of (drop 16 bs) (drop 16 ls)
  unfolding mark_of
  mark_begin n = let p : length bs ≤ 16 = omega arith in rw (drop_of_length-le bs p) refl

  pub mark_end : (mark i : ℕ) → mark ≡ mark_of (drop i bs) (drop i ls) → i ≤ 0 → mark ≡ mark_of bs ls
  mark_end mark i e h = let z : i ≡ 0 = omega arith in rw z at e

  module _ (n : length bs ≡ 16) (m : length ls ≡ 16) where
    step : (j : ℕ) → j < 16 → bit (get_or bs j false && get_or ls j false) + 2 * mark_of (drop (suc j) bs) (drop (suc j) ls) ≡ mark_of (drop j bs) (drop j ls)
    unfolding mark_of
    step j h =
        let p : j < length bs = rw n h in
        let q : j < length ls = rw m h in
        rw (drop-cons bs j false p, drop-cons ls j false q) refl

    module _ (mark i : ℕ) (e : mark ≡ mark_of (drop i bs) (drop i ls)) (h : 0 < i) (g : i ≤ 16) where
      pub mark_fits : mark < 2 ^ 15
      mark_fits = rw e (lt_of_lt_of_le (mark_small (drop i bs) (drop i ls)) (pow_mono {j = 15} (rw (length-drop i bs, n) (omega arith))))

      pub mark_more : (r : ℕ) → r ≡ bit (get_or bs (i - 1) false && get_or ls (i - 1) false) + 2 * mark → r ≡ mark_of (drop (i - 1) bs) (drop (i - 1) ls)
      mark_more r f =
          let z : suc (i - 1) ≡ i = omega arith in
          f ∙ rw e (subst (λ (k : ℕ). bit (get_or bs (i - 1) false && get_or ls (i - 1) false) + 2 * mark_of (drop k bs) (drop k ls) ≡ mark_of (drop (i - 1) bs) (drop (i - 1) ls)) z (step (i - 1) (omega arith)))

-- ---- what was looked at

nothing-of_none : (b : Bool) → false ≡ (b && false)
nothing-of_none true = refl
nothing-of_none false = refl

-- no algorithm has no key size to look at
pub key_size_asked : (p m : ℕ) (Gives : ℕ → Type 0) (a : code.Option ℕ) (r : Bool) → MatchOption a (r ≡ false) Gives → ((x : ℕ) → Gives x → r ≡ looks_at_key_size p x m)
    → r ≡ looks_at_key_size p (or_zero (of_number_tag a)) m
unfolding or_zero
key_size_asked p m Gives None r e f = e ∙ nothing-of_none (eqb p 2)
key_size_asked p m Gives (Some x) r e f = f x e

pub looked_by : (p a m : ℕ) (auth u v w x : Bool) → u ≡ looks_at_padding p → v ≡ looks_at_digest p m → w ≡ looks_at_key_size p a m → x ≡ signs p
    → true ∷ true ∷ u ∷ v ∷ w ∷ true ∷ x ∷ not x ∷ true ∷ auth ∷ true ∷ true ∷ true ∷ true ∷ true ∷ not auth ∷ [] ≡ looked p a m auth
unfolding looked
looked_by p a m auth u v w x e f g h = rw (e, f, g, h) refl
