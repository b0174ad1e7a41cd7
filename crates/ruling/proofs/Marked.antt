-- What a permit's marks say, bit by bit, and that each rule that applied stands in one of them. Assumes nothing.
use mathlib.Core.Path.{◌≡◌, refl, sym, ap, ap₂, ◌∙◌}
use mathlib.Core.Logic.{◌⊎◌, inl, inr, ◌↔◌}
use mathlib.Core.Bool.{Bool, true, false, not, ◌&&◌, ◌||◌}
use mathlib.Core.List.{List, [], ◌∷◌}
use Prim.Native.Nat.{ℕ, zero, suc, ◌+◌, ◌*◌, ◌/◌, ◌%◌, ◌^◌}
use native.Mathlib.Nat.{zero-div, div-one, div-div-eq-div-mul, pow-suc, mul_comm, add-mul-div_left, add-mul-mod_self_left}
use native.Mathlib.Omega.{arith}
use lib.Bits.{bit_or, or_shr, or_mod}
use lib.Count.{ones}
use lib.Dec.{eqb, lit<}
use lib.ListN.{get_or}
use Rattle.answer.specs.Answer.{got, pick}
use Rattle.ruling.specs.Rules.{Rules}
use Rattle.ruling.specs.Ruling.{bit, held_tags, mark_of, Permit, permit, permit_of, looked_at, ruled}
use Rattle.ruling.specs.Statements.{bit_at, HeldIn, LookedAt, Software, Counts, HardwareExactly, SoftwareExactly, AppliedIsMarked}
use Rattle.ruling.specs.declared.request.Request.{Request}
use Rattle.ruling.proofs.Means.{Means, equal, true_flag, both, one_of, negated}
use Rattle.ruling.proofs.Permitted.{permit-is}

-- ---- bits of a mark and of two that are joined

no_bits : (k : ℕ) → bit_at 0 k ≡ 0
no_bits k = rw (zero-div (2 ^ k)) refl

lowest : (b : Bool) (n : ℕ) → (bit b + 2 * n) % 2 ≡ bit b
unfolding bit
lowest true n = add-mul-mod_self_left 1 2 n
lowest false n = add-mul-mod_self_left 0 2 n

halved : (b : Bool) (n : ℕ) → (bit b + 2 * n) / 2 ≡ n
unfolding bit
halved true n = add-mul-div_left 1 n (lit< tt) ∙ omega arith
halved false n = add-mul-div_left 0 n (lit< tt) ∙ omega arith

and_false : (a : Bool) → (a && false) ≡ false
and_false true = refl
and_false false = refl

mark_bit : (k : ℕ) (bs ls : List Bool) → bit_at (mark_of bs ls) k ≡ bit (get_or bs k false && get_or ls k false)
unfolding mark_of bit
mark_bit k [] ls = no_bits k
mark_bit k (b ∷ bs) [] = no_bits k ∙ ap bit (sym (and_false (get_or (b ∷ bs) k false)))
mark_bit zero (b ∷ bs) (l ∷ ls) = ap (λ (n : ℕ). n % 2) (div-one (bit (b && l) + 2 * mark_of bs ls)) ∙ lowest (b && l) (mark_of bs ls)
mark_bit (suc k) (b ∷ bs) (l ∷ ls) =
    let n = bit (b && l) + 2 * mark_of bs ls in
    ap (λ (m : ℕ). n / m % 2) (pow-suc 2 k ∙ mul_comm (2 ^ k) 2) ∙ ap (λ (m : ℕ). m % 2) (sym (div-div-eq-div-mul n 2 (2 ^ k)))
    ∙ ap (λ (m : ℕ). m / 2 ^ k % 2) (halved (b && l) (mark_of bs ls)) ∙ mark_bit k bs ls

or_bit : (u v : Bool) → bit_or (bit u) (bit v) ≡ bit (u || v)
unfolding bit
or_bit true true = refl
or_bit true false = refl
or_bit false v = refl

joined_bit : (k a b : ℕ) (u v : Bool) → bit_at a k ≡ bit u → bit_at b k ≡ bit v → bit_at (bit_or a b) k ≡ bit (u || v)
joined_bit k a b u v e f =
    ap (λ (n : ℕ). n % 2) (or_shr a b k) ∙ or_mod (a / 2 ^ k) (b / 2 ^ k) 1 ∙ ap₂ bit_or e f ∙ or_bit u v

set-bit : (b : Bool) → Means b (bit b ≡ 1)
unfolding bit
set-bit true = record { to = λ t. refl; from = λ e. tt }
set-bit false = record { to = λ t. absurd t; from = λ e. omega arith }

exactly : {n : ℕ} {b : Bool} {P : Type 0} → n ≡ bit b → Means b P → (n ≡ 1) ↔ P
exactly {n} {b} e m = ((λ x. m.to ((set-bit b).from (sym e ∙ x))), (λ x. e ∙ (set-bit b).to (m.from x)))

-- ---- the two marks of a permit

module _ (level keymint_level hardware software k : ℕ) (u v : Bool) (e : bit_at hardware k ≡ bit u) (f : bit_at software k ≡ bit v) where
  abbrev low : Bool
  low = eqb level 0 || eqb keymint_level 0

  hardware_at : bit_at (permit_of level keymint_level hardware software).hardware k ≡ bit (not low && u)
  unfolding permit_of permit pick bit
  hardware_at = go low
    where
      go : (b : Bool) → bit_at (pick b (permit 0 (bit_or hardware software)) (permit hardware software)).hardware k ≡ bit (not b && u)
      go true = no_bits k
      go false = e

  software_at : bit_at (permit_of level keymint_level hardware software).software k ≡ bit ((low && u) || v)
  unfolding permit_of permit pick
  software_at = go low
    where
      go : (b : Bool) → bit_at (pick b (permit 0 (bit_or hardware software)) (permit hardware software)).software k ≡ bit ((b && u) || v)
      go true = joined_bit k hardware software u v e f
      go false = f

abbrev Counted : Permit → Type 0
Counted w = (w.hardware_bits ≡ ones w.hardware) × (w.software_bits ≡ ones w.software)

counted : (level keymint_level hardware software : ℕ) → Counted (permit_of level keymint_level hardware software)
unfolding permit_of permit pick
counted level keymint_level hardware software = go (eqb level 0 || eqb keymint_level 0)
  where
    go : (b : Bool) → Counted (pick b (permit 0 (bit_or hardware software)) (permit hardware software))
    go true = (refl, refl)
    go false = (refl, refl)

pub counts : Counts
counts level keymint_level s h q w e =
    rw (← permit-is level keymint_level s h q e) (counted level keymint_level (mark_of (held_tags h) (looked_at s h q)) (mark_of (held_tags s) (looked_at s h q)))

-- ---- bit k of each mark

module _ (level keymint_level : ℕ) (s h : Rules) (q : Request) (w : Permit) (e : ruled level keymint_level s h q ≡ got w) (k : ℕ) where
  abbrev bit_of : Rules → Bool
  bit_of l = get_or (held_tags l) k false && get_or (looked_at s h q) k false

  mark_at : (l : Rules) → bit_at (mark_of (held_tags l) (looked_at s h q)) k ≡ bit (bit_of l)
  mark_at l = mark_bit k (held_tags l) (looked_at s h q)

  in_mark : (l : Rules) → Means (bit_of l) (HeldIn l k × LookedAt s h q k)
  in_mark l = both (true_flag (get_or (held_tags l) k false)) (true_flag (get_or (looked_at s h q) k false))

  low_means : Means (eqb level 0 || eqb keymint_level 0) (Software level keymint_level)
  low_means = one_of (equal level 0) (equal keymint_level 0)

  in_hardware : bit_at w.hardware k ≡ bit (not (eqb level 0 || eqb keymint_level 0) && bit_of h)
  in_hardware = rw (← permit-is level keymint_level s h q e) (hardware_at level keymint_level _ _ k (bit_of h) (bit_of s) (mark_at h) (mark_at s))

  in_software : bit_at w.software k ≡ bit (((eqb level 0 || eqb keymint_level 0) && bit_of h) || bit_of s)
  in_software = rw (← permit-is level keymint_level s h q e) (software_at level keymint_level _ _ k (bit_of h) (bit_of s) (mark_at h) (mark_at s))

pub hardware-exactly : HardwareExactly
hardware-exactly level keymint_level s h q w e k =
    exactly (in_hardware level keymint_level s h q w e k)
    (both (negated (low_means level keymint_level s h q w e k)) (in_mark level keymint_level s h q w e k h))

pub software-exactly : SoftwareExactly
software-exactly level keymint_level s h q w e k =
    exactly (in_software level keymint_level s h q w e k)
    (one_of (both (low_means level keymint_level s h q w e k) (in_mark level keymint_level s h q w e k h)) (in_mark level keymint_level s h q w e k s))

pub applied_is_marked : AppliedIsMarked
applied_is_marked level keymint_level s h q w e k (inl x) l = inr ((software-exactly level keymint_level s h q w e k).1 (inr (x, l)))
applied_is_marked level keymint_level s h q w e k (inr x) l = go (eqb level 0 || eqb keymint_level 0) (low_means level keymint_level s h q w e k)
  where
    go : (b : Bool) → Means b (Software level keymint_level) → (bit_at w.hardware k ≡ 1) ⊎ (bit_at w.software k ≡ 1)
    go true m = inr ((software-exactly level keymint_level s h q w e k).1 (inl (m.to tt, (x, l))))
    go false m = inl ((hardware-exactly level keymint_level s h q w e k).1 ((λ y. m.from y), (x, l)))
