-- The laws of an INTEGER's content: its shortest octets, and no others, are read as the number. Assumes nothing.
use mathlib.Core.Path.{◌≡◌, refl, sym, ap, ◌∙◌}
use mathlib.Core.Bool.{not, ◌&&◌}
use mathlib.Core.List.{List, [], ◌∷◌}
use Prim.Native.Nat.{ℕ, zero, suc, ◌+◌, ◌*◌, ◌/◌, ◌%◌, ◌^◌, ◌<◌, ◌≤◌}
use native.Mathlib.Omega.{arith}
use native.Mathlib.Nat.{div-lt_iff_lt-mul, mul-le-mul_right, zero-add}
use lib.ListN.{length}
use lib.Dec.{leb, ltb, eqb, leb→le, le→leb, lt→ltb, ltb→lt, not_T, T_not, eqb→eq}
use mir.Facts.{yes_eqb}
use lib.Arith.{digits_lt}
use lib.Pow.{pow_pos, pow_mono, pow-add, shr_lt}
use Rattle.answer.specs.Answer.{got}
use Rattle.answer.proofs.Logic.{by_le, and_left, and_right, and_both}
use Rattle.answer.proofs.Answer.{guard_yes, guard_case, got_inj, refused-got}
use Rattle.codec.specs.Octets.{Octets}
use Rattle.codec.specs.Shortest.{big_endian, low_octets, bits, integer_size, integer_octets}
use Rattle.codec.specs.Integer.{integer_of}
use Rattle.codec.specs.Statements.{IntegerLaws}
use Rattle.codec.proofs.Shortest.{bits-le, bits_gt, lt-bits, eight, big_endian-lt, big_endian-back, low_octets-back, integer_size-is}

below_shr : (n j k : ℕ) → n / 2 ^ k < 2 ^ j → n < 2 ^ (j + k)
below_shr n j k h = rw (pow-add 2 j k) ((div-lt_iff_lt-mul (pow_pos k)).0 h)

module _ (top number p : ℕ) where
  read-octets : (n k : ℕ) → n ≤ top → bits n / 8 ≡ k → integer_of top number p (low_octets (suc k) n) ≡ got n
  unfolding integer_of
  read-octets n zero h e =
      let small : n < 2 ^ 7 = lt-bits n 7 (omega arith) in
      let v : n / 2 ^ (8 * 0) % 256 ≡ n = omega arith in
      rw v (guard_yes (ltb n 128) number p _ (lt→ltb n 128 small) ∙ guard_yes (leb n top) number p _ (le→leb n top h))
  read-octets n (suc j) h e =
      let k : ℕ = suc j in
      let small : n < 2 ^ (7 + 8 * k) = lt-bits n (7 + 8 * k) (omega arith) in
      let a7 : n / 2 ^ (8 * k) < 2 ^ 7 = shr_lt 7 (8 * k) small in
      let a : ℕ = n / 2 ^ (8 * k) % 256 in
      let b : ℕ = n / 2 ^ (8 * j) % 256 in
      let ha : a < 128 = omega arith in
      let whole : big_endian (low_octets (suc k) n) ≡ n = big_endian-back (suc k) n (lt-bits n (8 * suc k) (omega arith)) in
      let hab : a ≡ 0 → b < 128 → ⊥ =
      λ za hb.
      let q : n / 2 ^ (8 * k) ≡ 0 = omega arith in
      let n8 : n < 2 ^ (8 + 8 * j) = rw (← eight j) (rw zero-add at (below_shr n 0 (8 * k) (omega arith))) in
      let b8 : n / 2 ^ (8 * j) < 2 ^ 8 = shr_lt 8 (8 * j) n8 in
      let b7 : n / 2 ^ (8 * j) < 2 ^ 7 = omega arith in
      let n7 : n < 2 ^ (7 + 8 * j) = below_shr n 7 (8 * j) b7 in
      omega (arith, bits-le n (7 + 8 * j) n7) in
      guard_yes (ltb a 128) number p _ (lt→ltb a 128 ha)
      ∙ guard_yes (not (eqb a 0 && ltb b 128)) number p _ (not_T (eqb a 0 && ltb b 128) (λ t. hab (eqb→eq a 0 (and_left (eqb a 0) (ltb b 128) t)) (ltb→lt b 128 (and_right (eqb a 0) (ltb b 128) t))))
      ∙ rw whole (guard_yes (leb n top) number p _ (le→leb n top h))

  pub integer_back : (n : ℕ) → n ≤ top → integer_of top number p (integer_octets n) ≡ got n
  unfolding integer_octets integer_size
  integer_back n h = let e : suc (bits n / 8) ≡ bits n / 8 + 1 = omega arith in rw (← e) (read-octets n (bits n / 8) h refl)

  size_of : (bs : List ℕ) (k : ℕ) → Octets bs → length bs ≡ suc k → big_endian bs < 2 ^ (7 + 8 * k) → 8 * k ≤ bits (big_endian bs) → integer_octets (big_endian bs) ≡ bs
  unfolding integer_octets
  size_of bs k o l hi lo =
      ap (λ (m : ℕ). low_octets m (big_endian bs)) (integer_size-is (big_endian bs) k lo (omega (arith, bits-le (big_endian bs) (7 + 8 * k) hi)) ∙ sym l) ∙ low_octets-back bs o

  pub integer_sound : (bs : List ℕ) (n : ℕ) → Octets bs → integer_of top number p bs ≡ got n → (n ≤ top) × (integer_octets n ≡ bs)
  unfolding integer_of
  integer_sound [] n o e = absurd (refused-got e)
  integer_sound (a ∷ []) n o e =
      guard_case _ _ _ _ e λ t e₁.
      guard_case _ _ _ _ e₁ λ u e₂.
      let v : a ≡ n = got_inj e₂ in
      let w : big_endian (a ∷ []) ≡ n = omega arith in
      let a7 : a < 128 = ltb→lt a 128 t in
      (rw (← v) (leb→le a top u), rw (← w) (size_of (a ∷ []) 0 o refl (omega arith) (omega arith)))
  integer_sound (a ∷ b ∷ r) n o e =
      guard_case _ _ _ _ e λ t e₁.
      guard_case _ _ _ _ e₁ λ u e₂.
      guard_case _ _ _ _ e₂ λ y e₃.
      let v : big_endian (a ∷ b ∷ r) ≡ n = got_inj e₃ in
      let a7 : a < 128 = ltb→lt a 128 t in
      let m : ℕ = length r in
      let B : ℕ = 2 ^ (8 * suc m) in
      let hi : big_endian (a ∷ b ∷ r) < 2 ^ (7 + 8 * suc m) = rw (pow-add 2 7 (8 * suc m)) (digits_lt a7 (big_endian-lt (b ∷ r) o.1)) in
      let big : 2 ^ (7 + 8 * m) ≤ big_endian (a ∷ b ∷ r) =
      by_le 1 a
      (λ h. omega (arith, mul-le-mul_right B h, eight m, pow_mono {i = 7 + 8 * m} {j = 8 * suc m} (omega arith)))
      (λ h. by_le 128 b
      (λ h'. omega (arith, mul-le-mul_right (2 ^ (8 * m)) h', pow-add 2 7 (8 * m)))
      (λ h'. absurd (T_not (eqb a 0 && ltb b 128) u (and_both (eqb a 0) (ltb b 128) (yes_eqb {a = a} {b = 0} (omega arith)) (lt→ltb b 128 h'))))) in
      let lo : 8 * suc m ≤ bits (big_endian (a ∷ b ∷ r)) = omega (arith, bits_gt (big_endian (a ∷ b ∷ r)) (7 + 8 * m) big) in
      (rw (← v) (leb→le (big_endian (a ∷ b ∷ r)) top y), rw (← v) (size_of (a ∷ b ∷ r) (suc m) o refl hi lo))

-- within the top, the content is the shortest octets and nothing else
pub integer_laws : IntegerLaws
integer_laws top number = record {
  back = λ p q n t. integer_back top number p n (leb→le n top t);
  sound = λ p q bs n o e. let s = integer_sound top number p bs n o e in (le→leb n top s.0, s.1);
}
