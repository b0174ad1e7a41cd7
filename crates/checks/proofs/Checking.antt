-- The checks' answers that need an idea: the key's size by whole octets, the token's age by seconds rounded up.
-- Assumes nothing.
use mathlib.Core.Path.{◌≡◌, refl, ◌∙◌}
use mathlib.Core.Bool.{Bool, true, false, not, ◌&&◌, ◌||◌}
use Prim.Native.Nat.{ℕ, ◌+◌, ◌*◌, ◌-◌, ◌/◌, ◌%◌, ◌<◌, ◌≤◌, min}
use native.Mathlib.Nat.{div-add-mod', mod-lt}
use native.Mathlib.Omega.{arith}
use lib.Bits.{bit_and}
use lib.Dec.{eqb, leb, ltb, lit<}
use borrow.Author.Tests.{le-ltb, lt-ltb, le-leb, lt-leb}
use Rattle.answer.specs.Answer.{pick}
use Rattle.answer.proofs.Logic.{by_le}
use Rattle.checks.specs.Tags.{both_allow}
use Rattle.checks.specs.Checks.{digest_bytes, key_bytes, looks_at_key_size, key_size_refused, recent, fresh_refused}
use Rattle.checks.specs.Code.{of_number_tag, or_zero}
use Rattle.std.specs.Prelude.{Some, None, is_some, unwrap_or, MatchOption, SomeIff}
use Rattle.std.specs.Prelude as code
use Rattle.checks.proofs.Tags.{there-seen}

-- ---- 35

-- the octets of a key are at least n + 1 exactly when it has more bits than n octets
size-octets : (m n bits : ℕ) → m ≡ n + 1 → ltb (8 * n) bits ≡ leb m (key_bytes bits)
size-octets m n bits e =
    let w : (bits + 7) / 8 * 8 + (bits + 7) % 8 ≡ bits + 7 = div-add-mod' (bits + 7) 8 in
    let l : (bits + 7) % 8 < 8 = mod-lt (bits + 7) (lit< tt) in
    by_le m (key_bytes bits) (λ h. rw (le-leb m (key_bytes bits) h, lt-ltb (8 * n) bits (omega arith)) refl)
    (λ h. rw (lt-leb m (key_bytes bits) h, le-ltb (8 * n) bits (omega arith)) refl)

pub size_enough : (d r bits : ℕ) → r ≡ digest_bytes d → ltb (8 * (2 * r + 1)) bits ≡ leb (2 * digest_bytes d + 2) (key_bytes bits)
size_enough d r bits e = rw (← e) (size-octets (2 * r + 2) (2 * r + 1) bits (omega arith))

-- ---- 41

-- the age in whole seconds, rounded up, is at most so many exactly where the age is at most 1000 times them
module _ (uptime time seconds : ℕ) where
  rounded_up : (age : ℕ) → leb (age / 1000 + min 1 (age % 1000)) seconds ≡ leb age (1000 * seconds)
  rounded_up age =
      let w : age / 1000 * 1000 + age % 1000 ≡ age = div-add-mod' age 1000 in
      let l : age % 1000 < 1000 = mod-lt age (lit< tt) in
      by_le age (1000 * seconds) (λ h. rw (le-leb age (1000 * seconds) h, le-leb (age / 1000 + min 1 (age % 1000)) seconds (omega arith)) refl)
      (λ h. rw (lt-leb age (1000 * seconds) h, lt-leb (age / 1000 + min 1 (age % 1000)) seconds (omega arith)) refl)

  pub of_age : (Gives : ℕ → Type 0) (o : code.Option ℕ) (b : Bool) → SomeIff o (time ≤ uptime) (uptime - time) → MatchOption o (b ≡ false) Gives
      → ((age : ℕ) → Gives age → b ≡ leb (age / 1000 + min 1 (age % 1000)) seconds) → b ≡ recent uptime time seconds
  unfolding recent
  of_age Gives None b n e m = by_le time uptime (λ l. absurd (n l)) (λ l. rw (e, lt-leb time uptime l) refl)
  of_age Gives (Some age) b s g m = m age g ∙ rw (rounded_up age, s.1, le-leb time uptime s.0) refl

module _ (uptime time handle challenge : ℕ) (sa ha st ht : code.Option ℕ) (i j : Bool) (e : i ≡ is_some sa) (f : j ≡ is_some ha) where
  pub fresh_unasked : (i || j) ≡ false → false ≡ fresh_refused uptime time handle challenge (of_number_tag sa) (of_number_tag ha) (of_number_tag st) (of_number_tag ht)
  unfolding fresh_refused
  fresh_unasked n = simp there-seen (rw (← e, ← f, n) refl)

  module _ (n : (i || j) ≡ true) (k l : Bool) (g : k ≡ is_some st) (h : l ≡ is_some ht) where
    pub fresh_timed : (k || l) ≡ true → (r : Bool) → r ≡ both_allow (recent uptime time) (of_number_tag st) (of_number_tag ht)
        → not r ≡ fresh_refused uptime time handle challenge (of_number_tag sa) (of_number_tag ha) (of_number_tag st) (of_number_tag ht)
    unfolding fresh_refused pick
    fresh_timed t r m = simp there-seen (rw (← e, ← f, ← g, ← h, n, t, ← m) refl)

    pub fresh_bound : (k || l) ≡ false → not (eqb challenge handle) ≡ fresh_refused uptime time handle challenge (of_number_tag sa) (of_number_tag ha) (of_number_tag st) (of_number_tag ht)
    unfolding fresh_refused pick
    fresh_bound t = simp there-seen (rw (← e, ← f, ← g, ← h, n, t) refl)

-- ---- 35

pub key_refused : (p a m d : ℕ) (s h : code.Option ℕ) (l i j k : Bool) → l ≡ looks_at_key_size p a m → i ≡ is_some s → j ≡ is_some h
    → k ≡ both_allow (λ bits. leb (2 * digest_bytes d + 2) (key_bytes bits)) (of_number_tag s) (of_number_tag h)
    → (l && not ((i || j) && k)) ≡ key_size_refused p a m d (of_number_tag s) (of_number_tag h)
unfolding key_size_refused
key_refused p a m d s h l i j k x e f g = simp there-seen (rw (← x, ← e, ← f, ← g) refl)

-- ---- 40

-- no token shares no bit
pub shares : (kinds : code.Option ℕ) (wanted k : ℕ) → k ≡ unwrap_or kinds 0 → not (eqb (bit_and k wanted) 0) ≡ (is_some kinds && not (eqb (bit_and (or_zero (of_number_tag kinds)) wanted) 0))
unfolding or_zero
shares None wanted k e = rw e refl
shares (Some x) wanted k e = rw e refl
