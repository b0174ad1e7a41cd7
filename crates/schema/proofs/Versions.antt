-- Which versions are known, and their highest level, as the code's tests have them. Assumes nothing.
use mathlib.Core.Path.{◌≡◌, refl}
use mathlib.Core.Bool.{true, false}
use mathlib.Core.Logic.{inl, inr}
use mathlib.Core.List.{[], ◌∷◌}
use Prim.Native.Nat.{ℕ, ◌<◌, ◌≤◌}
use native.Mathlib.Omega.{arith}
use borrow.Author.Tests.{le-leb, lt-leb, ne_eqb}
use types.Run.{OneOf}
use Rattle.answer.specs.Answer.{pick}
use Rattle.answer.proofs.Logic.{by_le}
use Rattle.schema.specs.Table.{known_version, level_top}

module _ (v : ℕ) where
  pub version-named : OneOf (100 ∷ 200 ∷ 300 ∷ []) v → true ≡ known_version v
  unfolding known_version
  version-named (inl e) = rw e refl
  version-named (inr (inl e)) = rw e refl
  version-named (inr (inr e)) = rw e refl

  pub version-first : 1 ≤ v → v < 5 → true ≡ known_version v
  unfolding known_version
  version-first h g =
      by_le v 1 (λ a. let e : v ≡ 1 = omega arith in rw e refl)
      (λ a. by_le v 2 (λ b. let e : v ≡ 2 = omega arith in rw e refl)
      (λ b. by_le v 3 (λ d. let e : v ≡ 3 = omega arith in rw e refl)
      (λ d. let e : v ≡ 4 = omega arith in rw e refl)))

  pub version-none : v < 1 → false ≡ known_version v
  unfolding known_version
  version-none h = let e : v ≡ 0 = omega arith in rw e refl

  pub version_other : 4 < v → (OneOf (100 ∷ 200 ∷ 300 ∷ []) v → ⊥) → false ≡ known_version v
  unfolding known_version
  version_other h n =
      simp (ne_eqb v 1 (λ e. omega arith), ne_eqb v 2 (λ e. omega arith), ne_eqb v 3 (λ e. omega arith), ne_eqb v 4 (λ e. omega arith), ne_eqb v 100 (λ e. n (inl e)), ne_eqb v 200 (λ e. n (inr (inl e))), ne_eqb v 300 (λ e. n (inr (inr e))))

  pub top_two : 3 ≤ v → 2 ≡ level_top v
  unfolding level_top pick
  top_two h = rw (le-leb 3 v h) refl

  pub top_one : v < 3 → 1 ≡ level_top v
  unfolding level_top pick
  top_one h = rw (lt-leb 3 v h) refl
