-- What rows up to a number join to: rows that agree, rows that add nothing, and one row among others. Assumes nothing.
use mathlib.Core.Path.{◌≡◌, refl, sym, subst, ◌∙◌}
use mathlib.Core.List.{List, [], ◌++◌, append_assoc, append-nil}
use Prim.Native.Nat.{ℕ, zero, suc, ◌+◌, ◌-◌, ◌<◌, ◌≤◌}
use native.Mathlib.Omega.{arith}
use native.Mathlib.Nat.{add-zero, add-suc}
use Rattle.answer.proofs.Logic.{by_le}
use Rattle.records.specs.Content.{up_to}

pub up_to_agree : {A : Type 0} (F G : ℕ → List A) (n : ℕ) → ((k : ℕ) → k < n → F k ≡ G k) → up_to F n ≡ up_to G n
unfolding up_to
up_to_agree F G zero h = refl
up_to_agree F G (suc n) h = rw (up_to_agree F G n (λ k p. h k (omega arith)), h n (omega arith))

pub up_to-none : {A : Type 0} (F : ℕ → List A) (m d : ℕ) → ((k : ℕ) → m ≤ k → k < m + d → F k ≡ []) → up_to F (m + d) ≡ up_to F m
unfolding up_to
up_to-none F m zero h = rw add-zero
up_to-none F m (suc d) h = rw (add-suc, h (m + d) (omega arith) (omega arith), append-nil) (up_to-none F m d (λ k p q. h k p (omega arith)))

pub up_to-to : {A : Type 0} (F : ℕ → List A) (m n : ℕ) → m ≤ n → ((k : ℕ) → m ≤ k → k < n → F k ≡ []) → up_to F n ≡ up_to F m
up_to-to F m n p h = let e : m + (n - m) ≡ n = omega arith in subst (λ (x : ℕ). up_to F x ≡ up_to F m) e (up_to-none F m (n - m) (λ k a b. h k a (omega arith)))

-- one row more, with none above it
pub up_to_one : {A : Type 0} (F G : ℕ → List A) (n r : ℕ) → r < n → ((k : ℕ) → k < n → (k ≡ r → ⊥) → G k ≡ F k) → ((k : ℕ) → r ≤ k → k < n → F k ≡ []) → up_to G n ≡ up_to F n ++ G r
unfolding up_to
up_to_one {A} F G n r h same none =
    let up : up_to G n ≡ up_to G (suc r) = up_to-to G (suc r) n h (λ k p q. same k q (omega arith) ∙ none k (omega arith) q) in
    let lo : up_to G r ≡ up_to F r = up_to_agree G F r (λ k p. same k (omega arith) (omega arith)) in
    let dn : up_to F n ≡ up_to F r = up_to-to F r n (omega arith) none in
    up ∙ step G r ∙ rw (lo, dn) refl
  where
    step : (G : ℕ → List A) (r : ℕ) → up_to G (suc r) ≡ up_to G r ++ G r
    step G r = refl

-- the same, with none below it
pub up_to-first : {A : Type 0} (F G : ℕ → List A) (n r : ℕ) → r < n → ((k : ℕ) → k < n → (k ≡ r → ⊥) → G k ≡ F k) → ((k : ℕ) → k ≤ r → k < n → F k ≡ []) → up_to G n ≡ G r ++ up_to F n
unfolding up_to
up_to-first F G zero r h same none = absurd (omega arith)
up_to-first F G (suc n) r h same none =
    by_le n r
    (λ p. let e : n ≡ r = omega arith in
    rw (e, up_to-to G 0 r (omega arith) (λ k a b. same k (omega arith) (omega arith) ∙ none k (omega arith) (omega arith)), up_to-to F 0 r (omega arith) (λ k a b. none k (omega arith) (omega arith)), none r (omega arith) (omega arith)) (sym (append-nil (G r))))
    (λ p. rw (up_to-first F G n r p (λ k b ne. same k (omega arith) ne) (λ k a b. none k a (omega arith)), same n (omega arith) (omega arith)) (append_assoc (G r) (up_to F n) (F n)))
