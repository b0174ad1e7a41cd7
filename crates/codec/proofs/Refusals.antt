-- Which refusals the first pass can give: 1 to 7, of which a header's are 2, 3 and 4. Assumes nothing.
use mathlib.Core.Path.{◌≡◌, refl, sym}
use mathlib.Core.List.{List, [], ◌∷◌}
use Prim.Native.Nat.{ℕ, zero, suc, ◌+◌}
use native.Mathlib.Omega.{arith}
use Rattle.answer.specs.Answer.{Answer, got, refused}
use Rattle.answer.proofs.Answer.{refused-got, pick_case, bind-refuses, guard-refuses}
use Rattle.codec.specs.Octets.{octet}
use Rattle.codec.specs.Header.{read_high_number, read_identifier, read_length, reported, read_header}
use Rattle.codec.specs.Element.{exactly}
use Rattle.codec.specs.Tree.{nodes, run, walk_element, first_pass}
use Rattle.codec.specs.Statements.{FirstPassRefuses}
use Rattle.codec.proofs.Ranges.{InRange}

refusal_number : {A : Type 0} {k p n q : ℕ} → ◌≡◌ {A = Answer A} (refused k p) (refused n q) → k ≡ n
refusal_number e = cc

octet-refuses {ℓ} : {A : Type 0} {X : Type ℓ} (p : ℕ) (bs : List ℕ) (k : ℕ → ℕ → List ℕ → Answer A) {n q : ℕ} → octet p bs k ≡ refused n q → (2 ≡ n → X) → ((x p : ℕ) (r : List ℕ) → k x p r ≡ refused n q → X) → X
unfolding octet
octet-refuses p [] k e f g = f (refusal_number e)
octet-refuses p (x ∷ r) k e f g = g x (p + 1) r e

reported-refuses {ℓ} : {A : Type 0} {X : Type ℓ} (start : ℕ) (m : Answer A) {k q : ℕ} → reported start m ≡ refused k q → ((o : ℕ) → m ≡ refused k o → X) → X
unfolding reported
reported-refuses start (got a) e f = absurd (refused-got (sym e))
reported-refuses start (refused n o) e f = f o (rw (refusal_number e) refl)

-- a header's own
abbrev HeaderRefusal : ℕ → Type 0
HeaderRefusal = InRange 2 4

is_2 : {k : ℕ} → 2 ≡ k → HeaderRefusal k
is_2 e = (omega arith, omega arith)

is_3 : {k : ℕ} → 3 ≡ k → HeaderRefusal k
is_3 e = (omega arith, omega arith)

is_4 : {k : ℕ} → 4 ≡ k → HeaderRefusal k
is_4 e = (omega arith, omega arith)

identifier-refuses : (p : ℕ) (bs : List ℕ) (k q : ℕ) → read_identifier p bs ≡ refused k q → HeaderRefusal k
unfolding read_identifier read_high_number
identifier-refuses p bs k q e =
    octet-refuses _ _ _ e is_2 λ a p₁ r₁ e₁.
    pick_case _ _ _ e₁
    (λ t e₂. octet-refuses _ _ _ e₂ is_2 λ b p₂ r₂ e₃.
    pick_case _ _ _ e₃
    (λ t₂ e₄. guard-refuses _ _ _ _ e₄ is_3 (λ t₃ e₅. absurd (refused-got (sym e₅))))
    (λ t₂ e₄. guard-refuses _ _ _ _ e₄ is_3 λ t₃ e₅.
    octet-refuses _ _ _ e₅ is_2 λ c p₃ r₃ e₆.
    guard-refuses _ _ _ _ e₆ is_3 (λ t₄ e₇. absurd (refused-got (sym e₇)))))
    (λ t e₂. absurd (refused-got (sym e₂)))

length-refuses : (p : ℕ) (bs : List ℕ) (k q : ℕ) → read_length p bs ≡ refused k q → HeaderRefusal k
unfolding read_length
length-refuses p bs k q e =
    octet-refuses _ _ _ e is_2 λ a p₁ r₁ e₁.
    pick_case _ _ _ e₁
    (λ t e₂. absurd (refused-got (sym e₂)))
    (λ t e₂. pick_case _ _ _ e₂
    (λ u e₃. octet-refuses _ _ _ e₃ is_2 λ b p₂ r₂ e₄.
    guard-refuses _ _ _ _ e₄ is_4 (λ v e₅. absurd (refused-got (sym e₅))))
    (λ u e₃. pick_case _ _ _ e₃
    (λ v e₄. octet-refuses _ _ _ e₄ is_2 λ b p₂ r₂ e₅.
    guard-refuses _ _ _ _ e₅ is_4 λ w e₆.
    octet-refuses _ _ _ e₆ is_2 (λ c p₃ r₃ e₇. absurd (refused-got (sym e₇))))
    (λ v e₄. is_4 (refusal_number e₄))))

pub header-refuses : (p : ℕ) (bs : List ℕ) (k q : ℕ) → read_header p bs ≡ refused k q → HeaderRefusal k
unfolding read_header
header-refuses p bs k q e =
    reported-refuses p _ e λ o e₁.
    bind-refuses _ _ e₁ (λ d. identifier-refuses p bs k o d) λ i d e₂.
    bind-refuses _ _ e₂ (λ f. length-refuses i.next i.rest k o f) λ l f e₃.
    guard-refuses _ _ _ _ e₃ is_2 (λ t e₄. absurd (refused-got (sym e₄)))

-- an element's and a run's: 2 to 6
module _ (most depth : ℕ) (one : (met p : ℕ) (bs : List ℕ) (k q : ℕ) → walk_element most depth met p bs ≡ refused k q → InRange 2 6 k) where
  run-refuses : (f met p : ℕ) (bs : List ℕ) (k q : ℕ) → run (walk_element most depth) f met p bs ≡ refused k q → InRange 2 6 k
  unfolding run
  run-refuses zero met p bs k q e = absurd (refused-got (sym e))
  run-refuses (suc f) met p [] k q e = absurd (refused-got (sym e))
  run-refuses (suc f) met p (x ∷ xs) k q e =
      bind-refuses _ _ e (λ d. one met p (x ∷ xs) k q d) λ w d e₁.
      bind-refuses _ _ e₁ (λ u. run-refuses f (met + nodes w.val) w.next w.rest k q u) (λ ts u e₂. absurd (refused-got (sym e₂)))

element-refuses : (most depth met p : ℕ) (bs : List ℕ) (k q : ℕ) → walk_element most depth met p bs ≡ refused k q → InRange 2 6 k
unfolding walk_element
element-refuses most zero met p bs k q e = let n : 5 ≡ k = refusal_number e in (omega arith, omega arith)
element-refuses most (suc d) met p bs k q e =
    guard-refuses _ _ _ _ e (λ n. (omega arith, omega arith)) λ t e₁.
    bind-refuses _ _ e₁ (λ u. let n = header-refuses p bs k q u in (omega arith, omega arith)) λ h u e₂.
    bind-refuses _ _ e₂
    (λ v. pick_case _ _ _ v (λ y z. run-refuses most d (element-refuses most d) _ _ _ _ k q z) (λ y z. absurd (refused-got (sym z))))
    (λ ts v e₃. absurd (refused-got (sym e₃)))

-- "Order: 1; then the whole first pass ..; then 7"
pub first_pass_refuses : FirstPassRefuses
unfolding first_pass exactly
first_pass_refuses bytes depth most bs k q e =
    guard-refuses _ _ _ _ e (λ n. (omega arith, omega arith)) λ t e₁.
    guard-refuses _ _ _ _ e₁ (λ n. (omega arith, omega arith)) λ u e₂.
    bind-refuses _ _ e₂ (λ d. let n = element-refuses most depth 0 0 bs k q d in (omega arith, omega arith)) λ w d e₃.
    guard-refuses _ _ _ _ e₃ (λ n. (omega arith, omega arith)) (λ y e₄. absurd (refused-got (sym e₄)))
