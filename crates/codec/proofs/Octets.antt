-- Octets of joined lists, and the inversion of `octet`. Assumes nothing.
use mathlib.Core.Path.{◌≡◌, refl}
use mathlib.Core.List.{List, [], ◌∷◌, ◌++◌}
use Prim.Native.Nat.{ℕ, ◌+◌, ◌<◌}
use Rattle.answer.specs.Answer.{Answer, got}
use Rattle.answer.proofs.Answer.{refused-got}
use Rattle.codec.specs.Octets.{Octets, taken, octet}

pub octets-left : (xs ys : List ℕ) → Octets (xs ++ ys) → Octets xs
octets-left [] ys o = tt
octets-left (x ∷ xs) ys o = (o.0, octets-left xs ys o.1)

pub octets_right : (xs ys : List ℕ) → Octets (xs ++ ys) → Octets ys
octets_right [] ys o = o
octets_right (x ∷ xs) ys o = octets_right xs ys o.1

pub same_taken : {A : Type 0} (a b : A) (p q : ℕ) (r : List ℕ) → a ≡ b → p ≡ q → got (taken a p r) ≡ got (taken b q r)
same_taken a b p q r e f = rw (e, f)

-- a value came through `octet`: there was an octet
pub octet_case {ℓ} : {A : Type 0} {X : Type ℓ} (p : ℕ) (bs : List ℕ) (k : ℕ → ℕ → List ℕ → Answer A) {a : A} → Octets bs → octet p bs k ≡ got a
    → ((x : ℕ) (r : List ℕ) → bs ≡ x ∷ r → x < 256 → Octets r → k x (p + 1) r ≡ got a → X) → X
unfolding octet
octet_case p [] k o e f = absurd (refused-got e)
octet_case p (x ∷ r) k o e f = f x r refl o.0 o.1 e
