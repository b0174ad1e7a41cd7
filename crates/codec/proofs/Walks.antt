-- What is built of elements is accepted by the first pass, with its count: one law for each way of building (a primitive
-- element, one around a run, one after the other, a chain), each by giving the tree. Assumes nothing.
use mathlib.Core.Path.{◌≡◌, refl, ap}
use mathlib.Core.Bool.{Bool, not}
use mathlib.Core.List.{List, [], ◌∷◌, ◌++◌, append_assoc, append-nil}
use Prim.Native.Nat.{ℕ, suc, ◌+◌, ◌≤◌}
use native.Mathlib.Omega.{arith}
use native.Mathlib.Nat.{add_assoc, add-zero, zero-add}
use lib.ListN.{length}
use lib.Dec.{T, T_not}
use Rattle.answer.specs.Answer.{got}
use Rattle.answer.proofs.Logic.{and_left, and_right}
use Rattle.codec.specs.Header.{Identifier, holds, identifier_good, length_good, header_octets, element_octets}
use Rattle.codec.specs.Element.{chain_octets, chain_good, total}
use Rattle.codec.specs.Tree.{Node, Nodes, node, none, and, nodes, all_nodes, first_pass, octets_of, run_octets, Each, Der}
use Rattle.codec.proofs.Tree.{first_pass_back}

-- e is one element, at most d levels deep, of k elements in all, at whatever place it stands
pub record One (d k : ℕ) (e : List ℕ) : Type 0 where
  pub tree : (p : ℕ) → (t : Node) × Der d p t × (nodes t ≡ k) × (octets_of t ≡ e)

-- a run of them
pub data Walks (d : ℕ) : ℕ → List ℕ → Type 0 where
  nothing : Walks d 0 []
  more : {k l : ℕ} {e bs : List ℕ} → One d k e → Walks d l bs → Walks d (k + l) (e ++ bs)

pub single : {d k : ℕ} {e : List ℕ} → One d k e → Walks d k e
single o = rw (add-zero, append-nil) at (more o nothing)

pub append : {d k l : ℕ} {xs ys : List ℕ} → Walks d k xs → Walks d l ys → Walks d (k + l) (xs ++ ys)
append nothing w = rw zero-add w
append (more o v) w = rw (add_assoc, append_assoc) (more o (append v w))

walks_run : {d k : ℕ} {bs : List ℕ} → Walks d k bs → (p : ℕ) → (ts : Nodes) × Each (Der d) p ts × (all_nodes ts ≡ k) × (run_octets ts ≡ bs)
unfolding Each all_nodes run_octets
walks_run nothing p = (none, tt, refl, refl)
walks_run (more o w) p =
    let a = o.tree p in
    let b = walks_run w (p + length (octets_of a.0)) in
    (and a.0 b.0, (a.1, b.1), omega (arith, a.2, b.2), rw (b.3, a.3) refl)

module _ (d : ℕ) (i : Identifier) (c : List ℕ) (g : T (identifier_good i)) (s : T (length_good (length c))) where
  -- an element that holds none
  pub flat : T (not (holds i)) → One (suc d) 1 (element_octets i c)
  unfolding Der octets_of nodes all_nodes
  flat y = record { tree = λ p. (node p i c none, (refl, g, s, (λ z. absurd (T_not (holds i) y z)), λ z. refl), refl, refl) }

  -- an element around a run
  pub around : {k : ℕ} → T (holds i) → Walks d k c → One (suc d) (suc k) (element_octets i c)
  unfolding Der octets_of nodes
  around y w = record {
    tree = λ p.
        let a = walks_run w (p + length (header_octets i (length c))) in
        (node p i c a.0, (refl, g, s, (λ z. (a.3, a.1)), λ z. absurd (T_not (holds i) z y)), ap suc a.2, refl);
  }

-- one after the other, each good at the state before it
pub chained : {S A : Type 0} (enc : A → List ℕ) (good : S → A → Bool) (after : S → A → S) (count : A → ℕ) {d : ℕ} → ((s : S) (a : A) → T (good s a) → One d (count a) (enc a))
    → (s : S) (l : List A) → T (chain_good good after s l) → Walks d (total count l) (chain_octets enc l)
chained enc good after count one s [] t = nothing
chained enc good after count one s (a ∷ l) t = more (one s a (and_left (good s a) _ t)) (chained enc good after count one (after s a) l (and_right (good s a) _ t))

-- the whole: accepted, with its count
pub top : {k : ℕ} {bs : List ℕ} (bytes depth most : ℕ) → One depth k bs → k ≤ most → length bs ≤ bytes → (t : Node) × (nodes t ≡ k) × (first_pass bytes depth most bs ≡ got t)
top {k} {bs} bytes depth most o h l =
    let a = o.tree 0 in
    (a.0, a.2, first_pass_back bytes depth most bs a.0 (record { short = l; der = a.1; few = omega (arith, a.2); whole = a.3 }))
