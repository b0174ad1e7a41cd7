-- An array that is made by a call at each of its places. Assumes nothing.
use mathlib.Core.Path.{◌≡◌, sym, ap, subst, ◌∙◌}
use mathlib.Core.List.{List, map}
use Prim.Native.Nat.{ℕ, zero, suc, ◌+◌, ◌<◌, ◌≤◌}
use native.Mathlib.Omega.{arith}
use lib.ListN.{length, get_or, take, drop, length-map, length-drop, get_or-map}
use lib.Seq.{length-take-le, get_or-take, get_or-drop, ext_get_or}
use denote.Param.Members.{Mut, Called}
use Rattle.std.specs.Array.{IsFromFnResult, IsFromFnResultFrom}
use Rattle.answer.proofs.Logic.{by_le}

-- a call at k gives h k, and changes nothing
module _ {F B : Type 0} (g : Mut F (ℕ × Unit {0}) B) (f : F) (h : ℕ → B) (each : (i : ℕ) (y : B) (q : F) → Called g f (i, tt) y q → (q ≡ f) × (y ≡ h i)) where
  called_at : (ys : List B) (d : B) (n i : ℕ) → IsFromFnResultFrom g f ys i n → (k : ℕ) → i ≤ k → k < i + n → get_or ys k d ≡ h k
  called_at ys d zero i r k a b = absurd (omega arith)
  called_at ys d (suc n) i r k a b =
      let e = each i r.1 r.0 r.3 in
      by_le k i
      (λ c. let z : k ≡ i = omega arith in rw z (r.2.1 d ∙ e.1))
      (λ c. let P : F → Type 0 = λ q. IsFromFnResultFrom g q ys (i + 1) n in called_at ys d n (i + 1) (subst P e.0 r.4) k (omega arith) (omega arith))

  -- what is the same at each place is the array
  pub array_made : (ys zs : List B) (d : B) (n : ℕ) → IsFromFnResult g f ys n → length zs ≡ n → ((k : ℕ) → k < n → h k ≡ get_or zs k d) → ys ≡ zs
  array_made ys zs d n r z s =
      ext_get_or d ys zs (r.long ∙ sym z) (λ k q. let b : k < n = omega (arith, r.long) in called_at ys d n 0 r.each k (omega arith) (omega arith) ∙ s k b)

-- words as they are, from place p on
pub numbers_made : {F : Type 0} (g : Mut F (ℕ × Unit {0}) ℕ) (f : F) (w : List ℕ) (p n : ℕ) → p + n ≤ length w
    → ((i : ℕ) (y : ℕ) (q : F) → Called g f (i, tt) y q → (q ≡ f) × (y ≡ get_or w (p + i) 0)) → {ys : List ℕ} → IsFromFnResult g f ys n → ys ≡ take n (drop p w)
numbers_made g f w p n h each {ys} r =
    array_made g f (λ k. get_or w (p + k) 0) each ys (take n (drop p w)) 0 n r
    (length-take-le n (drop p w) (omega (arith, length-drop p w)))
    (λ k q. sym (get_or-take n (drop p w) k 0 q ∙ get_or-drop p w k 0))

-- words as t takes them
pub mapped_made : {F B : Type 0} (g : Mut F (ℕ × Unit {0}) B) (f : F) (t : ℕ → B) (w : List ℕ) (n : ℕ) → n ≤ length w
    → ((i : ℕ) (y : B) (q : F) → Called g f (i, tt) y q → (q ≡ f) × (y ≡ t (get_or w i 0))) → {ys : List B} → IsFromFnResult g f ys n → ys ≡ map t (take n w)
mapped_made g f t w n h each {ys} r =
    array_made g f (λ k. t (get_or w k 0)) each ys (map t (take n w)) (t 0) n r
    (length-map (take n w) t ∙ length-take-le n w h)
    (λ k q. sym (get_or-map t (take n w) k 0 ∙ ap t (get_or-take n w k 0 q)))
