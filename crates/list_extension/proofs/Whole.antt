-- A text of 491,520 octets is never short, so that what is shown is the whole listing. Assumes nothing.
use mathlib.Core.Path.{◌≡◌, sym, ap, subst, ◌∙◌}
use mathlib.Core.List.{List}
use Prim.Native.Nat.{ℕ, ◌+◌, ◌≤◌}
use native.Mathlib.Omega.{arith}
use lib.ListN.{length, drop, length-append}
use Rattle.std.specs.Prelude.{Result, Ok, Err}
use Rattle.answer.specs.declared.Refused.{Refused}
use Rattle.answer.specs.Answer.{Answer, got}
use Rattle.codec.specs.Octets.{splice, left}
use Rattle.listing.specs.Room.{of_listed}
use Rattle.extension_text.specs.Bytes.{extension_listed, extension_left}
use Rattle.extension_text.proofs.Said.{listed-whole}
use Rattle.list_extension.specs.Shown.{shown}

-- what is spliced in is no longer than what it leaves
splice-holds : (old xs : List ℕ) → length xs ≤ length (splice old 0 xs)
unfolding splice
splice-holds old xs = omega (arith, length-append xs (drop (0 + length xs) old))

module _ (s out : List ℕ) (h : 491520 ≤ length out) {a : Result ℕ Refused} (e : of_listed a ≡ extension_listed s out) where
  pub never_short : {r : Refused} → a ≡ Err r → ⊥
  never_short {r} m =
      let z : of_listed (Err r) ≡ got (length (shown s)) = sym (ap of_listed m) ∙ (e ∙ listed-whole s out h) in
      let q : ◌≡◌ {A = ℕ} 0 1 = cc in
      omega arith

  pub shown-whole : {n : ℕ} → a ≡ Ok n → {new : List ℕ} → new ≡ extension_left s out
      → (n ≡ length (shown s)) × ((new ≡ splice out 0 (shown s)) × (n ≤ length new))
  shown-whole {n} m {new} o =
      let z : got n ≡ got (length (shown s)) = sym (ap of_listed m) ∙ (e ∙ listed-whole s out h) in
      let p : n ≡ length (shown s) = cc in
      let q : new ≡ splice out 0 (shown s) = subst (λ (x : Answer ℕ). new ≡ left x out 0 (shown s)) (listed-whole s out h) o in
      (p, (q, omega (arith, p, ap length q, splice-holds out (shown s))))
