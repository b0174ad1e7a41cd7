-- What `write` answers and leaves, in plain variables: each refusal is the first test of `written` that fails, and past
-- them the size that was found is the encoding's length. Assumes nothing.
use mathlib.Core.Path.{◌≡◌, refl, ap, ◌∙◌}
use mathlib.Core.Bool.{Bool, true, false, not}
use mathlib.Core.List.{List}
use Prim.Native.Nat.{ℕ, ◌<◌, ◌≤◌}
use native.Mathlib.Omega.{arith}
use lib.ListN.{length}
use borrow.Author.Tests.{le-leb, lt-leb, not-true, not-false}
use Rattle.answer.specs.Answer.{got, refused, guard}
use Rattle.answer.specs.Refusal.{ill_shaped, encoding_too_long, output_short}
use Rattle.records.specs.declared.Record.{Record}
use Rattle.records.specs.Shape.{well_shaped_record}
use Rattle.records.specs.Parts.{parts_inside}
use Rattle.sizes.specs.declared.Sizes.{Sizes}
use Rattle.sizes.specs.Size.{Measured}
use Rattle.writer.specs.Put.{Puts}
use Rattle.writer.specs.Written.{encoding_of, writable, written, left_by}
use Rattle.sizes.proofs.Sizing.{sized_over, sized_within}
use Rattle.codec.specs.Limits.{extension_bytes}

module _ (r : Record) (s out : List ℕ) where
  -- a refusal, and the output as it was
  abbrev Refuses : ℕ → Type 0
  Refuses number = (refused number 0 ≡ written r s out) × (out ≡ left_by r s out)

  refuses : (number : ℕ) → written r s out ≡ refused number 0 → Refuses number
  refuses number e = rw e (refl, refl)

  module _ (a : Bool) (e : a ≡ well_shaped_record r) where
    pub ill_shaped_lem : not a ≡ true → Refuses ill_shaped
    unfolding written guard
    ill_shaped_lem n = refuses ill_shaped (rw (← e, not-true a n) refl)

    module _ (n : not a ≡ false) (b : Bool) (f : b ≡ parts_inside r (length s)) where
      pub outside : not b ≡ true → Refuses ill_shaped
      unfolding written guard
      outside m = refuses ill_shaped (rw (← e, not-false a n, ← f, not-true b m) refl)

      module _ (m : not b ≡ false) (z : Sizes) (g : Measured r s z) where
        is-writable : writable r s ≡ true
        is-writable = rw (← e, not-false a n, ← f, not-false b m) refl

        pub too_long_lem : extension_bytes < z.whole → Refuses encoding_too_long
        unfolding written guard
        too_long_lem h =
            let l = sized_over (encoding_of r s) z.whole g.whole h in
            refuses encoding_too_long (rw (is-writable, lt-leb (length (encoding_of r s)) extension_bytes l) refl)

        module _ (h : z.whole ≤ extension_bytes) where
          its_length : z.whole ≡ length (encoding_of r s)
          its_length = sized_within (encoding_of r s) z.whole g.whole h

          pub short : length out < z.whole → Refuses output_short
          unfolding written guard
          short k =
              let l = its_length in
              refuses output_short (rw (is-writable, ← l, le-leb z.whole extension_bytes h, lt-leb z.whole (length out) k) refl)

          pub wrote : (new : List ℕ) (q : ℕ) → z.whole ≤ length out → Puts out 0 (encoding_of r s) new q → (got q ≡ written r s out) × (new ≡ left_by r s out)
          unfolding written guard
          wrote new q k p =
              let l = its_length in
              let d = p.is (omega arith) (omega arith) in
              let w : written r s out ≡ got (length (encoding_of r s)) = rw (is-writable, ← l, le-leb z.whole extension_bytes h, le-leb z.whole (length out) k) refl in
              rw w (ap got (d.1 ∙ omega arith), d.0)
