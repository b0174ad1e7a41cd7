-- An image's record, or why there is none; and what putting a record's words leaves. Assumes nothing.
use mathlib.Core.Path.{◌≡◌, refl, sym, ◌∙◌}
use mathlib.Core.Bool.{Bool, true, false, not}
use mathlib.Core.List.{List}
use Prim.Native.Nat.{ℕ, ◌<◌, ◌≤◌}
use lib.ListN.{length}
use borrow.Author.Tests.{le-leb, lt-leb, not-true, not-false}
use Rattle.answer.specs.Answer.{got, refused, guard, pick}
use Rattle.std.specs.Prelude.{Result, Ok, Err}
use Rattle.answer.specs.declared.Refusal.{Refusal}
use Rattle.answer.specs.Refusal.{number_of, ill_shaped, short_image}
use Rattle.codec.specs.Octets.{splice}
use Rattle.records.specs.declared.Record.{Record}
use Rattle.image.specs.Image.{image_of, record_of, words_fit, record_in, of_imaged, image_put}

module _ (w : List ℕ) where
  pub image-short : length w < 410 → refused short_image 0 ≡ record_in w
  unfolding record_in guard
  image-short h = rw (lt-leb 410 (length w) h) refl

  module _ (h : 410 ≤ length w) {b : Bool} (e : b ≡ words_fit w) where
    pub image_unfit : not b ≡ true → refused ill_shaped 0 ≡ record_in w
    unfolding record_in guard
    image_unfit t = rw (le-leb 410 (length w) h, ← e, not-true b t) refl

    pub image-got : not b ≡ false → {r : Record} → r ≡ record_of w → got r ≡ record_in w
    unfolding record_in guard
    image-got t q = rw (q, le-leb 410 (length w) h, ← e, not-false b t) refl

-- ---- what a caller of `record_of` learns from its answer

module _ (w : List ℕ) (i : Result Record Refusal) (e : of_imaged i ≡ record_in w) where
  pub is-refused : (n : Refusal) → i ≡ Err n → record_in w ≡ refused (number_of n) 0
  is-refused n h = sym e ∙ rw h refl

  pub is-got : (r : Record) → i ≡ Ok r → record_in w ≡ got r
  is-got r h = sym e ∙ rw h refl

-- ---- the words put

module _ (old : List ℕ) (r : Record) where
  pub put-long : 410 ≤ length old → {new : List ℕ} → new ≡ splice old 0 (image_of r) → new ≡ image_put old r
  unfolding image_put pick
  put-long h e = e ∙ rw (le-leb 410 (length old) h) refl

  pub put-short : length old < 410 → old ≡ image_put old r
  unfolding image_put pick
  put-short h = rw (lt-leb 410 (length old) h) refl
