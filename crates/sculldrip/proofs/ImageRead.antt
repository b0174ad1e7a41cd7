-- A read's answer is the defined one, and the image that it fills is that of the record read; what follows for the image's
-- own record. Assumes nothing.
use mathlib.Core.Path.{◌≡◌, refl, ap, subst, ◌∙◌}
use mathlib.Core.List.{List, ◌++◌}
use Prim.Native.Nat.{ℕ, ◌+◌, ◌<◌, ◌≤◌}
use native.Mathlib.Omega.{arith}
use mir.Syntax.{w8}
use mir.Val.{Fits}
use lib.ListN.{length, get_or, drop}
use lib.Seq.{drop_at}
use borrow.Author.Tests.{le-leb}
use Rattle.answer.specs.Answer.{Answer, got, refused, pick}
use Rattle.answer.specs.Refusal.{short_image}
use Rattle.codec.specs.Octets.{splice}
use Rattle.codec.proofs.Splice.{length-splice}
use Rattle.schema.specs.Content.{Content}
use Rattle.schema.specs.Decode.{read}
use Rattle.records.specs.declared.Record.{Record}
use Rattle.reader.specs.Reading.{Reads}
use Rattle.extension_text.proofs.Said.{said_in, said-is}
use Rattle.image.specs.Image.{image_of, record_of, words_fit, image_put}
use Rattle.image.specs.Whole.{WholeRecord}
use Rattle.image.proofs.Puts.{image-length}
use Rattle.image.proofs.RoundTrip.{record_back, image-fits}
use Rattle.sculldrip.specs.Calls.{elements, read_into, ImageOfRead, LeavesRead, ReadLeaves}
use Rattle.sculldrip.specs.Statements.{ReadImage, ReadBack}
use Rattle.sculldrip.proofs.Calls.{too_few, enough}

-- both clauses, from the answer that they speak of
told : (s old new : List ℕ) {x : Answer (Content × ℕ)} → x ≡ read_into s old → LeavesRead x s old new → (elements x ≡ elements (read_into s old)) × ReadLeaves s old new
told s old new e q = (ap elements e, subst (λ (y : Answer (Content × ℕ)). LeavesRead y s old new) e q)

module _ (s old : List ℕ) where
  pub read_short : length old < 410 → (refused short_image 0 ≡ elements (read_into s old)) × ReadLeaves s old old
  unfolding read_into
  read_short h = told s old old (too_few 410 old (read s) h) refl

  module _ (h : 410 ≤ length old) (f : (k : ℕ) → Fits w8 (get_or s k 0)) (r : Record) where
    found : (o : Answer ℕ) → Reads s o r → said_in s o r ≡ read_into s old
    unfolding read_into
    found o is = said-is s f o r is ∙ enough 410 old (read s) h

    put : {new : List ℕ} → new ≡ image_put old r → new ≡ splice old 0 (image_of r)
    unfolding image_put pick
    put e = rw (le-leb 410 (length old) h) at e

    pub read-refused : (k q : ℕ) → Reads s (refused k q) r → (refused k q ≡ elements (read_into s old)) × ReadLeaves s old old
    read-refused k q is = told s old old (found (refused k q) is) refl

    pub read_filled : (k : ℕ) → Reads s (got k) r → {new : List ℕ} → new ≡ image_put old r → (410 ≤ length old → WholeRecord r) → (got k ≡ elements (read_into s old)) × ReadLeaves s old new
    read_filled k is {new} q w = told s old new (found (got k) is) (record { said = r; reads = is; whole = w h; image = put q })

-- ---- what a read leaves, said of the image alone

module _ (s old new : List ℕ) (n : ℕ) (h : 410 ≤ length old) (f : ImageOfRead s old new n) where
  sized-image : length (image_of f.said) ≡ 410
  sized-image = image-length f.said f.whole

  front : new ≡ image_of f.said ++ drop 410 old
  unfolding splice
  front =
      let n : length (image_of f.said) ≡ 410 = sized-image in
      let z : 0 + length (image_of f.said) ≡ 410 = omega arith in
      f.image ∙ rw z refl

  own : record_of new ≡ f.said
  own = ap record_of front ∙ record_back f.said (drop 410 old) f.whole

  read-image : ReadImage s old new n
  read-image =
      let z : length (image_of f.said) ≡ 410 = sized-image in
      record {
        reads = rw own f.reads;
        fits = ap words_fit front ∙ image-fits f.said (drop 410 old) f.whole;
        rest = ap (drop 410) front ∙ drop_at (image_of f.said) (drop 410 old) 410 sized-image;
        sized = ap length f.image ∙ length-splice old 0 (image_of f.said) (omega arith);
      }

pub read_back : ReadBack
read_back s old new n h f = read-image s old new n h f
