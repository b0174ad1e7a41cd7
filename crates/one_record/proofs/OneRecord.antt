-- The theorems of specs/Statements.antt. What is read was encoded and what is encoded is read back (schema Accepted); equal
-- records are those of equal contents (records Equal); the rest cites the contracts. Assumes nothing.
use mathlib.Core.Path.{◌≡◌, refl, sym, ap, ◌∙◌}
use mathlib.Core.Bool.{Bool, true, false}
use mathlib.Core.Logic.{inl, inr}
use mathlib.Core.List.{List, ◌++◌}
use Prim.Native.Nat.{ℕ, ◌≤◌, ◌<◌}
use native.Mathlib.Nat.{zero-add}
use lib.ListN.{length, take, drop}
use lib.Seq.{take-append_seam}
use lib.Dec.{T, leb, leb→le, le→leb}
use borrow.Author.Tests.{lt-leb}
use Rattle.std.specs.Prelude.{Result, Ok, Err}
use Rattle.answer.specs.Answer.{Answer, got, refused, guard, map_answer}
use Rattle.answer.specs.Refusal.{number_of}
use Rattle.answer.specs.declared.Refused.{Refused}
use Rattle.answer.proofs.Answer.{got_inj, refused-got, guard_yes, guard_case}
use Rattle.answer.proofs.Logic.{and_left, and_right, and_both}
use Rattle.codec.specs.Octets.{Octets, splice, left}
use Rattle.codec.proofs.Walks.{top}
use Rattle.schema.specs.Content.{Content, Place, encode}
use Rattle.schema.specs.Count.{count_of}
use Rattle.schema.specs.Decode.{read, read_places, as_place}
use Rattle.schema.proofs.Places.{octets_at_places}
use Rattle.schema.proofs.Refusals as refusals
use Rattle.schema.proofs.Accepted as accepted
use Rattle.schema.proofs.Accepted.{read-encode, read-sound, read_injective}
use Rattle.schema.proofs.Count.{encode_one, count-few}
use Rattle.schema.proofs.Shape.{shaped_good}
use Rattle.schema.proofs.Encoded.{encode-octets}
use Rattle.records.specs.Content.{octets_at, content_of}
use Rattle.records.specs.Shape.{well_shaped_record}
use Rattle.records.specs.Parts.{parts_inside}
use Rattle.records.specs.Empty.{empty_record}
use Rattle.records.specs.declared.Record.{Record}
use Rattle.records.proofs.PlacesRead.{places_read}
use Rattle.records.proofs.Equal.{equal_content, content_equal}
use Rattle.records.proofs.ShapedContent.{shaped_content}
use Rattle.reader.specs.Reading.{of_reading, Reads, Answered}
use Rattle.reader.specs.declared.Reading.{Reading}
use Rattle.reader.proofs.Answered.{same_answer, some_answer}
use Rattle.writer.specs.Written.{encoding_of, writable, written, Writes}
use Rattle.one_record.specs.Accepting.{ReadsAs}
use Rattle.one_record.specs.Statements.{OneAnswer, OneResult, ReadRefuses, SchemaRefuses, AcceptedExactly, EqualSameBytes, Encodable, EncodingAccepted, ReadsBackEqual, OnlyEncoding, EncodingSmall, WritesJustThat, RefusedUntouched, WriteNumbers, WriteRefuses, WriteOfRead, ReadOfWrite}
use Rattle.one_record.proofs.ContentOctets.{content_octets}
use Rattle.one_record.proofs.Numbers.{same_number, some_refusal}
use Rattle.codec.specs.Limits.{extension_bytes}

-- ---- one answer

pub one_answer : OneAnswer
one_answer s b =
    let a = some_answer s b (read_places s) refl in
    (a.0, a.1, a.2, λ o' r' g. same_answer s a.0 o' a.1 r' a.2 g)

pub read-refuses : ReadRefuses
read-refuses s k p r b g = refusals.reading_refuses Place as_place s b k p (sym g.is)

pub schema_refuses : SchemaRefuses
schema_refuses s k p r t b e g = refusals.after_first_pass Place as_place s t b e k p (sym g.is)

-- ---- one result: an answer and its record, as `read` gives them

-- the result that stands for an answer and a record
some_result : (s : List ℕ) → Octets s → (o : Answer ℕ) (r : Record) → Reads s o r → (a : Result Reading Refused) × Answered s a
some_result s b (got n) r g = (Ok (record { elements = n; said = r }), g)
some_result s b (refused k p) r g =
    let n = read-refuses s k p r b g in
    let f = some_refusal k n.0 n.1 in
    (Err (record { 0 = f.0; 1 = p }), rw (f.1, ← g.empty) g)

-- one answer and one record stand for one result
same_reading : (a b : Reading) → a.elements ≡ b.elements → a.said ≡ b.said → a ≡ b
same_reading a b e f = λ i. record { elements = e i; said = f i }

same_refused : (a b : Refused) → ◌≡◌ {A = Answer ℕ} (refused (number_of a.0) a.1) (refused (number_of b.0) b.1) → a ≡ b
same_refused a b e =
    let n : number_of a.0 ≡ number_of b.0 = cc in
    let p : a.1 ≡ b.1 = cc in
    let r = same_number a.0 b.0 n in
    λ i. record { 0 = r i; 1 = p i }

same_result : (s : List ℕ) (a a' : Result Reading Refused) → Answered s a → Answered s a' → a' ≡ a
same_result s (Ok a) (Ok a') g h =
    let e = same_answer s (got a.elements) (got a'.elements) a.said a'.said g h in
    ap Ok (same_reading a' a (got_inj e.0) e.1)
same_result s (Ok a) (Err b) g h = absurd (refused-got (same_answer s (got a.elements) (refused (number_of b.0) b.1) a.said empty_record g h).0)
same_result s (Err b) (Ok a) g h = absurd (refused-got (same_answer s (got a.elements) (refused (number_of b.0) b.1) a.said empty_record h g).0)
same_result s (Err a) (Err b) g h =
    let e = same_answer s (refused (number_of a.0) a.1) (refused (number_of b.0) b.1) empty_record empty_record g h in
    ap Err (same_refused b a e.0)

pub one_result : OneResult
one_result s b =
    let a = one_answer s b in
    let w = some_result s b a.0 a.1 a.2 in
    (w.0, w.1, λ a' h. same_result s w.0 a' w.1 h)

-- ---- what is accepted

pub accepted-exactly : AcceptedExactly
accepted-exactly = accepted.accepted-exactly

pub equal_same_bytes : EqualSameBytes
equal_same_bytes xs ys r r' n m o p h g =
    let i = read_injective xs ys (content_of r xs) (content_of r' ys) n m o p (places_read r xs n o (sym h.is)) (places_read r' ys m p (sym g.is)) in
    (λ e. i.0 (equal_content r xs r' ys e), λ e. content_equal r xs r' ys (i.1 e))

-- ---- one encoding

-- two answers that stand for the same, where one accepts
outcome_is : (s : List ℕ) (o : Answer ℕ) (r : Record) (c : Content) (n : ℕ) → Octets s → of_reading o r ≡ read_places s → read s ≡ got (c, n) → (o ≡ got n) × (content_of r s ≡ c)
unfolding map_answer
outcome_is s (got k) r c n b e g =
    let q : ◌≡◌ {A = Content × ℕ} (content_of r s, k) (c, n) = got_inj (sym (places_read r s k b (sym e)) ∙ g) in
    (ap got (ap (λ (x : Content × ℕ). x.1) q), ap (λ (x : Content × ℕ). x.0) q)
outcome_is s (refused k p) r c n b e g = absurd (refused-got (rw (← e) at (sym (octets_at_places s b)) ∙ g))

module _ (r : Record) (s : List ℕ) (h : Encodable r s) where
  back : read (encoding_of r s) ≡ got (content_of r s, count_of (content_of r s))
  back = read-encode (content_of r s) (shaped_content r (octets_at s) h.shaped) (content_octets r s h.octets) h.short

  spelt : Octets (encoding_of r s)
  spelt = encode-octets (content_of r s) (shaped_good (content_of r s) (shaped_content r (octets_at s) h.shaped) (content_octets r s h.octets) h.short)

  answers : (o : Answer ℕ) (r' : Record) → Reads (encoding_of r s) o r' → (o ≡ got (count_of (content_of r s))) × (content_of r' (encoding_of r s) ≡ content_of r s)
  answers o r' g = outcome_is (encoding_of r s) o r' (content_of r s) (count_of (content_of r s)) spelt g.is back

pub encoding_accepted : EncodingAccepted
encoding_accepted r s h o r' g = (answers r s h o r' g).0

pub reads-back_equal : ReadsBackEqual
reads-back_equal r s h o r' g = content_equal r s r' (encoding_of r s) (sym (answers r s h o r' g).1)

pub only_encoding : OnlyEncoding
only_encoding r s h bs r' n o g e = sym (read-sound bs (content_of r' bs) n o (places_read r' bs n o (sym g.is))).2 ∙ ap encode (sym (equal_content r s r' bs e))

pub encoding_small : EncodingSmall
encoding_small r s h =
    let c = content_of r s in
    let t = shaped_content r (octets_at s) h.shaped in
    top extension_bytes 5 313 (encode_one 0 c (shaped_good c t (content_octets r s h.octets) h.short)) (count-few c t) h.short

-- ---- the writer

guard_at {ℓ} : {A : Type 0} {X : Type ℓ} (b : Bool) (n p : ℕ) (m : Answer A) {k q : ℕ} → guard b n p m ≡ refused k q → (n ≡ k → p ≡ q → X) → (m ≡ refused k q → X) → X
unfolding guard
guard_at true n p m {k} {q} e f g = g e
guard_at false n p m {k} {q} e f g = f (let z : n ≡ k = cc in z) (let z : p ≡ q = cc in z)

module _ (r : Record) (s out : List ℕ) where
  shaped : T (well_shaped_record r) → T (parts_inside r (length s)) → T (writable r s)
  shaped t i = and_both (well_shaped_record r) _ t i

  fits : T (well_shaped_record r) → T (parts_inside r (length s)) → length (encoding_of r s) ≤ extension_bytes → length (encoding_of r s) ≤ length out → written r s out ≡ got (length (encoding_of r s))
  unfolding written
  fits t i a b =
      guard_yes (writable r s) 20 0 _ (shaped t i)
      ∙ guard_yes (leb (length (encoding_of r s)) extension_bytes) 22 0 _ (le→leb (length (encoding_of r s)) extension_bytes a)
      ∙ guard_yes (leb (length (encoding_of r s)) (length out)) 21 0 _ (le→leb (length (encoding_of r s)) (length out) b)

  not_writable : (T (writable r s) → ⊥) → written r s out ≡ refused 20 0
  unfolding written guard
  not_writable f = go (writable r s) f
    where
      go : (b : Bool) → (T b → ⊥) → guard b 20 0 (guard (leb (length (encoding_of r s)) extension_bytes) 22 0 (guard (leb (length (encoding_of r s)) (length out)) 21 0 (got (length (encoding_of r s))))) ≡ refused 20 0
      go true f = absurd (f tt)
      go false f = refl

  too_long_lem : T (well_shaped_record r) → T (parts_inside r (length s)) → extension_bytes < length (encoding_of r s) → written r s out ≡ refused 22 0
  unfolding written guard
  too_long_lem t i a = guard_yes (writable r s) 20 0 _ (shaped t i) ∙ rw (lt-leb (length (encoding_of r s)) extension_bytes a) refl

  too_narrow : T (well_shaped_record r) → T (parts_inside r (length s)) → length (encoding_of r s) ≤ extension_bytes → length out < length (encoding_of r s) → written r s out ≡ refused 21 0
  unfolding written guard
  too_narrow t i a b =
      guard_yes (writable r s) 20 0 _ (shaped t i)
      ∙ guard_yes (leb (length (encoding_of r s)) extension_bytes) 22 0 _ (le→leb (length (encoding_of r s)) extension_bytes a)
      ∙ rw (lt-leb (length (encoding_of r s)) (length out) b) refl

-- octets put at the front
front : (out xs : List ℕ) → splice out 0 xs ≡ xs ++ drop (length xs) out
unfolding splice
front out xs = rw zero-add refl

pub writes_just_that : WritesJustThat
writes_just_that r s out after w h l g =
    let e = fits r s out h.shaped h.inside h.short l in
    (g.answer ∙ e, g.output ∙ ap (λ (a : Answer ℕ). left a out 0 (encoding_of r s)) e ∙ front out (encoding_of r s))

pub refused_untouched : RefusedUntouched
refused_untouched r s out after k p g = g.output ∙ ap (λ (a : Answer ℕ). left a out 0 (encoding_of r s)) (sym g.answer)

pub write_refuses : WriteRefuses
write_refuses r s out after w g = record {
  unshaped = λ f. g.answer ∙ not_writable r s out (λ t. f (and_left (well_shaped_record r) _ t));
  outside = λ f. g.answer ∙ not_writable r s out (λ t. f (and_right (well_shaped_record r) _ t));
  long = λ t i a. g.answer ∙ too_long_lem r s out t i a;
  narrow = λ t i a b. g.answer ∙ too_narrow r s out t i a b;
}

pub write_numbers : WriteNumbers
unfolding written
write_numbers r s out after k p g =
    let e = sym g.answer in
    guard_at _ _ _ _ e (λ n q. (sym q, inl (sym n)))
    (λ e₁. guard_at _ _ _ _ e₁ (λ n q. (sym q, inr (inr (sym n))))
    (λ e₂. guard_at _ _ _ _ e₂ (λ n q. (sym q, inr (inl (sym n)))) (λ e₃. absurd (refused-got (sym e₃)))))

-- ---- both

-- the record of an accepted extension is encodable, and its encoding is the extension
pub read_encodable : (b : List ℕ) (r : Record) (n : ℕ) → Octets b → ReadsAs b r n → Encodable r b × (encoding_of r b ≡ b)
read_encodable b r n o g =
    let s = read-sound b (content_of r b) n o (places_read r b n o (sym g.is)) in
    (record { shaped = g.sound.0; inside = g.sound.1; octets = o; short = rw s.2 s.3 }, s.2)

pub write_of_read : WriteOfRead
write_of_read b out after r n w o l g k =
    let p = read_encodable b r n o g in
    let j = writes_just_that r b out after w p.0 (rw p.1 l) k in
    rw p.1 at j

-- what a write that succeeds took
pub wrote_encodable : (r : Record) (s out after : List ℕ) (k : ℕ) → Octets s → Writes r s out (got k) after → Encodable r s × (length (encoding_of r s) ≤ length out) × (k ≡ length (encoding_of r s))
unfolding written
wrote_encodable r s out after k o g =
    guard_case (writable r s) 20 0 _ (sym g.answer) λ t e₁.
    guard_case (leb (length (encoding_of r s)) extension_bytes) 22 0 _ e₁ λ a e₂.
    guard_case (leb (length (encoding_of r s)) (length out)) 21 0 _ e₂ λ b e₃.
    (record { shaped = and_left (well_shaped_record r) _ t; inside = and_right (well_shaped_record r) _ t; octets = o; short = leb→le (length (encoding_of r s)) extension_bytes a }, leb→le (length (encoding_of r s)) (length out) b, sym (got_inj e₃))

pub read_of_write : ReadOfWrite
read_of_write r r' s out after k o q g i =
    let p = wrote_encodable r s out after k q g in
    let j = writes_just_that r s out after (got k) p.0 p.1 g in
    let e : take k after ≡ encoding_of r s = rw (j.1, p.2) (take-append_seam (encoding_of r s) (drop (length (encoding_of r s)) out)) in
    rw e (encoding_accepted r s p.0 o r' (rw e at i), reads-back_equal r s p.0 o r' (rw e at i))
