-- Images that agree on the words that are looked at get the same answers, which ask of their records only what they agree
-- on. Assumes nothing.
use mathlib.Core.Path.{◌≡◌, refl, sym, ap, ◌∙◌}
use mathlib.Core.Bool.{Bool, true, false, not}
use mathlib.Core.Option.{Option}
use mathlib.Core.List.{List}
use Prim.Native.Nat.{ℕ, ◌≤◌}
use lib.ListN.{length}
use lib.Dec.{eqb}
use borrow.Author.Tests.{le-leb}
use Rattle.answer.specs.Answer.{Answer, got, guard, bind, pick}
use Rattle.answer.specs.Refusal.{ill_shaped}
use Rattle.schema.specs.Content.{Content, Places, octets_in, map_content, encode}
use Rattle.records.specs.Content.{content_of}
use Rattle.records.proofs.PlacesRead.{content_there}
use Rattle.records.specs.declared.Record.{Record}
use Rattle.records.specs.Fields.{field_value}
use Rattle.octet_fields.specs.Asked.{asked_of, asked_octets}
use Rattle.writer.specs.Written.{written, left_by}
use Rattle.ruling.specs.declared.request.Request.{Request}
use Rattle.ruling.specs.Rules.{rules_of}
use Rattle.ruling.specs.Ruling.{Permit, ruling}
use Rattle.enrolment.specs.Enrolled.{enrolled}
use Rattle.image.specs.Image.{record_of, words_fit, record_in}
use Rattle.image.specs.Agree.{Agree}
use Rattle.image.proofs.Agree.{not_looked_at}
use Rattle.sculldrip.specs.Packed.{packed}
use Rattle.sculldrip.specs.Calls.{at_least, of_image, beside, leaves, asked, part_words, record_leaves, write_image, write_leaves, ask_image, request_of, permit_words, rule_image, enrol_image}
use Rattle.sculldrip.specs.Statements.{SameWritten, SameOctets, SameRuled, SameEnrolled}

-- the record of a whole image, where its words fit
in_long : (w : List ℕ) → 410 ≤ length w → record_in w ≡ guard (words_fit w) ill_shaped 0 (got (record_of w))
unfolding record_in guard
in_long w h = rw (le-leb 410 (length w) h) refl

module _ (w w' : List ℕ) (a : Agree w w') where
  of_same : {A : Type 0} (next : Record → Answer A) → next (record_of w) ≡ next (record_of w') → of_image w next ≡ of_image w' next
  unfolding bind guard
  of_same {A} next e =
      rw (in_long w a.long, in_long w' a.long', (not_looked_at w w' a).fits) (go (words_fit w'))
    where
      go : (b : Bool) → bind (guard b ill_shaped 0 (got (record_of w))) next ≡ bind (guard b ill_shaped 0 (got (record_of w'))) next
      go true = e
      go false = refl

  leaves-same : (s out : List ℕ) → left_by (record_of w) s out ≡ left_by (record_of w') s out → write_leaves w s out ≡ write_leaves w' s out
  unfolding guard
  leaves-same s out e =
      rw (in_long w a.long, in_long w' a.long', (not_looked_at w w' a).fits) (go (words_fit w'))
    where
      go : (b : Bool) → record_leaves (guard b ill_shaped 0 (got (record_of w))) s out ≡ record_leaves (guard b ill_shaped 0 (got (record_of w'))) s out
      go true = e
      go false = refl

  -- the same places, so the same content in any buffer
  says_same : (s : List ℕ) → content_of (record_of w) s ≡ content_of (record_of w') s
  says_same s = sym (content_there s (record_of w)) ∙ ap (map_content (octets_in s)) (not_looked_at w w' a).says ∙ content_there s (record_of w')

  written_same : (s out : List ℕ) → written (record_of w) s out ≡ written (record_of w') s out
  unfolding written
  written_same s out =
      let e = not_looked_at w w' a in
      rw (e.shaped, e.inside (length s), ap encode (says_same s)) refl

  left-same : (s out : List ℕ) → left_by (record_of w) s out ≡ left_by (record_of w') s out
  left-same s out = rw (written_same s out, ap encode (says_same s)) refl

  ruled-same : (q : Request) → ruling (record_of w) q ≡ ruling (record_of w') q
  unfolding ruling
  ruled-same q =
      let e = not_looked_at w w' a in
      let c = e.says in
      rw (
        e.shaped,
        ap (λ (x : Places). x.level) c,
        ap (λ (x : Places). x.keymint_level) c,
        ap (λ (x : Places). rules_of x.software) c,
        ap (λ (x : Places). rules_of x.hardware) c,
      ) refl

  enrolled-same : (s expected : List ℕ) → enrolled (record_of w) s expected ≡ enrolled (record_of w') s expected
  unfolding enrolled
  enrolled-same s expected =
      let e = not_looked_at w w' a in
      let c = e.says in
      rw (
        e.shaped,
        e.inside (length s),
        ap (λ (x : Places). x.level) c,
        ap (λ (x : Places). x.keymint_level) c,
        ap (λ (x : Content). x.challenge) (says_same s),
        ap (λ (x : Places). x.hardware) c,
      ) refl

  asked-same : (hardware : Bool) (number len : ℕ) → asked_octets (record_of w) hardware number len ≡ asked_octets (record_of w') hardware number len
  unfolding asked_octets pick
  asked-same true number len = ap (λ (x : Places). asked_of (field_value x.hardware number) len) (not_looked_at w w' a).says
  asked-same false number len = ap (λ (x : Places). asked_of (field_value x.software number) len) (not_looked_at w w' a).says

pub same-written : SameWritten
unfolding write_image
same-written w w' s out a =
    (ap packed (of_same w w' a (λ r. written r s out) (written_same w w' a s out)), leaves-same w w' a s out (left-same w w' a s out))

pub same-octets : SameOctets
unfolding ask_image
same-octets w w' hardware number len part a =
    let e = ap (λ (x : Answer (Option (ℕ × ℕ))). at_least 2 part x) (of_same w w' a (λ r. asked_octets r (not (eqb hardware 0)) number len) (asked-same w w' a (not (eqb hardware 0)) number len)) in
    (ap (λ (x : Answer (Option (ℕ × ℕ))). packed (beside asked x)) e, ap (λ (x : Answer (Option (ℕ × ℕ))). leaves part_words x part) e)

pub same-ruled : SameRuled
unfolding rule_image
same-ruled w w' request permit a =
    let e =
    ap (λ (x : Answer Permit). at_least 16 request (at_least 4 permit x))
    (of_same w w' a (λ r. ruling r (request_of request)) (ruled-same w w' a (request_of request))) in
    (ap (λ (x : Answer Permit). packed (beside (λ p. 0) x)) e, ap (λ (x : Answer Permit). leaves permit_words x permit) e)

pub same-enrolled : SameEnrolled
unfolding enrol_image
same-enrolled w w' s expected a =
    ap (λ (x : Answer (Unit {0})). packed (beside (λ u. 0) x)) (of_same w w' a (λ r. enrolled r s expected) (enrolled-same w w' a s expected))
