-- The reader and the writer one after the other, from their contracts and the theorems of one_record. Assumes nothing.
use mathlib.Core.Path.{◌≡◌, refl, sym, ap, subst, ◌∙◌}
use mathlib.Core.List.{List}
use Prim.Native.Nat.{ℕ, ◌≤◌}
use native.Mathlib.Omega.{arith}
use mir.Val.{Fits}
use mir.Syntax.{w8}
use lib.ListN.{length, get_or, take}
use lib.Dec.{leb, le→leb}
use Rattle.answer.specs.Answer.{Answer, got, refused, bind, map_answer}
use Rattle.answer.proofs.Answer.{guard_yes}
use Rattle.answer.proofs.Logic.{and_both}
use Rattle.codec.proofs.Splice.{length-splice}
use Rattle.codec.specs.Octets.{Octets, left}
use Rattle.schema.specs.Decode.{read}
use Rattle.schema.proofs.Places.{octets_at_places}
use Rattle.records.specs.Empty.{empty_record}
use Rattle.records.proofs.PlacesRead.{places_read}
use Rattle.records.specs.Shape.{well_shaped_record}
use Rattle.records.specs.declared.Record.{Record}
use Rattle.std.specs.Prelude.{Result, Ok, Err}
use Rattle.answer.specs.Refusal.{number_of}
use Rattle.answer.specs.declared.Refused.{Refused}
use Rattle.reader.specs.Reading.{Reads, Answered}
use Rattle.reader.specs.declared.Reading.{Reading}
use Rattle.contents.proofs.Spelled.{octets_all}
use Rattle.writer.specs.Written.{encoding_of, writable, written, left_by, Writes}
use Rattle.one_record.proofs.OneRecord.{read_encodable, wrote_encodable, read_of_write}
use Rattle.round_trip.specs.Again.{written_again, ReadAgain, AnsweredAgain}
use Rattle.codec.specs.Limits.{extension_bytes}

-- ---- write(read(s)) is s

-- a read that is refused, or accepted, as the definition over octets has it
octets-refused : (s : List ℕ) (r : Record) (k p : ℕ) → Octets s → Reads s (refused k p) r → read s ≡ refused k p
unfolding map_answer
octets-refused s r k p o g = octets_at_places s o ∙ rw (← g.is) refl

module _ (s out : List ℕ) (o : Answer ℕ) (r : Record) (g : Reads s o r) (f : (k : ℕ) → Fits w8 (get_or s k 0)) where
  module _ (k p : ℕ) (w : o ≡ refused k p) where
    refusal : written_again s out ≡ refused k p
    unfolding written_again bind
    refusal = rw (octets-refused s r k p (octets_all s f) (subst (λ (x : Answer ℕ). Reads s x r) w g)) refl

    pub refused_again : refused k p ≡ written_again s out
    refused_again = sym refusal

    pub untouched_again : out ≡ left (written_again s out) out 0 s
    untouched_again = rw refusal refl

  module _ (n : ℕ) (w : o ≡ got n) where
    reads : Reads s (got n) r
    reads = subst (λ (x : Answer ℕ). Reads s x r) w g

    same : encoding_of r s ≡ s
    same = (read_encodable s r n (octets_all s f) reads).1

    again : written r s out ≡ written_again s out
    unfolding written written_again bind
    again =
        let h = (read_encodable s r n (octets_all s f) reads).0 in
        guard_yes (writable r s) 20 0 _ (and_both (well_shaped_record r) _ h.shaped h.inside)
        ∙ guard_yes (leb (length (encoding_of r s)) extension_bytes) 22 0 _ (le→leb (length (encoding_of r s)) extension_bytes h.short)
        ∙ rw (same, places_read r s n (octets_all s f) (sym reads.is)) refl

    pub wrote_again : (v : Answer ℕ) → v ≡ written r s out → v ≡ written_again s out
    wrote_again v e = e ∙ again

    pub left_again : (after : List ℕ) → after ≡ left_by r s out → after ≡ left (written_again s out) out 0 s
    left_again after e = e ∙ rw (again, same) refl

-- ---- read(write(r)) equals r

module _ (r : Record) (s out after : List ℕ) where
  pub write_refused : (k p : ℕ) → refused k p ≡ written r s out → ReadAgain r s (written r s out) after (refused k p) empty_record
  write_refused k p e = rw (← e) (refl, refl)

  module _ (output : after ≡ left_by r s out) (f : (k : ℕ) → Fits w8 (get_or s k 0)) (n : ℕ) (answer : got n ≡ written r s out) where
    writes : Writes r s out (got n) after
    writes = record { answer = answer; output = output }

    pub wrote_fits : n ≤ length after
    wrote_fits =
        let p = wrote_encodable r s out after n (octets_all s f) writes in
        let q : after ≡ left (got n) out 0 (encoding_of r s) = output ∙ ap (λ (a : Answer ℕ). left a out 0 (encoding_of r s)) (sym answer) in
        rw (q, length-splice out 0 (encoding_of r s) (omega (arith, p.1))) (omega (arith, p.1, p.2))

    pub read_back : (o : Answer ℕ) (g : Record) → Reads (take n after) o g → ReadAgain r s (written r s out) after o g
    read_back o g i = rw (← answer) (let e = read_of_write r g s out after n o (octets_all s f) writes i in (i, e.0, e.1))

    -- the same of the code's answer
    pub reads_again : (a : Result Reading Refused) → Answered (take n after) a → AnsweredAgain r s (written r s out) after a
    reads_again (Ok a) i = read_back (got a.elements) a.said i
    reads_again (Err e) i = read_back (refused (number_of e.0) e.1) empty_record i
