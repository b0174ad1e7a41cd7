-- The whole read: what the opening, the two lists and the end say together, one law for each answer. Assumes nothing.
use mathlib.Core.Path.{◌≡◌, refl, sym, ◌∙◌}
use mathlib.Core.List.{List}
use Prim.Native.Nat.{ℕ, ◌+◌, ◌≤◌}
use native.Mathlib.Omega.{arith}
use lib.Dec.{eqb}
use mir.Val.{Fits}
use mir.Syntax.{w8}
use lib.ListN.{length, get_or}
use lib.Seq.{slice}
use borrow.Author.Tests.{eq-eqb, ne_eqb}
use Rattle.answer.specs.Answer.{got, refused, guard, bind}
use Rattle.codec.specs.Octets.{taken}
use Rattle.schema.specs.Content.{place_at}
use Rattle.schema.specs.Decode.{read_list, read_places, as_place}
use Rattle.records.specs.Content.{fields_of, places_of}
use Rattle.records.specs.Empty.{empty_record}
use Rattle.records.specs.declared.Record.{Record}
use Rattle.records.specs.declared.FieldList.{FieldList}
use Rattle.records.proofs.Made.{empty-made}
use Rattle.reader.specs.Inside.{ListIn}
use Rattle.reader.specs.Reading.{Reads}
use Rattle.reader.specs.Eight.{lists_from, ListsAt}
use Rattle.contents.specs.declared.head.Head.{Head}
use Rattle.reader.proofs.Bounds.{eight_in, accepted-sound, kept_made}
use Rattle.reader.proofs.Eights.{none_left}

-- what the bytes are refused with is answered, and says nothing
pub reads_no : (s : List ℕ) (k p : ℕ) → read_places s ≡ refused k p → Reads s (refused k p) empty_record
reads_no s k p e = record { is = sym e; empty = refl; sound = tt; made = empty-made }

module _ (s : List ℕ) (n : ℕ) (h : Head) (x stop : ℕ) (lists_at : ListsAt s n h x stop) where
  pub software_no : (k p : ℕ) → refused k p ≡ read_list as_place h.attestation.version x (slice x stop s) → Reads s (refused k p) empty_record
  unfolding lists_from bind
  software_no k p e = reads_no s k p (lists_at.reads ∙ rw (← e) refl)

  module _ (l : FieldList) (y : ℕ) (e : got (taken (fields_of l place_at) y (slice y stop s)) ≡ read_list as_place h.attestation.version x (slice x stop s)) where
    pub hardware_no : (k p : ℕ) → refused k p ≡ read_list as_place h.attestation.version y (slice y stop s) → Reads s (refused k p) empty_record
    unfolding lists_from bind
    hardware_no k p e₂ = reads_no s k p (lists_at.reads ∙ rw (← e, ← e₂) refl)

    module _ (g : FieldList) (z : ℕ) (e₂ : got (taken (fields_of g place_at) z (slice z stop s)) ≡ read_list as_place h.attestation.version y (slice y stop s)) (to : z ≤ stop) where
      abbrev said : Record
      said = record { attestation = h.attestation; keymint = h.keymint; challenge = h.challenge; unique = h.unique; software = l; hardware = g }

      -- 9 for more before the holder's end, and then 7 for more after it
      ends : read_places s ≡ guard (eqb z stop) 9 z (guard (eqb stop (length s)) 7 stop (got (places_of said, n)))
      unfolding lists_from bind
      ends = lists_at.reads ∙ rw (← e, ← e₂, none_left s z stop to lists_at.fits) refl

      pub end_extra : (z ≡ stop → ⊥) → Reads s (refused 9 z) empty_record
      unfolding guard
      end_extra q = reads_no s 9 z (ends ∙ rw (ne_eqb z stop q) refl)

      pub end_spare : z ≡ stop → (stop ≡ length s → ⊥) → Reads s (refused 7 stop) empty_record
      unfolding guard
      end_spare q w = reads_no s 7 stop (ends ∙ rw (eq-eqb z stop q, ne_eqb stop (length s) w) refl)

      pub read_is : z ≡ stop → stop ≡ length s → ((k : ℕ) → Fits w8 (get_or s k 0)) → ListIn (length s) l → ListIn (length s) g → Reads s (got n) said
      unfolding guard
      read_is q w octets k k₂ =
          let is : got (places_of said, n) ≡ read_places s = sym (ends ∙ rw (eq-eqb z stop q, eq-eqb stop (length s) w) refl) in
          let kept = eight_in (length s) h l g lists_parts k k₂ in
          record { is = is; empty = tt; sound = accepted-sound s octets (got n) said kept is; made = kept_made (length s) said kept }
        where
          lists_parts : (h.challenge.start + h.challenge.len ≤ length s) × (h.unique.start + h.unique.len ≤ length s)
          lists_parts = let i = lists_at.inside.1.1.0 in (omega (arith, i.0, lists_at.fits), omega (arith, i.1, lists_at.fits))
