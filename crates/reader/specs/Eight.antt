-- What stands around a KeyDescription's two lists, as the code answers it, in the definitions' terms.
use Rattle.std.specs.Prelude.{◌≡◌, List, ℕ, ◌≤◌, eqb, length, Result, Ok, Err}
use Rattle.std.proofs.Math.Seq.{slice}
use Rattle.answer.specs.Answer.{Answer, got, refused, guard, bind}
use Rattle.answer.specs.Refusal.{number_of, spare_bytes, wrong_element}
use Rattle.answer.specs.declared.Refused.{Refused}
use Rattle.schema.specs.Content.{Places}
use Rattle.schema.specs.Decode.{eight_from, read_places}
use Rattle.records.specs.Empty.{empty_list}
use Rattle.records.specs.declared.Record.{Record}
use Rattle.contents.specs.Head.{Heading, heading_of, lists_after, HeadInside}
use Rattle.contents.specs.declared.head.Head.{Head}
use Rattle.reader.specs.declared.eight.Opening.{Opening}

-- what is read of s after the six and a first pass of n elements: the two lists from p on, then 9 for more before their
-- holder's end at `stop`, then 7 for more after it
unfoldable pub lists_from : List ℕ → ℕ → Heading → ℕ → ℕ → Answer (Places × ℕ)
lists_from s n h p stop =
    bind (lists_after h p (slice p stop s)) λ w.
    guard (eqb (length w.rest) 0) wrong_element w.next
    (guard (eqb stop (length s)) spare_bytes stop (got (eight_from w.val, n)))

-- all before the lists was read, so that what they and the end say is the answer
pub record ListsAt (s : List ℕ) (n : ℕ) (h : Head) (p stop : ℕ) : Type 0 where
  pub fits : stop ≤ length s
  pub inside : HeadInside 0 stop (Ok (record { val = h; next = p }))
  pub reads : read_places s ≡ lists_from s n (heading_of h) p stop

abbrev pub Opens : List ℕ → Result Opening Refused → Type 0
Opens s (Ok o) = ListsAt s o.elements o.head o.next o.stop
Opens s (Err r) = read_places s ≡ refused (number_of r.0) r.1

-- a record of the six, with no field
abbrev pub record_with : Head → Record
record_with h = record { attestation = h.attestation; keymint = h.keymint; challenge = h.challenge; unique = h.unique; software = empty_list; hardware = empty_list }
