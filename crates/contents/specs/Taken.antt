-- What was taken from a holder's bytes, as the code answers it, in the definitions' terms: s are the bytes, `end` the holder's end.
use Rattle.std.specs.Prelude.{List, ℕ, ◌<◌, ◌≤◌, Result, Ok, Err, IfOk, eqb}
use Rattle.std.proofs.Math.Seq.{slice}
use Rattle.answer.specs.Answer.{Answer, answer_of, pick}
use Rattle.answer.specs.declared.Refusal.{Refusal}
use Rattle.answer.specs.declared.Refused.{Refused}
use Rattle.codec.specs.Octets as codec
use Rattle.contents.specs.declared.taken.Taken.{Taken}

-- a value as f sees it, the next place and the rest; or a refusal
abbrev pub of_taken : {V A : Type 0} → (V → A) → List ℕ → ℕ → Result (Taken V) Refused → Answer (codec.Taken A)
of_taken f s end = answer_of (λ w. codec.taken (f w.val) w.next (slice w.next end s))

-- what was read goes on and stays inside
abbrev pub TakenInside : {V : Type 0} → ℕ → ℕ → Result (Taken V) Refused → Type 0
TakenInside at end r = IfOk r (λ w. (at < w.next) × (w.next ≤ end))

-- the same, and P holds of what was read
abbrev pub TakenWith : {V : Type 0} → (V → Type 0) → ℕ → ℕ → Result (Taken V) Refused → Type 0
TakenWith P at end r = IfOk r (λ w. (at < w.next) × ((w.next ≤ end) × P w.val))

-- what is all of a holder that stops at `end`; else what stands after it is an extra element
abbrev pub exactly_taken : {V : Type 0} → Taken V → ℕ → Result V Refused
exactly_taken w end = pick (eqb w.next end) (Ok w.val) (Err (record { 0 = Refusal.WrongElement; 1 = w.next }))
