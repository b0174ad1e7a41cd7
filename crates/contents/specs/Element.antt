-- An element opened: its identifier, its content's place and octets. The schema's readers are this and then their content
-- (`element_open` in proofs/Open.antt).
use Rattle.std.specs.Prelude.{List, ℕ, ◌<◌, ◌≤◌, Option, Result, IfOk, IfSome}
use Rattle.std.proofs.Math.Seq.{slice}
use Rattle.answer.specs.Answer.{Answer, got, answer_of}
use Rattle.answer.specs.Refusal.{wrong_element}
use Rattle.answer.specs.declared.Refused.{Refused}
use Rattle.codec.specs.Octets.{Taken, taken}
use Rattle.codec.specs.Header.{Identifier, identifier}
use Rattle.codec.specs.Element.{element, tagged}
use Rattle.der.specs.Short.{HeaderIs}
use Rattle.contents.specs.declared.element.Element.{Element}
use Rattle.contents.specs.declared.element.Span.{Span}

pub record Opened : Type 0 where
  pub id : Identifier
  pub body : ℕ
  pub octets : List ℕ

abbrev pub opening : Identifier → ℕ → List ℕ → Opened
opening i q cs = record { id = i; body = q; octets = cs }

unfoldable pub opened : ℕ → List ℕ → Answer (Taken Opened)
opened = element wrong_element (λ i p q cs. got (opening i q cs))

-- s are the bytes, `end` the holder's end
abbrev pub of_element : List ℕ → ℕ → Result Element Refused → Answer (Taken Opened)
of_element s end = answer_of (λ e. taken (opening (identifier e.form e.number) e.body (slice e.body e.stop s)) e.stop (slice e.stop end s))

abbrev pub ElementInside : ℕ → ℕ → Result Element Refused → Type 0
ElementInside at end r = IfOk r (λ e. (at < e.body) × ((e.body ≤ e.stop) × (e.stop ≤ end)))

-- an element of just this identifier: its content's place and octets
unfoldable pub opened_as : ℕ → ℕ → ℕ → List ℕ → Answer (Taken (ℕ × List ℕ))
opened_as f n = tagged wrong_element (identifier f n) (λ p q cs. got (q, cs))

abbrev pub of_tagged : List ℕ → ℕ → Result Span Refused → Answer (Taken (ℕ × List ℕ))
of_tagged s end = answer_of (λ c. taken (c.body, slice c.body c.stop s) c.stop (slice c.stop end s))

abbrev pub TaggedInside : ℕ → ℕ → Result Span Refused → Type 0
TaggedInside at end r = IfOk r (λ c. (at < c.body) × ((c.body ≤ c.stop) × (c.stop ≤ end)))

-- by the short way; of none nothing is said, and the long way follows
abbrev pub LiesAt : List ℕ → ℕ → ℕ → ℕ → ℕ → Option Span → Type 0
LiesAt s at end form number r = IfSome r (λ c. HeaderIs s at end form number c.body c.stop)
