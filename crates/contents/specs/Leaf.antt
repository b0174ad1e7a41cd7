-- What the leaves' answers say in the definitions' terms: s are the bytes, `end` the holder's end.
use Rattle.std.specs.Prelude.{◌≡◌, Bool, List, ℕ, ◌+◌, ◌<◌, ◌≤◌, leb, get_or, Option, Some, None, Result, IfSome}
use Rattle.answer.specs.Answer.{Answer, got, refused, guard}
use Rattle.answer.specs.Refusal.{wrong_element, bad_content}
use Rattle.answer.specs.declared.Refused.{Refused}
use Rattle.codec.specs.Octets as codec
use Rattle.codec.specs.Integer.{integer_of}
use Rattle.codec.specs.Header.{identifier}
use Rattle.codec.specs.Element.{tagged}
use Rattle.der.specs.Short.{HeaderIs}
use Rattle.schema.specs.Content.{Place, place_at}
use Rattle.records.specs.declared.Part.{Part}
use Rattle.contents.specs.Taken.{of_taken, TakenWith}
use Rattle.contents.specs.declared.taken.Taken.{Taken}

-- a number within its top, or refusal 10 at p
unfoldable pub within_top : ℕ → ℕ → ℕ → Answer ℕ
within_top top p n = guard (leb n top) bad_content p (got n)

abbrev pub of_value : ℕ → Option ℕ → Answer ℕ
of_value p (Some n) = got n
of_value p None = refused 10 p

-- INTEGER (2) and ENUMERATED (10) alike, by the tag number
unfoldable pub read_number : ℕ → ℕ → ℕ → List ℕ → Answer (codec.Taken ℕ)
read_number tag top = tagged wrong_element (identifier 0 tag) (λ p q bs. integer_of top bad_content p bs)

-- a number below 128, in one content octet; of none nothing is said, and the long way follows
abbrev pub ShortNumber : List ℕ → ℕ → ℕ → ℕ → Option ℕ → Type 0
ShortNumber s at end tag r = IfSome r (λ n. (n < 128) × HeaderIs s at end 0 tag (at + 2) (at + 3) × (get_or s (at + 2) 0 ≡ n))

module _ (s : List ℕ) (end : ℕ) where
  abbrev pub of_number : Result (Taken ℕ) Refused → Answer (codec.Taken ℕ)
  of_number = of_taken (λ n. n) s end

  abbrev pub of_boolean : Result (Taken Bool) Refused → Answer (codec.Taken Bool)
  of_boolean = of_taken (λ b. b) s end

  abbrev pub of_null : Result (Taken (Unit {0})) Refused → Answer (codec.Taken (Unit {0}))
  of_null = of_taken (λ u. u) s end

  abbrev pub of_octets : Result (Taken Part) Refused → Answer (codec.Taken Place)
  of_octets = of_taken (λ (p : Part). place_at p.start p.len) s end

-- a part that lies before the end
abbrev pub PartBefore : ℕ → Part → Type 0
PartBefore end p = p.start + p.len ≤ end

abbrev pub OctetsInside : ℕ → ℕ → Result (Taken Part) Refused → Type 0
OctetsInside at end r = TakenWith (PartBefore end) at end r
