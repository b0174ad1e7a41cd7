-- The quick look of the first pass: an element that holds none, or just one that holds none, is taken whole. Where it is, that
-- is what `walk_element` gives; where not, nothing is said and the element is walked.
use Rattle.std.specs.Prelude.{◌≡◌, List, ℕ, ◌%◌, ◌<◌, ◌≤◌, Option, IfSome}
use Rattle.std.proofs.Math.Seq.{slice}
use Rattle.answer.specs.Answer.{got}
use Rattle.codec.specs.Octets.{taken}
use Rattle.codec.specs.Tree.{walk_element}
use Rattle.der.specs.Short.{HeaderIs}
use Rattle.der.specs.Walk.{counted}
use Rattle.der.specs.declared.walk.Past.{Past}

-- an element that holds none, from `at` to x
abbrev pub PlainTo : List ℕ → ℕ → ℕ → ℕ → Type 0
PlainTo s at end x = (form number b : ℕ) × HeaderIs s at end form number b x × (form % 2 ≡ 0)

-- an element that holds just one, which holds none
abbrev pub SingleTo : List ℕ → ℕ → ℕ → ℕ → Type 0
SingleTo s at end x = (form number b : ℕ) × HeaderIs s at end form number b x × (form % 2 ≡ 0 → ⊥) × (b < x) × PlainTo s b x x

abbrev pub QuickIs : List ℕ → ℕ → ℕ → ℕ → ℕ → ℕ → Option Past → Type 0
QuickIs s most depth met at end r =
    IfSome r (λ p. (got (taken p.met p.next (slice p.next end s)) ≡ counted met (walk_element most depth met at (slice at end s))) × (at < p.next) × (p.next ≤ end))
