-- What the answers for field 704's content say in the definitions' terms, and that content from each of its members on.
use Rattle.std.specs.Prelude.{◌≡◌, Bool, true, false, List, ℕ, ◌+◌, ◌≤◌, Option, Some, None, Result, IfOk}
use Rattle.std.proofs.Math.Option as Math
use Rattle.std.proofs.Math.Option.{none, some}
use Rattle.answer.specs.Answer.{Answer, answer_of, pick}
use Rattle.answer.specs.Refusal.{wrong_element}
use Rattle.answer.specs.declared.Refused.{Refused}
use Rattle.codec.specs.Octets as codec
use Rattle.codec.specs.Element.{exactly}
use Rattle.schema.specs.Content.{Place, place_at}
use Rattle.schema.specs.Decode.{RootParts, root_parts, as_place}
use Rattle.records.specs.declared.RootOfTrust.{RootOfTrust}
use Rattle.records.specs.declared.Part.{Part}
use Rattle.contents.specs.Taken.{of_taken, TakenWith}
use Rattle.contents.specs.Leaf.{PartBefore}
use Rattle.contents.specs.declared.taken.Taken.{Taken}

-- key, locked, state and hash, as the definitions nest them
abbrev pub Trust : Type 0
Trust = RootParts Place

abbrev pub trust_of : RootOfTrust → Trust
trust_of r = (place_at r.key.start r.key.len, (r.locked, (r.state, pick r.hashed (some (place_at r.hash.start r.hash.len)) none)))

abbrev pub of_trust : Result RootOfTrust Refused → Answer Trust
of_trust = answer_of trust_of

abbrev pub of_root : List ℕ → ℕ → Result (Taken RootOfTrust) Refused → Answer (codec.Taken Trust)
of_root = of_taken trust_of

-- a part where there is one
abbrev pub place_of : Option Part → Math.Option Place
place_of (Some p) = some (place_at p.start p.len)
place_of None = none

abbrev pub of_hash : List ℕ → ℕ → Result (Taken (Option Part)) Refused → Answer (codec.Taken (Math.Option Place))
of_hash = of_taken place_of

-- "content, then 9 for an extra element": the whole content, and what is left of it after what was read
unfoldable pub trust_from : Bool → ℕ → List ℕ → Answer Trust
trust_from h = exactly wrong_element (root_parts as_place h)

-- the hash is there just where the version has one; else its part is empty, at 0
abbrev pub HashedAs : Bool → RootOfTrust → Type 0
HashedAs true r = r.hashed ≡ true
HashedAs false r = (r.hashed ≡ false) × (r.hash ≡ record { start = 0; len = 0 })

-- both parts lie before the end
abbrev pub PartsIn : ℕ → RootOfTrust → Type 0
PartsIn end r = (r.key.start + r.key.len ≤ end) × (r.hash.start + r.hash.len ≤ end)

abbrev pub HashIs : ℕ → Bool → Option Part → Type 0
HashIs end true (Some p) = PartBefore end p
HashIs end true None = ⊥
HashIs end false (Some p) = ⊥
HashIs end false None = Unit {0}

abbrev pub HashInside : ℕ → Bool → Result (Taken (Option Part)) Refused → Type 0
HashInside end h r = IfOk r (λ w. (w.next ≤ end) × HashIs end h w.val)

abbrev pub RootAt : ℕ → Bool → Result RootOfTrust Refused → Type 0
RootAt end h r = IfOk r (λ t. PartsIn end t × HashedAs h t)

abbrev pub RootInside : ℕ → ℕ → Bool → Result (Taken RootOfTrust) Refused → Type 0
RootInside at end h = TakenWith (λ t. PartsIn end t × HashedAs h t) at end
