-- The first six of a KeyDescription's eight, in pairs, and what the answers for them say in the definitions' terms.
use Rattle.std.specs.Prelude.{◌≡◌, List, ℕ, ◌≤◌, T, Result}
use Rattle.answer.specs.Answer.{Answer, got, bind}
use Rattle.answer.specs.declared.Refused.{Refused}
use Rattle.codec.specs.Octets as codec
use Rattle.codec.specs.Element.{both}
use Rattle.schema.specs.Table.{known_version, level_top, top32}
use Rattle.schema.specs.Content.{FieldWith, Place, place_at}
use Rattle.schema.specs.Decode.{read_integer, read_enumerated, read_octets, read_list, read_version, Eight, as_place}
use Rattle.records.specs.declared.Security.{Security}
use Rattle.contents.specs.Taken.{of_taken, TakenWith}
use Rattle.contents.specs.Leaf.{PartBefore}
use Rattle.contents.specs.declared.taken.Taken.{Taken}
use Rattle.contents.specs.declared.head.Names.{Names}
use Rattle.contents.specs.declared.head.Head.{Head}

-- what the six say
pub record Heading : Type 0 where
  pub version : ℕ
  pub level : ℕ
  pub keymint : ℕ
  pub keymint_level : ℕ
  pub challenge : Place
  pub unique : Place

abbrev pub heading : ℕ × ℕ → ℕ × ℕ → Place × Place → Heading
heading a k n = record { version = a.0; level = a.1; keymint = k.0; keymint_level = k.1; challenge = n.0; unique = n.1 }

-- the same of the code's
abbrev pub heading_of : Head → Heading
heading_of h =
    heading (h.attestation.version, h.attestation.level) (h.keymint.version, h.keymint.level) (place_at h.challenge.start h.challenge.len, place_at h.unique.start h.unique.len)

-- with the two lists they are the eight
abbrev pub eight_with : Heading → List (FieldWith Place) → List (FieldWith Place) → Eight Place
eight_with h s w = (h.version, (h.level, (h.keymint, (h.keymint_level, (h.challenge, (h.unique, (s, w)))))))

-- the two lists that follow the six, and with them the eight
abbrev pub lists_after : Heading → ℕ → List ℕ → Answer (codec.Taken (Eight Place))
lists_after h p bs =
    bind (read_list as_place h.version p bs) λ s.
    bind (read_list as_place h.version s.next s.rest) λ w.
    got (codec.taken (eight_with h s.val w.val) w.next w.rest)

-- "version INTEGER, level ENUMERATED"
unfoldable pub read_attestation : ℕ → List ℕ → Answer (codec.Taken (ℕ × ℕ))
read_attestation = both read_version λ v. read_enumerated (level_top v)

-- "KeyMint version INTEGER, level ENUMERATED", where the attestation's version is v
unfoldable pub read_keymint : ℕ → ℕ → List ℕ → Answer (codec.Taken (ℕ × ℕ))
read_keymint v = both (read_integer top32) λ k. read_enumerated (level_top v)

-- "challenge OCTET STRING, uniqueId OCTET STRING"
unfoldable pub read_names : ℕ → List ℕ → Answer (codec.Taken (Place × Place))
read_names = both (read_octets as_place) λ c. read_octets as_place

-- a level, after the version v
unfoldable pub level_after : ℕ → ℕ → ℕ → List ℕ → Answer (codec.Taken (ℕ × ℕ))
level_after v top p bs = bind (read_enumerated top p bs) λ w. got (codec.taken (v, w.val) w.next w.rest)

-- what follows the attestation's version and level
unfoldable pub head_after : ℕ × ℕ → ℕ → List ℕ → Answer (codec.Taken Heading)
head_after a p bs =
    bind (read_keymint a.0 p bs) λ k.
    bind (read_names k.next k.rest) λ n.
    got (codec.taken (heading a k.val n.val) n.next n.rest)

-- the six, one after the other
unfoldable pub read_head : ℕ → List ℕ → Answer (codec.Taken Heading)
read_head p bs = bind (read_attestation p bs) λ a. head_after a.val a.next a.rest

module _ (s : List ℕ) (end : ℕ) where
  abbrev pub of_secured : Result (Taken Security) Refused → Answer (codec.Taken (ℕ × ℕ))
  of_secured = of_taken (λ (g : Security). (g.version, g.level)) s end

  abbrev pub of_names : Result (Taken Names) Refused → Answer (codec.Taken (Place × Place))
  of_names = of_taken (λ (n : Names). (place_at n.challenge.start n.challenge.len, place_at n.unique.start n.unique.len)) s end

  abbrev pub of_head : Result (Taken Head) Refused → Answer (codec.Taken Heading)
  of_head = of_taken heading_of s end

-- a version of the schema, within its top
abbrev pub KnownVersion : ℕ → Type 0
KnownVersion v = T (known_version v) × (v ≤ top32)

-- what was read goes on and stays inside
module _ (at end : ℕ) where
  abbrev pub VersionInside : Result (Taken ℕ) Refused → Type 0
  VersionInside = TakenWith KnownVersion at end

  abbrev pub LevelInside : ℕ → Result (Taken Security) Refused → Type 0
  LevelInside v = TakenWith (λ g. g.version ≡ v) at end

  abbrev pub AttestationInside : Result (Taken Security) Refused → Type 0
  AttestationInside = TakenWith (λ g. KnownVersion g.version) at end

  abbrev pub NamesInside : Result (Taken Names) Refused → Type 0
  NamesInside = TakenWith (λ n. PartBefore end n.challenge × PartBefore end n.unique) at end

  abbrev pub HeadInside : Result (Taken Head) Refused → Type 0
  HeadInside = TakenWith (λ h. (PartBefore end h.challenge × PartBefore end h.unique) × KnownVersion h.attestation.version) at end
