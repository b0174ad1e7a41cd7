-- Sizes of encodings, found before a byte is written. The octet parts of a record may lie over each other, so that their
-- lengths could sum past 2^64: a size is counted up to 8,193, which stands for every length over 8,192.
use Rattle.std.specs.Prelude.{◌≡◌, List, ◌++◌, ℕ, ◌+◌, ◌-◌, length}
use Rattle.codec.specs.Limits.{extension_bytes}
use Rattle.codec.specs.Shortest.{length_octets}
use Rattle.codec.specs.Header.{identifier, identifier_octets}
use Rattle.codec.specs.Integer.{integer_element}
use Rattle.codec.specs.Element.{chain_octets}
use Rattle.schema.specs.Content.{enumerated_element, octets_element, field_element, key_description, encode}
use Rattle.records.specs.declared.Part.{Part}
use Rattle.records.specs.declared.Record.{Record}
use Rattle.records.specs.declared.Security.{Security}
use Rattle.records.specs.Content.{octets_at, part_of, fields_of, content_of}
use Rattle.sizes.specs.declared.Sizes.{Sizes}

-- one more than the limit of bytes
abbrev pub past_limit : ℕ
past_limit = extension_bytes + 1

-- the lesser of n and that
abbrev pub capped : ℕ → ℕ
capped n = n - (n - past_limit)

-- of an element with this tag number, of any form, and so many content octets
unfoldable pub element_size : ℕ → ℕ → ℕ
element_size number body = capped (length (identifier_octets (identifier 0 number)) + length (length_octets body) + body)

-- n is the length of xs, as far as it is counted
pub record Sized (xs : List ℕ) (n : ℕ) : Type 0 where
  pub is : n ≡ capped (length xs)

-- a version and its level, as the encoding has them
unfoldable pub security_octets : ℕ → ℕ → List ℕ
security_octets version level = integer_element version ++ enumerated_element level

-- the six elements before the lists, from both versions with their levels
unfoldable pub head_octets : List ℕ → List ℕ → List ℕ → List ℕ → List ℕ
head_octets attestation keymint challenge unique = attestation ++ (keymint ++ (octets_element challenge ++ octets_element unique))

-- the same of a record's values, whose parts lie in s
abbrev pub head_elements : List ℕ → Security → Security → Part → Part → List ℕ
head_elements s attestation keymint challenge unique =
    head_octets
    (security_octets attestation.version attestation.level)
    (security_octets keymint.version keymint.level)
    (part_of s challenge)
    (part_of s unique)

-- each list's fields, the eight elements, and the whole
pub record Measured (r : Record) (s : List ℕ) (z : Sizes) : Type 0 where
  pub software : Sized (chain_octets field_element (fields_of r.software (octets_at s))) z.software
  pub hardware : Sized (chain_octets field_element (fields_of r.hardware (octets_at s))) z.hardware
  pub eight : Sized (key_description (content_of r s)) z.eight
  pub whole : Sized (encode (content_of r s)) z.whole
