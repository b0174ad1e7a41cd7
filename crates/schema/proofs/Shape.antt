-- What is good to encode is just what is well-shaped, of octets, and short enough: every length inside an encoding is at
-- most that of the whole. Assumes nothing.
use mathlib.Core.Option.{Option, none, some}
use mathlib.Core.List.{List, [], ◌∷◌, ◌++◌}
use Prim.Native.Nat.{ℕ, ◌<◌, ◌≤◌}
use native.Mathlib.Omega.{arith}
use lib.ListN.{length, length-append}
use lib.Dec.{T, ltb, lt→ltb, ltb→lt}
use Rattle.answer.proofs.Logic.{and_left, and_right, and_both}
use Rattle.codec.specs.Octets.{Octets}
use Rattle.codec.specs.Header.{Identifier, identifier, length_good, element_octets}
use Rattle.codec.specs.Integer.{integer_element}
use Rattle.codec.specs.Element.{chain_octets}
use Rattle.codec.proofs.Element.{element-length}
use Rattle.schema.specs.Content.{Root, Value, num, nul, oct, nums, trust, Field, Content, enumerated_element, octets_element, boolean_element, hash_element, root_content, value_element, field_element, list_element, key_description, encode, well_shaped}
use Rattle.schema.specs.Parts.{HashIs, ValueIs, FieldsAre, ContentOctets}
use Rattle.schema.proofs.Codecs.{are_octets, are_octets_lem, octets_small, hash_small, root_small, value_small, field_small, fields_small, list_small, small, good}
use Rattle.codec.specs.Limits.{extension_bytes}

-- ---- from what is good

octets_of_lem : (bs : List ℕ) → T (are_octets bs) → Octets bs
octets_of_lem [] t = tt
octets_of_lem (x ∷ bs) t = (ltb→lt x 256 (and_left (ltb x 256) _ t), octets_of_lem bs (and_right (ltb x 256) _ t))

pub octets-from : (bs : List ℕ) → T (octets_small bs) → Octets bs
octets-from bs t = octets_of_lem bs (and_left (are_octets bs) _ t)

hash-from : (o : Option (List ℕ)) → T (hash_small o) → HashIs Octets o
hash-from none t = tt
hash-from (some bs) t = octets-from bs t

value-from : (x : Value) → T (value_small x) → ValueIs Octets x
value-from (num n) t = tt
value-from nul t = tt
value-from (oct bs) t = octets-from bs t
value-from (nums l) t = tt
value-from (trust r) t = (octets-from r.key (and_left (octets_small r.key) _ t), hash-from r.hash (and_left (hash_small r.hash) _ (and_right (octets_small r.key) _ t)))

fields_from_lem : (fs : List Field) → T (fields_small fs) → FieldsAre Octets fs
fields_from_lem [] t = tt
fields_from_lem (f ∷ fs) t = (value-from f.value (and_left (value_small f.value) _ (and_left (field_small f) _ t)), fields_from_lem fs (and_right (field_small f) _ t))

list_from_lem : (fs : List Field) → T (list_small fs) → FieldsAre Octets fs
list_from_lem fs t = fields_from_lem fs (and_left (fields_small fs) _ t)

pub good_shaped : (c : Content) → T (good c) → T (well_shaped c)
good_shaped c t = and_left (well_shaped c) _ t

pub good_octets : (c : Content) → T (good c) → ContentOctets c
good_octets c t =
    let t₁ = and_right (well_shaped c) _ t in
    let t₂ = and_right (octets_small c.challenge) _ t₁ in
    let t₃ = and_right (octets_small c.unique) _ t₂ in
    let t₄ = and_right (list_small c.software) _ t₃ in (
      octets-from c.challenge (and_left (octets_small c.challenge) _ t₁),
      octets-from c.unique (and_left (octets_small c.unique) _ t₂),
      list_from_lem c.software (and_left (list_small c.software) _ t₃),
      list_from_lem c.hardware (and_left (list_small c.hardware) _ t₄),
    )

-- ---- to what is good: an encoding that is short has short parts

inside : (i : Identifier) (c : List ℕ) → length (element_octets i c) < 65536 → length c < 65536
inside i c h = omega (arith, element-length i c)

good_length : (c : List ℕ) → length c < 65536 → T (length_good (length c))
good_length c h = lt→ltb (length c) 65536 h

left_of : (xs ys : List ℕ) → length (xs ++ ys) < 65536 → length xs < 65536
left_of xs ys h = omega (arith, length-append xs ys)

right_of : (xs ys : List ℕ) → length (xs ++ ys) < 65536 → length ys < 65536
right_of xs ys h = omega (arith, length-append xs ys)

octets-to : (bs : List ℕ) → Octets bs → length (octets_element bs) < 65536 → T (octets_small bs)
unfolding octets_element
octets-to bs o h = and_both (are_octets bs) _ (are_octets_lem bs o) (good_length bs (inside (identifier 0 4) bs h))

hash-to : (o : Option (List ℕ)) → HashIs Octets o → length (hash_element o) < 65536 → T (hash_small o)
unfolding hash_element
hash-to none o h = tt
hash-to (some bs) o h = octets-to bs o h

root-to : (r : Root) → Octets r.key → HashIs Octets r.hash → length (root_content r) < 65536 → T (root_small r)
unfolding root_content
root-to r o u h =
    let h₁ = right_of (octets_element r.key) _ h in
    let h₂ = right_of (boolean_element r.locked) _ h₁ in
    let h₃ = right_of (enumerated_element r.state) _ h₂ in
    and_both (octets_small r.key) _ (octets-to r.key o (left_of (octets_element r.key) _ h)) (and_both (hash_small r.hash) _ (hash-to r.hash u h₃) (good_length (root_content r) h))

value-to : (x : Value) → ValueIs Octets x → length (value_element x) < 65536 → T (value_small x)
unfolding value_element
value-to (num n) o h = tt
value-to nul o h = tt
value-to (oct bs) o h = octets-to bs o h
value-to (nums l) o h = good_length (chain_octets integer_element l) (inside (identifier 1 17) (chain_octets integer_element l) h)
value-to (trust r) o h = root-to r o.0 o.1 (inside (identifier 1 16) (root_content r) h)

field-to : (f : Field) → ValueIs Octets f.value → length (field_element f) < 65536 → T (field_small f)
unfolding field_element
field-to f o h =
    let h₁ = inside (identifier 5 f.number) (value_element f.value) h in
    and_both (value_small f.value) _ (value-to f.value o h₁) (good_length (value_element f.value) h₁)

fields_to : (fs : List Field) → FieldsAre Octets fs → length (chain_octets field_element fs) < 65536 → T (fields_small fs)
fields_to [] o h = tt
fields_to (f ∷ fs) o h =
    and_both (field_small f) _ (field-to f o.0 (left_of (field_element f) (chain_octets field_element fs) h)) (fields_to fs o.1 (right_of (field_element f) (chain_octets field_element fs) h))

list_to : (fs : List Field) → FieldsAre Octets fs → length (list_element fs) < 65536 → T (list_small fs)
unfolding list_element
list_to fs o h =
    let h₁ = inside (identifier 1 16) (chain_octets field_element fs) h in
    and_both (fields_small fs) _ (fields_to fs o h₁) (good_length (chain_octets field_element fs) h₁)

small_to : (c : Content) → ContentOctets c → length (key_description c) < 65536 → T (small c)
unfolding key_description
small_to c o h =
    let h₁ = right_of (integer_element c.version) _ h in
    let h₂ = right_of (enumerated_element c.level) _ h₁ in
    let h₃ = right_of (integer_element c.keymint) _ h₂ in
    let h₄ = right_of (enumerated_element c.keymint_level) _ h₃ in
    let h₅ = right_of (octets_element c.challenge) _ h₄ in
    let h₆ = right_of (octets_element c.unique) _ h₅ in
    and_both (octets_small c.challenge) _ (octets-to c.challenge o.0 (left_of (octets_element c.challenge) _ h₄))
    (and_both (octets_small c.unique) _ (octets-to c.unique o.1 (left_of (octets_element c.unique) _ h₅))
    (and_both (list_small c.software) _ (list_to c.software o.2 (left_of (list_element c.software) (list_element c.hardware) h₆))
    (and_both (list_small c.hardware) _ (list_to c.hardware o.3 (right_of (list_element c.software) (list_element c.hardware) h₆))
    (good_length (key_description c) h))))

pub shaped_good : (c : Content) → T (well_shaped c) → ContentOctets c → length (encode c) ≤ extension_bytes → T (good c)
unfolding encode
shaped_good c t o h = and_both (well_shaped c) (small c) t (small_to c o (inside (identifier 1 16) (key_description c) (omega arith)))
