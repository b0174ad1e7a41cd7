-- A good content's encoding is octets. Assumes nothing.
use mathlib.Core.Bool.{Bool, true, false, ◌&&◌}
use mathlib.Core.Option.{Option, none, some}
use mathlib.Core.List.{List, [], ◌∷◌, ◌++◌}
use Prim.Native.Nat.{ℕ, ◌≤◌}
use native.Mathlib.Omega.{arith}
use lib.Dec.{T, leb, ltb, leb→le}
use Rattle.answer.specs.Answer.{pick}
use Rattle.answer.proofs.Logic.{and_left, and_right, and_both}
use Rattle.codec.specs.Octets.{Octets}
use Rattle.codec.specs.Shortest.{integer_octets}
use Rattle.codec.specs.Header.{Identifier, identifier, identifier_good, element_octets}
use Rattle.codec.specs.Integer.{integer_element}
use Rattle.codec.specs.Element.{chain_octets}
use Rattle.codec.proofs.Encoded.{octets-append, integer_octets_lem, element-octets, chain-octets}
use Rattle.schema.specs.Table.{Kind, set, number32, number64, null, octets, root, Row, rows, known_version, held_in, find, level_top, top32, top64}
use Rattle.schema.specs.Content.{Root, Value, Field, Content, enumerated_element, octets_element, boolean_element, hash_element, root_content, value_element, field_element, list_element, key_description, encode, member_good, after_member, value_good, row_good, field_good, after_field, list_good, well_shaped}
use Rattle.schema.proofs.Codecs.{integer_small, boolean_small, are_octets, octets_small, hash_small, root_small, shaped, value_small, field_small, fields_small, list_small, small, good, version_small, level_small, field_below, fields_parts}
use Rattle.schema.proofs.Shape.{octets-from}

-- octets, as a record, so that which octets need not be written
record Spelt (bs : List ℕ) : Type 0 where
  octets : Octets bs

spelt : (bs : List ℕ) → Octets bs → Spelt bs
spelt bs o = record { octets = o }

then : {xs ys : List ℕ} → Spelt xs → Spelt ys → Spelt (xs ++ ys)
then {xs} {ys} o p = record { octets = octets-append xs ys o.octets p.octets }

number-octets : (i : Identifier) → T (identifier_good i) → (n : ℕ) → n ≤ top64 → Octets (element_octets i (integer_octets n))
number-octets i g n h = element-octets i (integer_octets n) g (integer_small n h) (integer_octets_lem n)

pub integer_element_lem : (n : ℕ) → n ≤ top64 → Octets (integer_element n)
unfolding integer_element
integer_element_lem = number-octets (identifier 0 2) tt

enumerated_element_lem : (n : ℕ) → n ≤ top64 → Octets (enumerated_element n)
unfolding enumerated_element
enumerated_element_lem = number-octets (identifier 0 10) tt

octets-element : (bs : List ℕ) → T (octets_small bs) → Octets (octets_element bs)
unfolding octets_element
octets-element bs t = element-octets (identifier 0 4) bs tt (and_right (are_octets bs) _ t) (octets-from bs t)

boolean_content : (b : Bool) → Octets (pick b (255 ∷ []) (0 ∷ []))
unfolding pick
boolean_content true = (omega arith, tt)
boolean_content false = (omega arith, tt)

boolean_element_lem : (b : Bool) → Octets (boolean_element b)
unfolding boolean_element
boolean_element_lem b = element-octets (identifier 0 1) _ tt (boolean_small b) (boolean_content b)

hash-element : (o : Option (List ℕ)) → T (hash_small o) → Octets (hash_element o)
unfolding hash_element
hash-element none t = tt
hash-element (some bs) t = octets-element bs t

root_content_lem : (r : Root) → r.state ≤ 3 → T (root_small r) → Octets (root_content r)
unfolding root_content
root_content_lem r h t =
    let t₁ = and_right (octets_small r.key) _ t in
    (then (spelt (octets_element r.key) (octets-element r.key (and_left (octets_small r.key) _ t)))
    (then (spelt (boolean_element r.locked) (boolean_element_lem r.locked))
    (then (spelt (enumerated_element r.state) (enumerated_element_lem r.state (omega arith)))
    (spelt (hash_element r.hash) (hash-element r.hash (and_left (hash_small r.hash) _ t₁)))))
    ).octets

value-element : (v : ℕ) (k : Kind) (x : Value) → T (value_good v k x) → T (value_small x) → Octets (value_element x)
unfolding value_element
value-element v number32 x t s = let u = shaped v number32 x t in rw (← u.1) (integer_element_lem u.0 (omega (arith, leb→le u.0 top32 u.2)))
value-element v number64 x t s = let u = shaped v number64 x t in rw (← u.1) (integer_element_lem u.0 (leb→le u.0 top64 u.2))
value-element v null x t s = rw (← shaped v null x t) (element-octets (identifier 0 5) [] tt tt tt)
value-element v octets x t s = let u = shaped v octets x t in rw (← u.1) (octets-element u.0 (rw (← u.1) at s))
value-element v set x t s =
    let u = shaped v set x t in
    rw (← u.1)
    (element-octets (identifier 1 17) (chain_octets integer_element u.0) tt (rw (← u.1) at s)
    (chain-octets integer_element member_good after_member (λ m n g. integer_element_lem n (omega (arith, leb→le n top32 (and_left (leb n top32) _ (and_right (ltb m.0 16) _ g))))) (0, 0) u.0 u.2))
value-element v root x t s =
    let u = shaped v root x t in
    let r = u.0 in
    let s₁ : T (root_small r) = rw (← u.1) at s in
    rw (← u.1)
    (element-octets (identifier 1 16) (root_content r) tt (and_right (hash_small r.hash) _ (and_right (octets_small r.key) _ s₁))
    (root_content_lem r (leb→le r.state 3 (and_left (leb r.state 3) _ u.2)) s₁))

row-element : (v : ℕ) (o : Option Row) (x : Value) → T (row_good v o x) → T (value_small x) → Octets (value_element x)
unfolding row_good
row-element v none x t s = absurd t
row-element v (some r) x t s = value-element v r.kind x (and_right (held_in v r) _ t) s

field-element : (v low : ℕ) (f : Field) → T (field_good v low f && field_small f) → Octets (field_element f)
unfolding field_element field_good
field-element v low f t =
    let g = and_left (field_good v low f) _ t in
    let s = and_right (field_good v low f) _ t in
    element-octets (identifier 5 f.number) (value_element f.value) (field_below v low f g) (and_right (value_small f.value) _ s)
    (row-element v (find rows f.number) f.value (and_right (leb low f.number) _ g) (and_left (value_small f.value) _ s))

list_element_lem : (v : ℕ) (fs : List Field) → T (list_good v fs) → T (list_small fs) → Octets (list_element fs)
unfolding list_element list_good
list_element_lem v fs t s =
    element-octets (identifier 1 16) (chain_octets field_element fs) tt (and_right (fields_small fs) _ s)
    (chain-octets field_element (λ low f. field_good v low f && field_small f) after_field (field-element v) 0 fs
    (rw (fields_parts v 0 fs) (and_both (list_good v fs) (fields_small fs) t (and_left (fields_small fs) _ s))))

-- the whole encoding
pub encode-octets : (c : Content) → T (good c) → Octets (encode c)
unfolding encode key_description well_shaped
encode-octets c g =
    let v : ℕ = c.version in
    let t = and_left (well_shaped c) (small c) g in
    let s = and_right (well_shaped c) (small c) g in
    let t₁ = and_right (known_version v) _ t in
    let t₂ = and_right (leb c.level (level_top v)) _ t₁ in
    let t₃ = and_right (leb c.keymint top32) _ t₂ in
    let t₄ = and_right (leb c.keymint_level (level_top v)) _ t₃ in
    let s₁ = and_right (octets_small c.challenge) _ s in
    let s₂ = and_right (octets_small c.unique) _ s₁ in
    let s₃ = and_right (list_small c.software) _ s₂ in
    element-octets (identifier 1 16) (key_description c) tt (and_right (list_small c.hardware) _ s₃)
    (then (spelt (integer_element v) (integer_element_lem v (omega (arith, version_small v (and_left (known_version v) _ t)))))
    (then (spelt (enumerated_element c.level) (enumerated_element_lem c.level (omega (arith, level_small v, leb→le c.level (level_top v) (and_left (leb c.level (level_top v)) _ t₁)))))
    (then (spelt (integer_element c.keymint) (integer_element_lem c.keymint (omega (arith, leb→le c.keymint top32 (and_left (leb c.keymint top32) _ t₂)))))
    (then (spelt (enumerated_element c.keymint_level) (enumerated_element_lem c.keymint_level (omega (arith, level_small v, leb→le c.keymint_level (level_top v) (and_left (leb c.keymint_level (level_top v)) _ t₃)))))
    (then (spelt (octets_element c.challenge) (octets-element c.challenge (and_left (octets_small c.challenge) _ s)))
    (then (spelt (octets_element c.unique) (octets-element c.unique (and_left (octets_small c.unique) _ s₁)))
    (then (spelt (list_element c.software) (list_element_lem v c.software (and_left (list_good v c.software) _ t₄) (and_left (list_small c.software) _ s₂)))
    (spelt (list_element c.hardware) (list_element_lem v c.hardware (and_right (list_good v c.software) _ t₄) (and_left (list_small c.hardware) _ s₃)))))))))
    ).octets
