-- The schema read over the bytes, in byte order, and the whole read (document 01, "Numbers of the reader and writer").
-- Every element is read by `element` or `tagged`, which refuse 9 at the holder's end where none is left. What becomes of an
-- OCTET STRING's content, given its place and its octets, is a parameter: `read` keeps the octets, `read_places` where they lie.
use Rattle.std.specs.Prelude.{Bool, true, false, ◌||◌, List, [], ◌∷◌, ℕ, length, ltb, leb, eqb}
use Rattle.std.proofs.Math.Option.{Option, none, some}
use Rattle.answer.specs.Answer.{Answer, got, refused, guard, bind}
use Rattle.answer.specs.Refusal.{spare_bytes, unknown_version, wrong_element, bad_content, not_in_version, field_order, member_order, too_many_members}
use Rattle.codec.specs.Octets.{Taken, taken}
use Rattle.codec.specs.Integer.{integer_of}
use Rattle.codec.specs.Header.{Identifier, identifier}
use Rattle.codec.specs.Element.{element, tagged, exactly, both, chain, under}
use Rattle.codec.specs.Tree.{nodes, first_pass}
use Rattle.schema.specs.Table.{Kind, set, number32, number64, null, octets, root, Row, rows, known_version, held_in, find, level_top, hashed, top32, top64}
use Rattle.schema.specs.Content.{RootWith, ValueWith, num, nul, oct, nums, trust, FieldWith, field, ContentWith, Content, Place, place_at, Places, after_member, after_field}
use Rattle.codec.specs.Limits.{extension_bytes, extension_depth, extension_elements}

-- ---- leaves: a content's own refusal is 10, at the element's start

unfoldable pub read_integer : ℕ → ℕ → List ℕ → Answer (Taken ℕ)
read_integer top = tagged wrong_element (identifier 0 2) (λ p q bs. integer_of top bad_content p bs)

unfoldable pub read_enumerated : ℕ → ℕ → List ℕ → Answer (Taken ℕ)
read_enumerated top = tagged wrong_element (identifier 0 10) (λ p q bs. integer_of top bad_content p bs)

-- "BOOLEAN is 00 or FF"
unfoldable pub boolean_of : ℕ → List ℕ → Answer Bool
boolean_of p [] = refused bad_content p
boolean_of p (a ∷ []) = guard (eqb a 0 || eqb a 255) bad_content p (got (eqb a 255))
boolean_of p (a ∷ b ∷ r) = refused bad_content p

unfoldable pub read_boolean : ℕ → List ℕ → Answer (Taken Bool)
read_boolean = tagged wrong_element (identifier 0 1) (λ p q bs. boolean_of p bs)

unfoldable pub null_of : ℕ → List ℕ → Answer (Unit {0})
null_of p [] = got tt
null_of p (a ∷ r) = refused bad_content p

unfoldable pub read_null : ℕ → List ℕ → Answer (Taken (Unit {0}))
read_null = tagged wrong_element (identifier 0 5) (λ p q bs. null_of p bs)

-- "A member: 14, 9, 10, 13": the state is how many stood before and the least that may follow
unfoldable pub read_member : ℕ × ℕ → ℕ → List ℕ → Answer (Taken ℕ)
read_member s p bs =
    guard (ltb s.0 16) too_many_members p
    (bind (read_integer top32 p bs) λ w.
    guard (leb s.1 w.val) member_order p (got w))

unfoldable pub read_set : ℕ → List ℕ → Answer (Taken (List ℕ))
read_set = tagged wrong_element (identifier 1 17) (λ p q bs. chain read_member after_member (0, 0) q bs)

-- "The version element gives 9, then 10, then 8"
unfoldable pub read_version : ℕ → List ℕ → Answer (Taken ℕ)
read_version = tagged wrong_element (identifier 0 2) λ p q bs. bind (integer_of top32 bad_content p bs) λ v. guard (known_version v) unknown_version p (got v)

-- ---- what holds an OCTET STRING: `keep` makes a value of its content's place and octets

abbrev pub RootParts : Type 0 → Type 0
RootParts O = O × (Bool × (ℕ × Option O))

abbrev pub root_from : {O : Type 0} → RootParts O → RootWith O
root_from t = record { key = t.0; locked = t.1.0; state = t.1.1.0; hash = t.1.1.1 }

abbrev pub Eight : Type 0 → Type 0
Eight O = ℕ × (ℕ × (ℕ × (ℕ × (O × (O × (List (FieldWith O) × List (FieldWith O)))))))

abbrev pub eight_from : {O : Type 0} → Eight O → ContentWith O
eight_from t = record {
  version = t.0;
  level = t.1.0;
  keymint = t.1.1.0;
  keymint_level = t.1.1.1.0;
  challenge = t.1.1.1.1.0;
  unique = t.1.1.1.1.1.0;
  software = t.1.1.1.1.1.1.0;
  hardware = t.1.1.1.1.1.1.1;
}

module _ {O : Type 0} (keep : ℕ → List ℕ → O) where
  unfoldable pub read_octets : ℕ → List ℕ → Answer (Taken O)
  read_octets = tagged wrong_element (identifier 0 4) (λ p q bs. got (keep q bs))

  -- the boot hash, where the version has one
  unfoldable pub read_hash : Bool → ℕ → List ℕ → Answer (Taken (Option O))
  read_hash true p bs = bind (read_octets p bs) λ w. got (taken (some w.val) w.next w.rest)
  read_hash false p bs = got (taken none p bs)

  unfoldable pub root_parts : Bool → ℕ → List ℕ → Answer (Taken (RootParts O))
  root_parts h = both read_octets λ k. both read_boolean λ b. both (read_enumerated 3) λ n. read_hash h

  unfoldable pub read_root : Bool → ℕ → List ℕ → Answer (Taken (RootParts O))
  read_root h = tagged wrong_element (identifier 1 16) (λ p q bs. exactly wrong_element (root_parts h) q bs)

  -- ---- a field: "9 for its class or form, 11, 12, content, then 9 for an extra element"

  unfoldable pub read_value : ℕ → Kind → ℕ → ℕ → List ℕ → Answer (ValueWith O)
  read_value v number32 = under num (λ p q bs. exactly wrong_element (read_integer top32) q bs)
  read_value v number64 = under num (λ p q bs. exactly wrong_element (read_integer top64) q bs)
  read_value v null = under (λ u. nul) (λ p q bs. exactly wrong_element read_null q bs)
  read_value v octets = under oct (λ p q bs. exactly wrong_element read_octets q bs)
  read_value v set = under nums (λ p q bs. exactly wrong_element read_set q bs)
  read_value v root = under (λ t. trust (root_from t)) (λ p q bs. exactly wrong_element (read_root (hashed v)) q bs)

  unfoldable pub row_content : ℕ → ℕ → ℕ → Option Row → ℕ → ℕ → List ℕ → Answer (FieldWith O)
  row_content v low n none p q bs = refused not_in_version p
  row_content v low n (some r) p q bs =
      guard (held_in v r) not_in_version p
      (guard (leb low n) field_order p
      (bind (read_value v r.kind p q bs) λ x. got (field n x)))

  unfoldable pub field_content : ℕ → ℕ → Identifier → ℕ → ℕ → List ℕ → Answer (FieldWith O)
  field_content v low i p q bs = guard (eqb i.form 5) wrong_element p (row_content v low i.number (find rows i.number) p q bs)

  unfoldable pub read_field : ℕ → ℕ → ℕ → List ℕ → Answer (Taken (FieldWith O))
  read_field v low = element wrong_element (field_content v low)

  unfoldable pub read_list : ℕ → ℕ → List ℕ → Answer (Taken (List (FieldWith O)))
  read_list v = tagged wrong_element (identifier 1 16) (λ p q bs. chain (read_field v) after_field 0 q bs)

  -- ---- the eight

  unfoldable pub read_eight : ℕ → List ℕ → Answer (Taken (Eight O))
  read_eight =
      both read_version λ v.
      both (read_enumerated (level_top v)) λ l.
      both (read_integer top32) λ k.
      both (read_enumerated (level_top v)) λ m.
      both read_octets λ c.
      both read_octets λ u.
      both (read_list v) λ s. read_list v

  -- "A SEQUENCE of exactly eight"
  unfoldable pub decode_with : List ℕ → Answer (ContentWith O)
  decode_with bs =
      bind (exactly spare_bytes (tagged wrong_element (identifier 1 16) (λ p q cs. exactly wrong_element read_eight q cs)) 0 bs) λ t.
      got (eight_from t)

  -- the first pass, and then the schema: what the extension says, and how many elements it has
  unfoldable pub read_with : List ℕ → Answer (ContentWith O × ℕ)
  read_with bs = bind (first_pass extension_bytes extension_depth extension_elements bs) λ t. bind (decode_with bs) λ c. got (c, nodes t)

-- ---- an OCTET STRING's content as its octets, and as where it lies

abbrev pub as_octets : ℕ → List ℕ → List ℕ
as_octets q bs = bs

abbrev pub as_place : ℕ → List ℕ → Place
as_place q bs = place_at q (length bs)

abbrev pub read : List ℕ → Answer (Content × ℕ)
read bs = read_with as_octets bs

-- the same extension, each octet part as a start and a length
abbrev pub read_places : List ℕ → Answer (Places × ℕ)
read_places bs = read_with as_place bs
