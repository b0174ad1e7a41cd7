-- The places that are read lie in the bytes, and what is well-shaped does not depend on what octets become. Assumes nothing.
use mathlib.Core.Path.{◌≡◌, refl, ap, subst, ◌∙◌}
use mathlib.Core.Bool.{Bool, true, false}
use mathlib.Core.Option.{Option, none, some}
use mathlib.Core.List.{List, [], ◌∷◌, ◌++◌, map}
use Prim.Native.Nat.{ℕ, ◌+◌, ◌≤◌}
use native.Mathlib.Omega.{arith}
use lib.ListN.{length, length-append}
use Rattle.answer.specs.Answer.{Answer, got, map_answer}
use Rattle.answer.specs.Refusal.{spare_bytes, wrong_element}
use Rattle.answer.proofs.Answer.{got_inj, refused-got, guard_case, bind_case}
use Rattle.codec.specs.Octets.{Octets, Taken}
use Rattle.codec.specs.Header.{identifier}
use Rattle.codec.specs.Element.{chain_good}
use Rattle.codec.proofs.Follow.{At, at_all, follows_self}
use Rattle.codec.proofs.Keep.{All, Keeps, KeepsIn, Onward, onward, element_keeps, tagged_keeps, exactly_keeps, under_keeps, both_keeps, chain_keeps}
use Rattle.schema.specs.Table.{Kind, set, number32, number64, null, octets, root, Row, rows, find, level_top, hashed, top32}
use Rattle.schema.specs.Content.{ValueWith, num, nul, oct, nums, trust, FieldWith, ContentWith, Place, Places, octets_in, map_hash, map_value, map_field, map_content, hash_good, value_good, row_good, field_good, after_field, list_good, well_shaped}
use Rattle.schema.specs.Parts.{HashIs, ValueIs, FieldsAre, EachPart}
use Rattle.schema.specs.Decode.{read_integer, read_enumerated, read_boolean, read_version, read_octets, read_hash, RootParts, root_from, root_parts, read_root, read_value, row_content, field_content, read_field, read_list, Eight, read_eight, decode_with, read_with, as_octets, as_place, read_places}
use Rattle.schema.specs.Statements.{PlacesInside, PlacesShaped}
use Rattle.schema.proofs.Codecs.{read_integer_laws, read_enumerated_laws, read_octets_laws, read_boolean_laws, read_version_laws, read_field_laws, read_list_laws, level_small}
use Rattle.schema.proofs.Accepted.{read-sound}
use Rattle.schema.proofs.Places.{octets_follow, field_follow, list_follow, octets_at_places}

-- ---- places

module _ (s : List ℕ) where
  abbrev Lies : Place → Type 0
  Lies p = p.start + p.len ≤ length s

  -- nothing to say of a value without octets
  abbrev Any : {A : Type 0} → A → Type 0
  Any a = Unit {0}

  lies : (q : ℕ) (bs : List ℕ) → At s q bs → q + length bs ≤ length s
  lies q bs a = rw (← a.whole) (omega (arith, a.start, length-append a.before (bs ++ a.after), length-append bs a.after))

  octets_keep : Keeps s Lies (read_octets as_place)
  unfolding read_octets
  octets_keep = tagged_keeps s Lies wrong_element (identifier 0 4) _ (λ p q bs x a e. subst Lies (got_inj e) (lies q bs a))

  octets_onward : Onward s (read_octets as_place)
  octets_onward = onward s (octets_in s) (read_octets as_place) (read_octets as_octets) read_octets_laws (octets_follow s)

  hash_keep : (h : Bool) → Keeps s (HashIs Lies) (read_hash as_place h)
  unfolding read_hash
  hash_keep true p bs w a e = bind_case _ _ e λ v ev e₁. rw (← got_inj e₁) (octets_keep p bs v a ev)
  hash_keep false p bs w a e = rw (← got_inj e) tt

  abbrev PartsLie : RootParts Place → Type 0
  PartsLie t = Lies t.0 × (Unit {0} × (Unit {0} × HashIs Lies t.1.1.1))

  any : {A : Type 0} (rd : ℕ → List ℕ → Answer (Taken A)) → Keeps s (λ (a : A). Unit {0}) rd
  any rd p bs w a e = tt

  root_keep : (h : Bool) → Keeps s PartsLie (read_root as_place h)
  unfolding read_root root_parts
  root_keep h =
      tagged_keeps s PartsLie wrong_element (identifier 1 16) _
      (exactly_keeps s PartsLie wrong_element (root_parts as_place h)
      (both_keeps s Lies _ _ _ octets_onward octets_keep λ k.
      both_keeps s (λ (b : Bool). Unit {0}) _ _ _ (onward s (λ b. b) read_boolean read_boolean read_boolean_laws (follows_self s read_boolean)) (any read_boolean) λ b.
      both_keeps s (λ (n : ℕ). Unit {0}) (HashIs Lies) _ _ (onward s (λ n. n) (read_enumerated 3) (read_enumerated 3) (read_enumerated_laws 3 (omega arith)) (follows_self s (read_enumerated 3))) (any (read_enumerated 3)) λ n. hash_keep h))

  value_keep : (v : ℕ) (k : Kind) → KeepsIn s (ValueIs Lies) (read_value as_place v k)
  unfolding read_value
  value_keep v number32 = under_keeps s (λ (n : ℕ). Unit {0}) (ValueIs Lies) num (λ n t. tt) _ (λ p q bs x a e. tt)
  value_keep v number64 = under_keeps s (λ (n : ℕ). Unit {0}) (ValueIs Lies) num (λ n t. tt) _ (λ p q bs x a e. tt)
  value_keep v null = under_keeps s (λ (u : Unit {0}). Unit {0}) (ValueIs Lies) (λ u. nul) (λ n t. tt) _ (λ p q bs x a e. tt)
  value_keep v octets = under_keeps s Lies (ValueIs Lies) oct (λ o t. t) _ (exactly_keeps s Lies wrong_element (read_octets as_place) octets_keep)
  value_keep v set = under_keeps s (λ (l : List ℕ). Unit {0}) (ValueIs Lies) nums (λ l t. tt) _ (λ p q bs x a e. tt)
  value_keep v root = under_keeps s PartsLie (ValueIs Lies) (λ t. trust (root_from t)) (λ t y. (y.0, y.1.1.1)) _ (exactly_keeps s PartsLie wrong_element (read_root as_place (hashed v)) (root_keep (hashed v)))

  abbrev FieldLies : FieldWith Place → Type 0
  FieldLies f = ValueIs Lies f.value

  row_keep : (v low n : ℕ) (o : Option Row) → KeepsIn s FieldLies (row_content as_place v low n o)
  unfolding row_content
  row_keep v low n none p q bs x a e = absurd (refused-got e)
  row_keep v low n (some r) p q bs x a e =
      guard_case _ _ _ _ e λ t e₁.
      guard_case _ _ _ _ e₁ λ u e₂.
      bind_case _ _ e₂ λ y ey e₃.
      rw (← got_inj e₃) (value_keep v r.kind p q bs y a ey)

  field_keep : (v low : ℕ) → Keeps s FieldLies (read_field as_place v low)
  unfolding read_field field_content
  field_keep v low = element_keeps s FieldLies wrong_element (field_content as_place v low) (λ i p q bs x a e. guard_case _ _ _ _ e λ t u. row_keep v low i.number (find rows i.number) p q bs x a u)

  fields_lie : (fs : List (FieldWith Place)) → All FieldLies fs → FieldsAre Lies fs
  fields_lie [] y = tt
  fields_lie (f ∷ fs) y = (y.0, fields_lie fs y.1)

  list_keep : (v : ℕ) → Keeps s (FieldsAre Lies) (read_list as_place v)
  unfolding read_list
  list_keep v =
      tagged_keeps s (FieldsAre Lies) wrong_element (identifier 1 16) _
      (λ p q bs l a e. fields_lie l (chain_keeps s FieldLies (read_field as_place v) after_field (λ low. onward s (map_field (octets_in s)) (read_field as_place v low) (read_field as_octets v low) (read_field_laws v low) (field_follow s v low)) (field_keep v) 0 p q bs l a e))

  abbrev EightLie : Eight Place → Type 0
  EightLie t = Unit {0} × (Unit {0} × (Unit {0} × (Unit {0} × (Lies t.1.1.1.1.0 × (Lies t.1.1.1.1.1.0 × (FieldsAre Lies t.1.1.1.1.1.1.0 × FieldsAre Lies t.1.1.1.1.1.1.1))))))

  eight_keep : Keeps s EightLie (read_eight as_place)
  unfolding read_eight
  eight_keep =
      both_keeps s (λ (v : ℕ). Unit {0}) _ _ _ (onward s (λ v. v) read_version read_version read_version_laws (follows_self s read_version)) (any read_version) λ v.
      both_keeps s (λ (l : ℕ). Unit {0}) _ _ _ (onward s (λ l. l) (read_enumerated (level_top v)) (read_enumerated (level_top v)) (read_enumerated_laws (level_top v) (level_small v)) (follows_self s (read_enumerated (level_top v)))) (any (read_enumerated (level_top v))) λ l.
      both_keeps s (λ (k : ℕ). Unit {0}) _ _ _ (onward s (λ k. k) (read_integer top32) (read_integer top32) (read_integer_laws top32 (omega arith)) (follows_self s (read_integer top32))) (any (read_integer top32)) λ k.
      both_keeps s (λ (m : ℕ). Unit {0}) _ _ _ (onward s (λ m. m) (read_enumerated (level_top v)) (read_enumerated (level_top v)) (read_enumerated_laws (level_top v) (level_small v)) (follows_self s (read_enumerated (level_top v)))) (any (read_enumerated (level_top v))) λ m.
      both_keeps s Lies _ _ _ octets_onward octets_keep λ c.
      both_keeps s Lies _ _ _ octets_onward octets_keep λ u.
      both_keeps s (FieldsAre Lies) (FieldsAre Lies) _ _ (onward s (map (map_field (octets_in s))) (read_list as_place v) (read_list as_octets v) (read_list_laws v) (list_follow s v)) (list_keep v) λ w. list_keep v

  lie : (c : Places) (n : ℕ) → Octets s → read_places s ≡ got (c, n) → EachPart Lies c
  unfolding read_with decode_with
  lie c n o e =
      bind_case _ _ e λ t et e₁.
      bind_case _ _ e₁ λ d ed e₂.
      bind_case _ _ ed λ y ey e₃.
      let k = exactly_keeps s EightLie spare_bytes _ (tagged_keeps s EightLie wrong_element (identifier 1 16) _ (exactly_keeps s EightLie wrong_element (read_eight as_place) eight_keep)) 0 0 s y (at_all s o) ey in
      let q : d ≡ c = ap (λ (x : Places × ℕ). x.0) (got_inj e₂) in
      rw (← q, ← got_inj e₃) (k.1.1.1.1.0, k.1.1.1.1.1.0, k.1.1.1.1.1.1.0, k.1.1.1.1.1.1.1)

pub places_inside : PlacesInside
places_inside s c n o e = lie s c n o e

-- ---- shape

module _ {O P : Type 0} (f : O → P) where
  hash_map : (b : Bool) (h : Option O) → hash_good b (map_hash f h) ≡ hash_good b h
  unfolding hash_good map_hash
  hash_map true none = refl
  hash_map true (some o) = refl
  hash_map false none = refl
  hash_map false (some o) = refl

  value-map : (v : ℕ) (k : Kind) (x : ValueWith O) → value_good v k (map_value f x) ≡ value_good v k x
  unfolding value_good map_value
  value-map v k (num n) = refl
  value-map v k nul = refl
  value-map v k (oct o) = refl
  value-map v k (nums l) = refl
  value-map v k (trust r) = rw (hash_map (hashed v) r.hash) refl

  row-map : (v : ℕ) (o : Option Row) (x : ValueWith O) → row_good v o (map_value f x) ≡ row_good v o x
  unfolding row_good
  row-map v none x = refl
  row-map v (some r) x = rw (value-map v r.kind x) refl

  fields_map : (v low : ℕ) (fs : List (FieldWith O)) → chain_good (field_good v) after_field low (map (map_field f) fs) ≡ chain_good (field_good v) after_field low fs
  unfolding field_good
  fields_map v low [] = refl
  fields_map v low (x ∷ fs) = rw (row-map v (find rows x.number) x.value, fields_map v (x.number + 1) fs) refl

  pub shape-map : (c : ContentWith O) → well_shaped (map_content f c) ≡ well_shaped c
  unfolding well_shaped list_good
  shape-map c = rw (fields_map c.version 0 c.software, fields_map c.version 0 c.hardware) refl

pub places_shaped : PlacesShaped
unfolding map_answer
places_shaped s c n o e = rw (shape-map (octets_in s) c) at (read-sound s (map_content (octets_in s) c) n o (octets_at_places s o ∙ rw e refl)).0
