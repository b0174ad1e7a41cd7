-- The octets of an extension's content are those that lie at its places: reading the octets is reading the places and then
-- looking there. One law of `Follow` for each reader of specs/Decode.antt. Assumes nothing.
use mathlib.Core.Path.{◌≡◌, refl}
use mathlib.Core.Bool.{Bool, true, false}
use mathlib.Core.Option.{Option, none, some}
use mathlib.Core.List.{List, map}
use Prim.Native.Nat.{ℕ}
use native.Mathlib.Omega.{arith}
use lib.Dec.{leb, eqb}
use Rattle.answer.specs.Answer.{Answer, got, refused, bind, map_answer}
use Rattle.answer.specs.Refusal.{spare_bytes, wrong_element, not_in_version, field_order}
use Rattle.codec.specs.Octets.{Octets, Taken, taken, map_taken}
use Rattle.codec.specs.Header.{identifier}
use Rattle.codec.specs.Element.{tagged, exactly}
use Rattle.codec.specs.Tree.{Node, nodes, first_pass}
use Rattle.codec.proofs.Follow.{at_octets, at_all, Follows, FollowsIn, guarded, follows_self, element_follows, tagged_follows, exactly_follows, both_follows, under_follows, chain_follows}
use Rattle.schema.specs.Table.{Kind, set, number32, number64, null, octets, root, Row, rows, held_in, find, level_top, hashed, top32, top64}
use Rattle.schema.specs.Content.{ValueWith, num, nul, oct, nums, trust, field, Content, Place, Places, octets_in, map_hash, map_value, map_field, map_content, after_field}
use Rattle.schema.specs.Decode.{read_integer, read_enumerated, read_boolean, read_null, read_set, read_version, read_octets, read_hash, RootParts, root_from, root_parts, read_root, read_value, row_content, field_content, read_field, read_list, Eight, eight_from, read_eight, decode_with, read_with, as_octets, as_place}
use Rattle.schema.specs.Statements.{OctetsAtPlaces}
use Rattle.schema.proofs.Codecs.{read_integer_laws, read_enumerated_laws, read_octets_laws, read_boolean_laws, read_version_laws, read_field_laws, read_list_laws, level_small}
use Rattle.codec.specs.Limits.{extension_bytes, extension_depth, extension_elements}

module _ (s : List ℕ) where
  looked : FollowsIn s (octets_in s) (λ p q bs. got (as_place q bs)) (λ p q bs. got (as_octets q bs))
  unfolding map_answer
  looked p q bs a = rw (at_octets s q bs a) refl

  pub octets_follow : Follows s (octets_in s) (read_octets as_place) (read_octets as_octets)
  unfolding read_octets
  octets_follow = tagged_follows s (octets_in s) wrong_element (identifier 0 4) (λ p q bs. got (as_place q bs)) (λ p q bs. got (as_octets q bs)) looked

  some_moved : (M : Answer (Taken Place)) → bind (map_answer (map_taken (octets_in s)) M) (λ w. got (taken (some w.val) w.next w.rest)) ≡ map_answer (map_taken (map_hash (octets_in s))) (bind M (λ w. got (taken (some w.val) w.next w.rest)))
  unfolding bind map_answer map_hash
  some_moved (got w) = refl
  some_moved (refused k q) = refl

  hash_follow : (h : Bool) → Follows s (map_hash (octets_in s)) (read_hash as_place h) (read_hash as_octets h)
  unfolding read_hash map_answer map_hash
  hash_follow true p bs a = rw (octets_follow p bs a) (some_moved (read_octets as_place p bs))
  hash_follow false p bs a = refl

  abbrev map_parts : RootParts Place → RootParts (List ℕ)
  map_parts t = (octets_in s t.0, (t.1.0, (t.1.1.0, map_hash (octets_in s) t.1.1.1)))

  parts_follow : (h : Bool) → Follows s map_parts (root_parts as_place h) (root_parts as_octets h)
  unfolding root_parts
  parts_follow h =
      both_follows s _ _ _ _ _ _ read_octets_laws octets_follow λ k.
      both_follows s _ _ _ _ _ _ read_boolean_laws (follows_self s read_boolean) λ b.
      both_follows s _ _ _ _ _ _ (read_enumerated_laws 3 (omega arith)) (follows_self s (read_enumerated 3)) λ n. hash_follow h

  root_follow : (h : Bool) → Follows s map_parts (read_root as_place h) (read_root as_octets h)
  unfolding read_root
  root_follow h = tagged_follows s map_parts wrong_element (identifier 1 16) _ _ (exactly_follows s map_parts wrong_element (root_parts as_place h) (root_parts as_octets h) (parts_follow h))

  value_follow : (v : ℕ) (k : Kind) → FollowsIn s (map_value (octets_in s)) (read_value as_place v k) (read_value as_octets v k)
  unfolding read_value map_value
  value_follow v number32 = under_follows s (λ n. n) _ num num (λ n. refl) _ _ (exactly_follows s (λ n. n) wrong_element (read_integer top32) (read_integer top32) (follows_self s (read_integer top32)))
  value_follow v number64 = under_follows s (λ n. n) _ num num (λ n. refl) _ _ (exactly_follows s (λ n. n) wrong_element (read_integer top64) (read_integer top64) (follows_self s (read_integer top64)))
  value_follow v null = under_follows s (λ u. u) _ (λ u. nul) (λ u. nul) (λ u. refl) _ _ (exactly_follows s (λ u. u) wrong_element read_null read_null (follows_self s read_null))
  value_follow v octets = under_follows s (octets_in s) _ oct oct (λ o. refl) _ _ (exactly_follows s (octets_in s) wrong_element (read_octets as_place) (read_octets as_octets) octets_follow)
  value_follow v set = under_follows s (λ l. l) _ nums nums (λ l. refl) _ _ (exactly_follows s (λ l. l) wrong_element read_set read_set (follows_self s read_set))
  value_follow v root = under_follows s map_parts _ (λ t. trust (root_from t)) (λ t. trust (root_from t)) (λ t. refl) _ _ (exactly_follows s map_parts wrong_element (read_root as_place (hashed v)) (read_root as_octets (hashed v)) (root_follow (hashed v)))

  field_moved : (n : ℕ) (M : Answer (ValueWith Place)) → bind (map_answer (map_value (octets_in s)) M) (λ x. got (field n x)) ≡ map_answer (map_field (octets_in s)) (bind M (λ x. got (field n x)))
  unfolding bind map_answer
  field_moved n (got x) = refl
  field_moved n (refused k q) = refl

  row_follow : (v low n : ℕ) (o : Option Row) → FollowsIn s (map_field (octets_in s)) (row_content as_place v low n o) (row_content as_octets v low n o)
  unfolding row_content map_answer
  row_follow v low n none p q bs a = refl
  row_follow v low n (some r) p q bs a =
      guarded _ (held_in v r) not_in_version p _ _
      (guarded _ (leb low n) field_order p _ _ (rw (value_follow v r.kind p q bs a) (field_moved n (read_value as_place v r.kind p q bs))))

  pub field_follow : (v low : ℕ) → Follows s (map_field (octets_in s)) (read_field as_place v low) (read_field as_octets v low)
  unfolding read_field field_content
  field_follow v low =
      element_follows s (map_field (octets_in s)) wrong_element (field_content as_place v low) (field_content as_octets v low)
      (λ i p q bs a. guarded _ (eqb i.form 5) wrong_element p _ _ (row_follow v low i.number (find rows i.number) p q bs a))

  pub list_follow : (v : ℕ) → Follows s (map (map_field (octets_in s))) (read_list as_place v) (read_list as_octets v)
  unfolding read_list
  list_follow v =
      tagged_follows s (map (map_field (octets_in s))) wrong_element (identifier 1 16) _ _
      (chain_follows s (map_field (octets_in s)) (read_field as_place v) (read_field as_octets v) after_field after_field (λ t x. refl) (read_field_laws v) (field_follow v) 0)

  abbrev map_eight : Eight Place → Eight (List ℕ)
  map_eight t = (t.0, (t.1.0, (t.1.1.0, (t.1.1.1.0, (octets_in s t.1.1.1.1.0, (octets_in s t.1.1.1.1.1.0, (map (map_field (octets_in s)) t.1.1.1.1.1.1.0, map (map_field (octets_in s)) t.1.1.1.1.1.1.1)))))))

  eight_follow : Follows s map_eight (read_eight as_place) (read_eight as_octets)
  unfolding read_eight
  eight_follow =
      both_follows s _ _ _ _ _ _ read_version_laws (follows_self s read_version) λ v.
      both_follows s _ _ _ _ _ _ (read_enumerated_laws (level_top v) (level_small v)) (follows_self s (read_enumerated (level_top v))) λ l.
      both_follows s _ _ _ _ _ _ (read_integer_laws top32 (omega arith)) (follows_self s (read_integer top32)) λ k.
      both_follows s _ _ _ _ _ _ (read_enumerated_laws (level_top v) (level_small v)) (follows_self s (read_enumerated (level_top v))) λ m.
      both_follows s _ _ _ _ _ _ read_octets_laws octets_follow λ c.
      both_follows s _ _ _ _ _ _ read_octets_laws octets_follow λ u.
      both_follows s _ _ _ _ _ _ (read_list_laws v) (list_follow v) λ w. list_follow v

  content_moved : (M : Answer (Eight Place)) → bind (map_answer map_eight M) (λ t. got (eight_from t)) ≡ map_answer (map_content (octets_in s)) (bind M (λ t. got (eight_from t)))
  unfolding bind map_answer
  content_moved (got t) = refl
  content_moved (refused k q) = refl

  decode_follow : Octets s → decode_with as_octets s ≡ map_answer (map_content (octets_in s)) (decode_with as_place s)
  unfolding decode_with
  decode_follow o =
      rw (exactly_follows s map_eight spare_bytes _ _
      (tagged_follows s map_eight wrong_element (identifier 1 16) _ _ (exactly_follows s map_eight wrong_element (read_eight as_place) (read_eight as_octets) eight_follow)) 0 0 s (at_all s o))
      (content_moved (exactly spare_bytes (tagged wrong_element (identifier 1 16) (λ p q cs. exactly wrong_element (read_eight as_place) q cs)) 0 s))

  counted_moved : (M : Answer Node) (N : Answer Places)
      → bind {B = Content × ℕ} M (λ t. bind (map_answer (map_content (octets_in s)) N) (λ c. got (c, nodes t)))
      ≡ map_answer (λ (w : Places × ℕ). (map_content (octets_in s) w.0, w.1)) (bind M (λ t. bind N (λ c. got (c, nodes t))))
  unfolding bind map_answer
  counted_moved (got t) (got c) = refl
  counted_moved (got t) (refused k q) = refl
  counted_moved (refused k q) N = refl

pub octets_at_places : OctetsAtPlaces
unfolding read_with
octets_at_places s o = rw (decode_follow s o) (counted_moved s (first_pass extension_bytes extension_depth extension_elements s) (decode_with as_place s))
