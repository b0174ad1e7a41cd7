-- What a record says over its buffer is what lies at its places; so a record of the places that were read says what was
-- read. Assumes nothing.
use mathlib.Core.Path.{◌≡◌, refl, ◌∙◌}
use mathlib.Core.Bool.{Bool, true, false}
use mathlib.Core.Option.{none, some}
use mathlib.Core.List.{List, [], ◌∷◌, ◌++◌, map}
use Prim.Native.Nat.{ℕ, zero, suc}
use lib.ListN.{get_or}
use Rattle.answer.specs.Answer.{got, pick, map_answer}
use Rattle.codec.specs.Octets.{Octets}
use Rattle.schema.specs.Table.{Kind, set, number32, number64, null, octets, root, row_at, row_count}
use Rattle.schema.specs.Content.{FieldWith, Place, place_at, octets_in, map_hash, map_value, map_field, map_content}
use Rattle.schema.specs.Decode.{read, read_places}
use Rattle.schema.proofs.Places.{octets_at_places}
use Rattle.records.specs.declared.FieldList.{FieldList}
use Rattle.records.specs.declared.Record.{Record}
use Rattle.records.specs.Content.{octets_at, value_at, field_at, up_to, content_of, places_of}

module _ (s : List ℕ) where
  hash-there : (b : Bool) (p : Place) → map_hash (octets_in s) (pick b (some p) none) ≡ pick b (some (octets_in s p)) none
  unfolding map_hash pick
  hash-there true p = refl
  hash-there false p = refl

  value_there : (l : FieldList) (n k : ℕ) (d : Kind) → map_value (octets_in s) (value_at l place_at n d k) ≡ value_at l (octets_at s) n d k
  unfolding map_value value_at
  value_there l n k set = refl
  value_there l n k number32 = refl
  value_there l n k number64 = refl
  value_there l n k null = refl
  value_there l n k octets = refl
  value_there l n k root = rw (hash-there l.root.hashed (place_at l.root.hash.start l.root.hash.len)) refl

  joined : (xs ys : List (FieldWith Place)) → map (map_field (octets_in s)) (xs ++ ys) ≡ map (map_field (octets_in s)) xs ++ map (map_field (octets_in s)) ys
  joined [] ys = refl
  joined (x ∷ xs) ys = rw (joined xs ys) refl

  picked : (b : Bool) (x : FieldWith Place) → map (map_field (octets_in s)) (pick b (x ∷ []) []) ≡ pick b (map_field (octets_in s) x ∷ []) []
  unfolding pick
  picked true x = refl
  picked false x = refl

  field-there : (l : FieldList) (k : ℕ) → map (map_field (octets_in s)) (field_at l place_at k) ≡ field_at l (octets_at s) k
  unfolding field_at
  field-there l k = picked (get_or l.present k false) _ ∙ rw (value_there l (row_at k).number k (row_at k).kind) refl

  fields_there : (l : FieldList) (n : ℕ) → map (map_field (octets_in s)) (up_to (field_at l place_at) n) ≡ up_to (field_at l (octets_at s)) n
  unfolding up_to
  fields_there l zero = refl
  fields_there l (suc n) = joined (up_to (field_at l place_at) n) (field_at l place_at n) ∙ rw (fields_there l n, field-there l n) refl

  -- what a record says over s is what lies in s at its places
  pub content_there : (r : Record) → map_content (octets_in s) (places_of r) ≡ content_of r s
  content_there r = rw (fields_there r.software row_count, fields_there r.hardware row_count) refl

-- a record of the places that were read says the content that was read
pub places_read : (r : Record) (s : List ℕ) (k : ℕ) → Octets s → read_places s ≡ got (places_of r, k) → read s ≡ got (content_of r s, k)
unfolding map_answer
places_read r s k o e = octets_at_places s o ∙ rw (e, content_there s r) refl
