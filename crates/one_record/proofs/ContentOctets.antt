-- What a record says of octets are octets. Assumes nothing.
use mathlib.Core.Bool.{Bool, true, false}
use mathlib.Core.Option.{none, some}
use mathlib.Core.List.{List, [], ◌∷◌, ◌++◌}
use Prim.Native.Nat.{ℕ, zero, suc}
use lib.ListN.{take, drop, get_or}
use Rattle.answer.specs.Answer.{pick}
use Rattle.codec.specs.Octets.{Octets}
use Rattle.schema.specs.Table.{Kind, set, number32, number64, null, octets, root, row_at, row_count}
use Rattle.schema.specs.Content.{Field, field}
use Rattle.schema.specs.Parts.{HashIs, ValueIs, FieldsAre, ContentOctets}
use Rattle.records.specs.Content.{octets_at, value_at, field_at, up_to, content_of}
use Rattle.records.specs.declared.FieldList.{FieldList}
use Rattle.records.specs.declared.Record.{Record}

dropped : (n : ℕ) (xs : List ℕ) → Octets xs → Octets (drop n xs)
dropped zero xs o = o
dropped (suc n) [] o = tt
dropped (suc n) (x ∷ xs) o = dropped n xs o.1

taken : (n : ℕ) (xs : List ℕ) → Octets xs → Octets (take n xs)
taken zero xs o = tt
taken (suc n) [] o = tt
taken (suc n) (x ∷ xs) o = (o.0, taken n xs o.1)

part : (a z : ℕ) (s : List ℕ) → Octets s → Octets (octets_at s a z)
part a z s o = taken z (drop a s) (dropped a s o)

both : (xs ys : List Field) → FieldsAre Octets xs → FieldsAre Octets ys → FieldsAre Octets (xs ++ ys)
both [] ys o p = p
both (x ∷ xs) ys o p = (o.0, both xs ys o.1 p)

module _ (l : FieldList) (s : List ℕ) (o : Octets s) where
  hash : (h : Bool) (a z : ℕ) → HashIs Octets (pick h (some (octets_at s a z)) none)
  unfolding pick
  hash true a z = part a z s o
  hash false a z = tt

  value : (n k : ℕ) (q : Kind) → ValueIs Octets (value_at l (octets_at s) n q k)
  unfolding value_at
  value n k set = tt
  value n k number32 = tt
  value n k number64 = tt
  value n k null = tt
  value n k octets = part (get_or l.values k 0) (get_or l.sizes k 0) s o
  value n k root = (part l.root.key.start l.root.key.len s o, hash l.root.hashed l.root.hash.start l.root.hash.len)

  one : (k : ℕ) (b : Bool) → FieldsAre Octets (pick b (field (row_at k).number (value_at l (octets_at s) (row_at k).number (row_at k).kind k) ∷ []) [])
  unfolding pick
  one k true = (value (row_at k).number k (row_at k).kind, tt)
  one k false = tt

  rows : (n : ℕ) → FieldsAre Octets (up_to (field_at l (octets_at s)) n)
  unfolding up_to field_at
  rows zero = tt
  rows (suc n) = both (up_to (field_at l (octets_at s)) n) (field_at l (octets_at s) n) (rows n) (one n (get_or l.present n false))

-- the octets of a record's content are those of its buffer
pub content_octets : (r : Record) (s : List ℕ) → Octets s → ContentOctets (content_of r s)
content_octets r s o = (part r.challenge.start r.challenge.len s o, part r.unique.start r.unique.len s o, rows r.software s o row_count, rows r.hardware s o row_count)
