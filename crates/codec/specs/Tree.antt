-- Document 01, "DER as walked": the tree of nested elements over the bytes, its node count, and the first pass.
use Rattle.std.specs.Prelude.{◌≡◌, not, List, [], ◌∷◌, ◌++◌, ℕ, zero, suc, ◌+◌, ◌≤◌, length, take, drop, T, ltb, leb}
use Rattle.answer.specs.Answer.{Answer, got, refused, guard, bind, pick}
use Rattle.answer.specs.Refusal.{too_long, runs_out, too_deep, too_many_elements, spare_bytes}
use Rattle.codec.specs.Octets.{Taken, taken}
use Rattle.codec.specs.Header.{Identifier, holds, read_header, identifier_good, length_good, header_octets, element_octets}
use Rattle.codec.specs.Element.{exactly}

-- an element: its place, its identifier, its content's octets and the elements that it holds
mutual
  pub data Node : Type 0 where
    node : ℕ → Identifier → List ℕ → Nodes → Node

  pub data Nodes : Type 0 where
    none : Nodes
    and : Node → Nodes → Nodes

-- "how many elements it met": the element and all below it
unfoldable mutual
  pub nodes : Node → ℕ
  nodes (node p i c ns) = suc (all_nodes ns)

  pub all_nodes : Nodes → ℕ
  all_nodes none = 0
  all_nodes (and t ts) = nodes t + all_nodes ts

-- "each of those is walked the same way": elements one after the other to the holder's end, `met` before them;
-- `one` reads one. The fuel only bounds the turns, and one an octet is enough
unfoldable pub run : (ℕ → ℕ → List ℕ → Answer (Taken Node)) → ℕ → ℕ → ℕ → List ℕ → Answer Nodes
run one zero met p bs = got none
run one (suc f) met p [] = got none
run one (suc f) met p (x ∷ xs) =
    bind (one met p (x ∷ xs)) λ w.
    bind (run one f (met + nodes w.val) w.next w.rest) λ ts.
    got (and w.val ts)

-- "per element 5, 6, identifier, length, fit, then what it holds": the element at p, where `depth` levels are left,
-- `most` elements are allowed and `met` were met before
unfoldable pub walk_element : ℕ → ℕ → ℕ → ℕ → List ℕ → Answer (Taken Node)
walk_element most zero met p bs = refused too_deep p
walk_element most (suc depth) met p bs =
    guard (ltb met most) too_many_elements p
    (bind (read_header p bs) λ h.
    bind (pick (holds h.val.id) (run (walk_element most depth) h.val.size (met + 1) h.next (take h.val.size h.rest)) (got none)) λ ts.
    got (taken (node p h.val.id (take h.val.size h.rest) ts) (h.next + h.val.size) (drop h.val.size h.rest)))

-- "Order: 1; then the whole first pass in byte order; then 7": the tree that the bytes are, within limits of bytes,
-- depth and elements. Where no octet stands, an element "is missing at the top", whatever the limits
unfoldable pub first_pass : ℕ → ℕ → ℕ → List ℕ → Answer Node
first_pass bytes depth most bs =
    guard (leb (length bs) bytes) too_long 0
    (guard (ltb 0 (length bs)) runs_out 0
    (exactly spare_bytes (walk_element most depth 0) 0 bs))

-- ---- the same, said of the tree and not of a reader: proofs/Tree.antt shows that the first pass gives a tree exactly
-- when the bytes are that tree's DER, within the limits

-- the octets of an element, and of elements one after the other
unfoldable pub octets_of : Node → List ℕ
octets_of (node p i c ns) = element_octets i c

unfoldable pub run_octets : Nodes → List ℕ
run_octets none = []
run_octets (and t ts) = octets_of t ++ run_octets ts

-- each of them is what `Is` says, at the place where it stands
unfoldable pub Each : (ℕ → Node → Type 0) → ℕ → Nodes → Type 0
Each Is p none = Unit {0}
Each Is p (and t ts) = Is p t × Each Is (p + length (octets_of t)) ts

-- t is an element at p, at most `depth` levels deep, in DER: identifier and length within the rules, and its content
-- is just the elements that it holds where bit 6 is set
unfoldable pub Der : ℕ → ℕ → Node → Type 0
Der zero p t = ⊥
Der (suc depth) p (node q i c ns) =
    (q ≡ p)
    × T (identifier_good i)
    × T (length_good (length c))
    × (T (holds i) → (run_octets ns ≡ c) × Each (Der depth) (p + length (header_octets i (length c))) ns)
    × (T (not (holds i)) → ns ≡ none)

-- bytes that are the DER of t within limits of bytes, depth and elements
pub record Within (bytes depth most : ℕ) (bs : List ℕ) (t : Node) : Type 0 where
  pub short : length bs ≤ bytes
  pub der : Der depth 0 t
  pub few : nodes t ≤ most
  pub whole : octets_of t ≡ bs
