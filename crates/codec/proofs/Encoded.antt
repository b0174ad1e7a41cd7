-- What is encoded is octets: one law for a header, an element and a chain. Assumes nothing.
use mathlib.Core.Bool.{Bool}
use mathlib.Core.List.{List, [], ◌∷◌, ◌++◌}
use Prim.Native.Nat.{ℕ, ◌<◌}
use native.Mathlib.Omega.{arith}
use lib.ListN.{length}
use lib.Dec.{T, ltb, ltb→lt}
use Rattle.answer.proofs.Logic.{by_le, and_left, and_right}
use Rattle.codec.specs.Octets.{Octets}
use Rattle.codec.specs.Shortest.{length_octets, integer_size, integer_octets}
use Rattle.codec.specs.Header.{Identifier, identifier_octets, identifier_good, length_good, header_octets, element_octets}
use Rattle.codec.specs.Element.{chain_octets, chain_good}
use Rattle.codec.proofs.Shortest.{octets-low_octets, length-short, length_one, length_two}
use Rattle.codec.proofs.Header.{one_octet, two_octets, three_octets}

pub octets-append : (xs ys : List ℕ) → Octets xs → Octets ys → Octets (xs ++ ys)
octets-append [] ys o p = p
octets-append (x ∷ xs) ys o p = (o.0, octets-append xs ys o.1 p)

pub integer_octets_lem : (n : ℕ) → Octets (integer_octets n)
unfolding integer_octets
integer_octets_lem n = octets-low_octets (integer_size n) n

identifier-octets : (i : Identifier) → T (identifier_good i) → Octets (identifier_octets i)
identifier-octets i t =
    let f : i.form < 8 = ltb→lt i.form 8 (and_left (ltb i.form 8) _ t) in
    let n : i.number < 16384 = ltb→lt i.number 16384 (and_right (ltb i.form 8) _ t) in
    by_le 31 i.number
    (λ l. by_le 128 i.number
    (λ m. rw (three_octets i m) (omega arith, (omega arith, (omega arith, tt))))
    (λ m. rw (two_octets i l m) (omega arith, (omega arith, tt))))
    (λ l. rw (one_octet i l) (omega arith, tt))

length-octets : (n : ℕ) → T (length_good n) → Octets (length_octets n)
length-octets n t =
    let h : n < 65536 = ltb→lt n 65536 t in
    by_le 128 n
    (λ l. by_le 256 n
    (λ m. rw (length_two n m h) (omega arith, (omega arith, (omega arith, tt))))
    (λ m. rw (length_one n l m) (omega arith, (omega arith, tt))))
    (λ l. rw (length-short n l) (omega arith, tt))

pub element-octets : (i : Identifier) (c : List ℕ) → T (identifier_good i) → T (length_good (length c)) → Octets c → Octets (element_octets i c)
unfolding element_octets header_octets
element-octets i c g l o =
    octets-append (identifier_octets i ++ length_octets (length c)) c
    (octets-append (identifier_octets i) (length_octets (length c)) (identifier-octets i g) (length-octets (length c) l)) o

pub chain-octets : {S A : Type 0} (enc : A → List ℕ) (good : S → A → Bool) (after : S → A → S) → ((s : S) (a : A) → T (good s a) → Octets (enc a))
    → (s : S) (l : List A) → T (chain_good good after s l) → Octets (chain_octets enc l)
chain-octets enc good after one s [] t = tt
chain-octets enc good after one s (a ∷ l) t = octets-append (enc a) (chain_octets enc l) (one s a (and_left (good s a) _ t)) (chain-octets enc good after one (after s a) l (and_right (good s a) _ t))
