-- What stands at the front of an input s, where what lies past its end reads as 0.
use Rattle.std.specs.Prelude.{List, [], ◌∷◌, ℕ, length, take, get_or, cond, leb}
use Rattle.std.specs.Int.{w64, from_be_bytes}

-- eight octets as a number, highest first
abbrev pub word_at_front : List ℕ → ℕ
word_at_front s = from_be_bytes w64
    (get_or s 0 0 ∷ get_or s 1 0 ∷ get_or s 2 0 ∷ get_or s 3 0 ∷ get_or s 4 0 ∷ get_or s 5 0 ∷ get_or s 6 0 ∷ get_or s 7 0 ∷ [])

-- n octets, or none where fewer are left
abbrev pub octets_at_front : ℕ → List ℕ → List ℕ
octets_at_front n s = cond (leb n (length s)) (take n s) []
