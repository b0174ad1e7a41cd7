-- The content of an INTEGER or ENUMERATED: shortest, not negative, within its top (document 01, "KeyDescription").
use Rattle.std.specs.Prelude.{not, ◌&&◌, List, [], ◌∷◌, ℕ, ltb, leb, eqb}
use Rattle.answer.specs.Answer.{Answer, got, refused, guard}
use Rattle.codec.specs.Shortest.{big_endian, integer_octets}
use Rattle.codec.specs.Header.{identifier, element_octets}

-- the number that the content is; else this refusal at this place
unfoldable pub integer_of : ℕ → ℕ → ℕ → List ℕ → Answer ℕ
integer_of top number p [] = refused number p
integer_of top number p (a ∷ []) = guard (ltb a 128) number p (guard (leb a top) number p (got a))
integer_of top number p (a ∷ b ∷ r) =
    guard (ltb a 128) number p
    (guard (not (eqb a 0 && ltb b 128)) number p
    (guard (leb (big_endian (a ∷ b ∷ r)) top) number p (got (big_endian (a ∷ b ∷ r)))))

-- an INTEGER that is not negative: identifier 02
unfoldable pub integer_element : ℕ → List ℕ
integer_element n = element_octets (identifier 0 2) (integer_octets n)
