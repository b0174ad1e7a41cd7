-- Shortest numbers, over every width: significant bits, and octets from the highest to the lowest. Document 01:
-- "Integer and length sizes come from how many significant bits the number has".
use Rattle.std.specs.Prelude.{List, [], ◌∷◌, ℕ, zero, suc, ◌+◌, ◌-◌, ◌*◌, ◌/◌, ◌%◌, ◌^◌, length, ltb}
use Rattle.std.specs.Int.Count.{count_leading_zeros}
use Rattle.answer.specs.Answer.{pick}

-- the number that octets spell, the highest first
abbrev pub big_endian : List ℕ → ℕ
big_endian [] = 0
big_endian (x ∷ xs) = x * 2 ^ (8 * length xs) + big_endian xs

-- the k low octets of n, the highest first
abbrev pub low_octets : ℕ → ℕ → List ℕ
low_octets zero n = []
low_octets (suc k) n = n / 2 ^ (8 * k) % 256 ∷ low_octets k n

-- how many significant bits n has: none for 0
unfoldable pub bits : ℕ → ℕ
bits n = n - count_leading_zeros n n

-- content octets of an INTEGER that is not negative: one bit more than n has, for the sign
unfoldable pub integer_size : ℕ → ℕ
integer_size n = bits n / 8 + 1

-- "127 takes one content octet, 128 two, 2^64-1 nine"
unfoldable pub integer_octets : ℕ → List ℕ
integer_octets n = low_octets (integer_size n) n

-- octets that hold n with no sign
unfoldable pub length_size : ℕ → ℕ
length_size n = (bits n + 7) / 8

-- "127 is 7F, 128 is 81 80, 256 is 82 01 00": one octet, or 80 and their count before the octets
unfoldable pub length_octets : ℕ → List ℕ
length_octets n = pick (ltb n 128) (n ∷ []) ((128 + length_size n) ∷ low_octets (length_size n) n)
