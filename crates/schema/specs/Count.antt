-- How many elements an encoding has: the count that a read gives beside the content.
use Rattle.std.proofs.Math.Option.{Option, none, some}
use Rattle.std.specs.Prelude.{List, ℕ, suc, ◌+◌}
use Rattle.codec.specs.Element.{total}
use Rattle.schema.specs.Content.{Value, num, nul, oct, nums, trust, Field, Content}

unfoldable pub hash_count : Option (List ℕ) → ℕ
hash_count none = 0
hash_count (some bs) = 1

-- a set is an element around its members, a root of trust one around its key, flag, state and hash
unfoldable pub value_count : Value → ℕ
value_count (num n) = 1
value_count nul = 1
value_count (oct bs) = 1
value_count (nums l) = suc (total (λ n. 1) l)
value_count (trust r) = suc (3 + hash_count r.hash)

-- an explicit tag around one value
unfoldable pub field_count : Field → ℕ
field_count f = suc (value_count f.value)

unfoldable pub list_count : List Field → ℕ
list_count fs = suc (total field_count fs)

-- the SEQUENCE, its first six and its two lists
unfoldable pub count_of : Content → ℕ
count_of c = suc (6 + (list_count c.software + list_count c.hardware))
