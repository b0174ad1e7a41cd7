-- The value of a field that is neither a set nor 704, from the two numbers that its list keeps for it: a number, or an
-- octet part's start, and that part's length.
use Rattle.std.specs.Prelude.{List, ℕ}
use Rattle.schema.specs.Table.{Kind, set, number32, number64, null, octets, root}
use Rattle.schema.specs.Content.{Value, num, nul, oct, field, field_element}
use Rattle.records.specs.Content.{octets_at}

-- a set and 704 have none here, and stand as NULL
unfoldable pub plain_value : List ℕ → Kind → ℕ → ℕ → Value
plain_value s set value size = nul
plain_value s number32 value size = num value
plain_value s number64 value size = num value
plain_value s null value size = nul
plain_value s octets value size = oct (octets_at s value size)
plain_value s root value size = nul

-- the element of the field that holds it
abbrev pub plain_field : ℕ → List ℕ → Kind → ℕ → ℕ → List ℕ
plain_field number s kind value size = field_element (field number (plain_value s kind value size))
