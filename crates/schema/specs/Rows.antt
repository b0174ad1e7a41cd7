-- The code's rows in the table's terms.
use Rattle.std.specs.Prelude.{ℕ, Option, Some, None}
use Rattle.schema.specs.Table as table
use Rattle.schema.specs.declared.Kind.{Kind}
use Rattle.schema.specs.declared.Row.{Row}

abbrev pub of_kind : Kind → table.Kind
of_kind Kind.Set = table.set
of_kind Kind.Number32 = table.number32
of_kind Kind.Number64 = table.number64
of_kind Kind.Null = table.null
of_kind Kind.Octets = table.octets
of_kind Kind.Root = table.root

abbrev pub of_row : Row → table.Row
of_row r = table.row r.number (of_kind r.kind) r.first r.last

-- the place of a row in the table; where there is none, how many rows there are, as `index_of` has it
abbrev pub place_of : Option ℕ → ℕ
place_of (Some k) = k
place_of None = table.row_count
