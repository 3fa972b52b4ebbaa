-- When a body is a record: `decoded` gives something else than `illFormed`.
use Rattle.std.specs.Prelude.{ℕ, ◌-◌, Bool, true, false, ◌&&◌, List, leb, length}
use Rattle.records.specs.Record.{Record, sizes, an_edge, a_virtual, ask, ill_formed, pair_at, fields_fit, decoded}

-- a record that says something
unfoldable pub is_record : Record → Bool
is_record (sizes v e n l) = true
is_record (an_edge x) = true
is_record (a_virtual v) = true
is_record (ask c) = true
is_record ill_formed = false

-- a body of which `decoded` makes a record
unfoldable pub well_formed : List ℕ → Bool
well_formed b = is_record (decoded b)

-- kind and length of a body fit
unfoldable pub length_fits : List ℕ → Bool
length_fits b = leb 2 (length b) && fields_fit (pair_at b 0) (length b - 2)
