-- A record that the bytes at hand have whole.
use Rattle.std.specs.Prelude.{ℕ, ◌+◌, Bool, List, leb, length}
use Rattle.records.specs.Record.{pair_at}

-- a record begins at place i, and all its bytes are there
unfoldable pub whole_at : List ℕ → ℕ → Bool
whole_at b i = leb (i + 2 + pair_at b i) (length b)
