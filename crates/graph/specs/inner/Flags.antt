-- A list with a flag set.
use Rattle.std.specs.Prelude.{ℕ, List, set}

-- 1 is put at place x
unfoldable pub flagged : List ℕ → ℕ → List ℕ
flagged r x = set r x 1
