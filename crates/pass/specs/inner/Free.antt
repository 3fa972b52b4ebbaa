-- How many vertices are free.
use Rattle.std.specs.Prelude.{ℕ, suc, List, [], ◌∷◌, eqb, if◌then◌else◌}
use Rattle.graph.specs.State.{State}

-- how many entries are 0
unfoldable pub zero_count : List ℕ → ℕ
zero_count [] = 0
zero_count (x ∷ xs) = if eqb x 0 then suc (zero_count xs) else zero_count xs

-- how many vertices are free
abbrev pub free_count : State → ℕ
free_count c = zero_count c.vertices.vertex_holder
