-- The list store of a circle, so that L can be computed in advance.
use Rattle.std.specs.Prelude.{ℕ, ◌+◌, ◌*◌}
use Rattle.graph.specs.State.{State, vertex_count, side_count}

-- 64 (2 E + V): for the lists of 63 members and of their blossom
abbrev pub circle_store : State → ℕ
circle_store c = 64 * (side_count c + vertex_count c)
