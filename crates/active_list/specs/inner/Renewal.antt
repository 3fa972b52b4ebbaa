-- Renewal in place, entry by entry: what one entry does to the list and to the number of those kept.
use Rattle.std.specs.Prelude.{ℕ, ◌+◌, List, get_or, set, if◌then◌else◌}
use Rattle.graph.specs.State.{State}
use Rattle.graph.specs.Active.{is_active}

-- entry i goes to place j, where its node is not in Stay
unfoldable pub kept_at : State → ℕ → ℕ → List ℕ
kept_at c i j = if is_active c (get_or c.active i 0) then set c.active j (get_or c.active i 0) else c.active

-- how many are kept then, j before
unfoldable pub kept_count : State → ℕ → ℕ → ℕ
kept_count c i j = if is_active c (get_or c.active i 0) then j + 1 else j
