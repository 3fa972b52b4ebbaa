-- Both lists of a node replaced.
use Rattle.std.specs.Prelude.{ℕ, ◌-◌, List, ◌++◌, length, drop}
use Rattle.graph.specs.State.{State, overgrown_of, with_boundary, with_overgrown}
use Rattle.graph.specs.Layout.{stack_from}

-- the state with s as the boundary of node n; of its overgrown stack the lowest m entries stay, and the words of w come on top, the top last
unfoldable pub with_lists : State → ℕ → List ℕ → ℕ → List ℕ → State
with_lists c n s m w = with_overgrown (with_boundary c n s) n (stack_from w ++ drop (length (overgrown_of c n) - m) (overgrown_of c n))
