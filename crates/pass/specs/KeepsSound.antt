-- Whether preparing a node for shrinking keeps a sound state sound: it frees only what the node holds, and leaves the node with what it
-- lists. The test reads the vertices that go, their sides, and the node's own lists.
use Rattle.std.specs.Prelude.{ℕ, zero, suc, ◌+◌, Bool, true, false, ◌&&◌, ◌||◌, not, eqb}
use Rattle.graph.specs.Basic.{all}
use Rattle.graph.specs.State.{State, Overgrown, vertex_count, end_at, growth_at, holder_at, sides_at, defect_at, vertex_holder_at, boundary_of, overgrown_of, down}
use Rattle.pass.specs.Work.{finish_pass}
use Rattle.pass.specs.Shrink.{empty_tops, shrink_pass}
use Rattle.pass.specs.Prepare.{prepare_node}

-- ---- before each pass

-- side t is free, or node n holds it
unfoldable pub own_side : ℕ → State → ℕ → Bool
own_side n c t = eqb (holder_at c t) 0 || eqb (holder_at c t) (n + 1)

-- node n holds vertex v, and no other node holds a side there
unfoldable pub own_vertex : ℕ → State → ℕ → Bool
own_vertex n c v = eqb (vertex_holder_at c v) (n + 1) && all (own_side n c) (sides_at c v)

-- vertex v may go from node n: it is free, or the node's own
unfoldable pub may_go : ℕ → State → ℕ → Bool
may_go n c v = eqb (vertex_holder_at c v) 0 || own_vertex n c v

-- boundary side s has growth or stands at a defect, or its vertex may go
unfoldable pub side_may_go : ℕ → State → ℕ → Bool
side_may_go n c s = not (eqb (growth_at c s) 0 && eqb (defect_at c (end_at c s)) 0) || may_go n c (end_at c s)

-- a shrinking pass over node n frees only what the node holds: asked of the state before it
unfoldable pub pass_own : State → ℕ → Bool
pass_own c n = all (may_go n c) (empty_tops (overgrown_of c n)) && all (side_may_go n c) (boundary_of c n)

-- so does every pass of a preparation, of at most `fuel` passes more
unfoldable pub passes_own : ℕ → State → ℕ → Bool
passes_own zero c n = true
passes_own (suc fuel) c n = pass_own c n && elim (shrink_pass c n).another [ true ↦ passes_own fuel (finish_pass (shrink_pass c n) n) n | false ↦ true ]

-- ---- after the last pass

-- node n holds every side that it lists and every vertex of its stack
unfoldable pub holds_lists : State → ℕ → Bool
holds_lists c n =
    all (λ s. eqb (holder_at c s) (n + 1)) (boundary_of c n)
    && all (λ (o : Overgrown). eqb (vertex_holder_at c o.vertex) (n + 1)) (overgrown_of c n)

-- ---- the test

-- preparing node n for shrinking frees only what n holds, and leaves it with what it lists
unfoldable pub keeps_sound : State → ℕ → Bool
keeps_sound c n = passes_own (suc (vertex_count c)) c n && holds_lists (prepare_node c n down).state n
