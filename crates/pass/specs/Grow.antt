-- One growing pass over node n: it takes the free vertices behind full boundary edges.
use Rattle.std.specs.Prelude.{ℕ, Bool, ◌&&◌, eqb, length, if◌then◌else◌}
use Rattle.graph.specs.Basic.{fold}
use Rattle.graph.specs.State.{State, opposite, end_at, holder_at, grandson_at, sides_at, passable, vertex_holder_at, boundary_of, overgrown_of, grown_over, weight_over, held_side, held_vertex}
use Rattle.pass.specs.Work.{Work, on_state, keep, note, push, call_another, start_pass}

-- the edge of side s is full, its far side is free, and growth goes on at the far vertex
unfoldable pub reaches : State → ℕ → Bool
reaches c s = eqb (grown_over c s) (weight_over c s) && eqb (holder_at c (opposite s)) 0 && passable c (end_at c (opposite s))

-- a boundary side: the far side is taken and the side noted, or the side is kept
unfoldable pub grow_step : ℕ → Work → ℕ → Work
grow_step n w s = if reaches w.state s then note (on_state w (held_side w.state (opposite s) n (grandson_at w.state s))) s else keep w s

-- a side t at a vertex that is being taken: if free, it is held and kept, and calls for another pass where its edge has weight 0
unfoldable pub take_side : ℕ → ℕ → Work → ℕ → Work
take_side n g w t = if eqb (holder_at w.state t) 0 then call_another (keep (on_state w (held_side w.state t n g)) t) (eqb (weight_over w.state t) 0) else w

-- a vertex v is taken, with its free sides; without any it is overgrown
unfoldable pub take_vertex : ℕ → ℕ → Work → ℕ → Work
take_vertex n g w v =
    let after : Work = fold (take_side n g) (on_state w (held_vertex w.state v n g)) (sides_at w.state v) in
    if eqb (length after.kept) (length w.kept) then push after v else after

-- a noted side: the vertex behind it is taken, if free
unfoldable pub take_step : ℕ → Work → ℕ → Work
take_step n w s =
    if eqb (vertex_holder_at w.state (end_at w.state (opposite s))) 0
    then take_vertex n (grandson_at w.state s) w (end_at w.state (opposite s))
    else w

-- the pass: over the boundary, then over what was noted
unfoldable pub grow_scanned : State → ℕ → Work
grow_scanned c n = fold (grow_step n) (start_pass c (overgrown_of c n)) (boundary_of c n)

unfoldable pub grow_pass : State → ℕ → Work
grow_pass c n = let w : Work = grow_scanned c n in fold (take_step n) w w.noted
