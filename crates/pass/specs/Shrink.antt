-- One shrinking pass over node n: it releases overgrown vertices of amount 0, then the vertices behind boundary sides of growth 0.
use Rattle.std.specs.Prelude.{ℕ, ◌+◌, Bool, ◌&&◌, List, [], ◌∷◌, eqb, leb, if◌then◌else◌}
use Rattle.graph.specs.Basic.{fold}
use Rattle.graph.specs.State.{State, Overgrown, opposite, end_at, growth_at, holder_at, sides_at, defect_at, vertex_holder_at, boundary_of, overgrown_of, grown_over, weight_over, free_side, free_vertex}
use Rattle.pass.specs.Work.{Work, on_state, keep_once, note, call_another, start_pass}

-- the vertices at the top of a stack whose amount is 0, from the top down
unfoldable pub empty_tops : List Overgrown → List ℕ
empty_tops [] = []
empty_tops (o ∷ os) = if eqb o.amount 0 then o.vertex ∷ empty_tops os else []

-- the stack without them
unfoldable pub below_tops : List Overgrown → List Overgrown
below_tops [] = []
below_tops (o ∷ os) = if eqb o.amount 0 then below_tops os else o ∷ os

-- a side t at an overgrown vertex that is taken off: it is freed, the side across is kept once, and an edge of weight 0 calls for another pass
unfoldable pub drop_side : Work → ℕ → Work
drop_side w t = call_another (keep_once (on_state w (free_side w.state t)) (opposite t)) (eqb (weight_over w.state t) 0)

-- an overgrown vertex v is taken off: if node n holds it, it is released
unfoldable pub drop_step : ℕ → Work → ℕ → Work
drop_step n w v = if eqb (vertex_holder_at w.state v) (n + 1) then fold drop_side (on_state w (free_vertex w.state v)) (sides_at w.state v) else w

-- a boundary side: its vertex is noted, where the side has growth 0 and stands at no defect, or the side is kept once
unfoldable pub shrink_step : Work → ℕ → Work
shrink_step w s = if eqb (growth_at w.state s) 0 && eqb (defect_at w.state (end_at w.state s)) 0 then note w (end_at w.state s) else keep_once w s

-- node n holds both sides of the edge of side t, and the edge is full
unfoldable pub closed : ℕ → State → ℕ → Bool
closed n c t = eqb (holder_at c t) (n + 1) && eqb (holder_at c (opposite t)) (n + 1) && leb (weight_over c t) (grown_over c t)

-- a side t at a vertex that is released: it is freed; of a closed edge the side across is kept once, and weight 0 calls for another pass
unfoldable pub release_side : ℕ → Work → ℕ → Work
release_side n w t =
    if closed n w.state t
    then call_another (keep_once (on_state w (free_side w.state t)) (opposite t)) (eqb (weight_over w.state t) 0)
    else on_state w (free_side w.state t)

-- a noted vertex: it is released, if held
unfoldable pub release_step : ℕ → Work → ℕ → Work
release_step n w v = if eqb (vertex_holder_at w.state v) 0 then w else fold (release_side n) (on_state w (free_vertex w.state v)) (sides_at w.state v)

-- the pass: over the empty tops, over the boundary, then over what was noted
unfoldable pub dropped : State → ℕ → Work
dropped c n = fold (drop_step n) (start_pass c (below_tops (overgrown_of c n))) (empty_tops (overgrown_of c n))

unfoldable pub shrink_scanned : State → ℕ → Work
shrink_scanned c n = fold shrink_step (dropped c n) (boundary_of c n)

unfoldable pub shrink_pass : State → ℕ → Work
shrink_pass c n = let w : Work = shrink_scanned c n in fold (release_step n) w w.noted
