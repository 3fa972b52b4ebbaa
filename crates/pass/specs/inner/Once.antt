-- The passes as they run in memory: a vertex is noted the first time only, and has its new holder from then on. By laws/Once they give the
-- state, kept sides, overgrown stack and call for another pass of `growPass` and `shrinkPass`, on every state.
use Rattle.std.specs.Prelude.{ℕ, ◌+◌, ◌&&◌, ◌≡◌, eqb, if◌then◌else◌}
use Rattle.graph.specs.Basic.{fold}
use Rattle.graph.specs.State.{State, opposite, end_at, growth_at, grandson_at, sides_at, defect_at, vertex_holder_at, boundary_of, overgrown_of, held_side, free_vertex, with_vertex_holder}
use Rattle.pass.specs.Work.{Work, on_state, keep, keep_once, note, start_pass}
use Rattle.pass.specs.Grow.{reaches, take_vertex}
use Rattle.pass.specs.Shrink.{release_side, dropped}

-- x is noted, and vertex v has the holder h
unfoldable pub note_with : ℕ → ℕ → Work → ℕ → Work
note_with v h w x = note (on_state w (with_vertex_holder w.state v h)) x

-- ---- growing

-- a side s whose far side is taken: if the vertex behind it is free, node n holds it and the side is noted
unfoldable pub note_far : ℕ → Work → ℕ → Work
note_far n w s =
    if eqb (vertex_holder_at w.state (end_at w.state (opposite s))) 0
    then note_with (end_at w.state (opposite s)) (n + 1) w s
    else w

-- a boundary side: the far side is taken and the vertex behind noted, the first time, or the side is kept
unfoldable pub grow_step_once : ℕ → Work → ℕ → Work
grow_step_once n w s =
    if reaches w.state s then note_far n (on_state w (held_side w.state (opposite s) n (grandson_at w.state s))) s else keep w s

-- a noted side: the vertex behind it is taken
unfoldable pub take_once : ℕ → Work → ℕ → Work
take_once n w s = take_vertex n (grandson_at w.state s) w (end_at w.state (opposite s))

-- the pass: over the boundary, then over what was noted
unfoldable pub grow_scanned_once : State → ℕ → Work
grow_scanned_once c n = fold (grow_step_once n) (start_pass c (overgrown_of c n)) (boundary_of c n)

unfoldable pub grow_pass_once : State → ℕ → Work
grow_pass_once c n = let w : Work = grow_scanned_once c n in fold (take_once n) w w.noted

-- ---- shrinking

-- a side s that is emptied: if its vertex is held, it has no holder any more and is noted
unfoldable pub note_end : Work → ℕ → Work
note_end w s = if eqb (vertex_holder_at w.state (end_at w.state s)) 0 then w else note_with (end_at w.state s) 0 w (end_at w.state s)

-- a boundary side: its vertex is noted, the first time, where the side has growth 0 and stands at no defect, or the side is kept once
unfoldable pub shrink_step_once : Work → ℕ → Work
shrink_step_once w s = if eqb (growth_at w.state s) 0 && eqb (defect_at w.state (end_at w.state s)) 0 then note_end w s else keep_once w s

-- a noted vertex: it is released
unfoldable pub release_once : ℕ → Work → ℕ → Work
release_once n w v = fold (release_side n) (on_state w (free_vertex w.state v)) (sides_at w.state v)

-- the pass: over the empty tops as before, over the boundary, then over what was noted
unfoldable pub shrink_scanned_once : State → ℕ → Work
shrink_scanned_once c n = fold shrink_step_once (dropped c n) (boundary_of c n)

unfoldable pub shrink_pass_once : State → ℕ → Work
shrink_pass_once c n = let w : Work = shrink_scanned_once c n in fold (release_once n) w w.noted

-- ---- what the two ways have in common

-- the works u and w have the same state, kept sides and stack, and call for another pass alike
pub record Alike (u w : Work) : Type 0 where
  pub state : u.state ≡ w.state
  pub kept : u.kept ≡ w.kept
  pub over : u.over ≡ w.over
  pub another : u.another ≡ w.another
