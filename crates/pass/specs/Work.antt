-- What a pass holds while it runs, and the small changes that its loops make.
use Rattle.std.specs.Prelude.{ℕ, Bool, false, ◌||◌, List, [], ◌∷◌, ◌++◌, if◌then◌else◌}
use Rattle.graph.specs.Basic.{member}
use Rattle.graph.specs.State.{State, Overgrown, with_boundary, with_overgrown}

pub record Work : Type 0 where
  pub state : State  -- vertices and sides as changed so far; the node's lists as they were
  pub kept : List ℕ  -- the sides of the new boundary, in order
  pub noted : List ℕ  -- what the next loop is about
  pub over : List Overgrown  -- the new overgrown stack
  pub another : Bool  -- another pass is called for

-- the state is c now
unfoldable pub on_state : Work → State → Work
on_state w c = record { state = c; kept = w.kept; noted = w.noted; over = w.over; another = w.another }

-- side s is kept
unfoldable pub keep : Work → ℕ → Work
keep w s = record { state = w.state; kept = w.kept ++ (s ∷ []); noted = w.noted; over = w.over; another = w.another }

-- side s is kept, once
unfoldable pub keep_once : Work → ℕ → Work
keep_once w s = if member s w.kept then w else keep w s

-- x is noted for the next loop
unfoldable pub note : Work → ℕ → Work
note w x = record { state = w.state; kept = w.kept; noted = w.noted ++ (x ∷ []); over = w.over; another = w.another }

-- vertex v goes on the overgrown stack, with amount 0
unfoldable pub push : Work → ℕ → Work
push w v = record { state = w.state; kept = w.kept; noted = w.noted; over = record { vertex = v; amount = 0 } ∷ w.over; another = w.another }

-- another pass is called for, if the test passes
unfoldable pub call_another : Work → Bool → Work
call_another w t = record { state = w.state; kept = w.kept; noted = w.noted; over = w.over; another = w.another || t }

-- the start of a pass over node n with the overgrown stack o
unfoldable pub start_pass : State → List Overgrown → Work
start_pass c o = record { state = c; kept = []; noted = []; over = o; another = false }

-- the end of a pass over node n: its lists are written
unfoldable pub finish_pass : Work → ℕ → State
finish_pass w n = with_overgrown (with_boundary w.state n w.kept) n w.over
