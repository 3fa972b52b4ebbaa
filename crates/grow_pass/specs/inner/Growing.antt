-- The work of a growing pass in memory: the block and the scratch have it, entry by entry.
use Rattle.std.specs.Prelude.{ℕ, ◌+◌, ◌*◌, ◌≤◌, ◌<◌, ◌≡◌, List, ◌++◌, ℤ}
use Rattle.graph.specs.State.{vertex_count, side_count, node_count, overgrown_of}
use Rattle.graph.specs.Word.{numbers_at}
use Rattle.graph.specs.Layout.{stack_from, state_of}
use Rattle.graph.specs.Form.{Formed}
use Rattle.graph.specs.inner.Form.{Becomes}
use Rattle.pass.specs.Work.{Work}
use Rattle.pass.specs.inner.Another.{called}
use Rattle.pass.specs.inner.Scratch.{note_limit, ScratchHolds}
use Rattle.pass.specs.inner.Free.{free_count}
use Rattle.pass.specs.inner.Own.{OwnSides}
use Rattle.grow_pass.specs.declared.take.GrowProgress.{GrowProgress}

-- the work of a pass over node n that block b and scratch t have: m is the number of sides, and p how many entries each section has
unfoldable pub grow_work_in : List ℤ → List ℤ → ℕ → ℕ → GrowProgress → Work
grow_work_in b t n m p = record {
  state = state_of b;
  kept = numbers_at t 0 p.kept;
  noted = numbers_at t (2 * m) p.noted;
  over = stack_from (numbers_at t m p.pushed) ++ overgrown_of (state_of b) n;
  another = called p.another;
}

-- block and scratch have a work: all else in the scratch is zero
pub record GrowWorking (b t : List ℤ) (n m : ℕ) (p : GrowProgress) : Type 0 where
  pub formed : Formed b
  pub node : n < node_count (state_of b)
  pub sides : side_count (state_of b) ≡ m
  pub kept : p.kept ≤ m
  pub noted : p.noted ≤ note_limit (state_of b)
  pub pushed : p.pushed ≤ m
  pub holding : ScratchHolds t m (note_limit (state_of b)) (numbers_at t 0 p.kept) (numbers_at t m p.pushed) (numbers_at t (2 * m) p.noted)

-- no more vertices are noted than are held
abbrev pub NotesFit : List ℤ → GrowProgress → Type 0
NotesFit b p = p.noted + free_count (state_of b) ≤ vertex_count (state_of b)

-- after b₀, block and scratch have the work w
pub record GrowWorked (b₀ b t : List ℤ) (n m : ℕ) (p : GrowProgress) (w : Work) : Type 0 where
  pub block : Becomes b₀ b w.state
  pub working : GrowWorking b t n m p
  pub work : grow_work_in b t n m p ≡ w

-- the kept sides are sides that node n holds, each once
abbrev pub OwnKept : List ℤ → List ℤ → ℕ → ℕ → GrowProgress → Type 0
OwnKept b t n m p = OwnSides n m (state_of b) (numbers_at t 0 p.kept)
