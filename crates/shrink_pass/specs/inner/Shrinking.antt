-- A shrinking pass in memory: the block has its state, the scratch its kept sides, marks and noted vertices.
use Rattle.std.specs.Prelude.{ℕ, zero, suc, ◌+◌, ◌*◌, ◌≤◌, ◌≡◌, Bool, true, ◌&&◌, ◌||◌, List, map, ℤ, pos, eqb, ltb, length, set, drop, if◌then◌else◌}
use Rattle.graph.specs.Basic.{fold, all, below, distinct}
use Rattle.graph.specs.State.{State, vertex_count, side_count, end_at, growth_at, defect_at, sides_at, free_side, free_vertex}
use Rattle.graph.specs.Open.{flag_in}
use Rattle.graph.specs.Word.{word_at}
use Rattle.graph.specs.Layout.{state_of}
use Rattle.graph.specs.Form.{Formed}
use Rattle.graph.specs.inner.Form.{Becomes}
use Rattle.graph.specs.inner.Kept.{SameButHolders}
use Rattle.pass.specs.Work.{Work, on_state}
use Rattle.pass.specs.Shrink.{closed, drop_side}
use Rattle.pass.specs.inner.Another.{called}
use Rattle.pass.specs.inner.Scratch.{note_limit, ScratchHolds}
use Rattle.shrink_pass.specs.declared.keep.ShrinkProgress.{ShrinkProgress}

-- of each side below m, 1 if it is kept, 0 else
unfoldable pub marks : ℕ → List ℕ → List ℕ
marks m kept = map (flag_in kept) (below m)

-- the block b and the scratch t have the work w of a shrinking pass over m sides, as far as p counts
pub record HasShrinkWork (b t : List ℤ) (m : ℕ) (p : ShrinkProgress) (w : Work) : Type 0 where
  pub state : state_of b ≡ w.state
  pub scratch : ScratchHolds t m (note_limit (state_of b)) w.kept (marks m w.kept) w.noted
  pub kept : p.kept ≡ length w.kept
  pub noted : p.noted ≡ length w.noted
  pub another : called p.another ≡ w.another
  pub inside : all (λ s. ltb s m) w.kept ≡ true
  pub once : distinct w.kept ≡ true
  pub ends : all (λ v. ltb v (vertex_count (state_of b))) w.noted ≡ true

-- they have some work of a shrinking pass
pub record ShrinkWorking (b t : List ℤ) (m : ℕ) (p : ShrinkProgress) : Type 0 where
  pub formed : Formed b
  pub sides : m ≡ side_count (state_of b)
  pub size : length t ≡ 2 * m + note_limit (state_of b)
  pub room : p.kept ≤ m
  pub notes : p.noted ≤ note_limit (state_of b)
  pub work : Work
  pub has : HasShrinkWork b t m p work

-- from b₀ and t₀ to b and t: whatever work the memory had, it has f of it now
pub record ShrinkWorked (b₀ t₀ b t : List ℤ) (m : ℕ) (p₀ p : ShrinkProgress) (f : Work → Work) : Type 0 where
  pub block : Becomes b₀ b (state_of b)
  pub keeps : SameButHolders (state_of b₀) (state_of b)
  pub working : ShrinkWorking b t m p
  pub run : (w : Work) → HasShrinkWork b₀ t₀ m p₀ w → HasShrinkWork b t m p (f w)

-- ---- what the loops share

-- a side at a vertex that goes: taken off the overgrown stack, if d, or released
unfoldable pub part_side : Bool → ℕ → Work → ℕ → Work
part_side d n w t = if d || closed n w.state t then drop_side w t else on_state w (free_side w.state t)

-- the vertex with its sides
unfoldable pub part_vertex : Bool → ℕ → Work → ℕ → Work
part_vertex d n w v = fold (part_side d n) (on_state w (free_vertex w.state v)) (sides_at w.state v)

-- side s has growth 0 and stands at no defect: its vertex goes
unfoldable pub vertex_left : State → ℕ → Bool
vertex_left c s = eqb (growth_at c s) 0 && eqb (defect_at c (end_at c s)) 0

-- ---- clearing

-- the scratch t without the marks of its first i kept sides
unfoldable pub unmarked : List ℤ → ℕ → ℕ → List ℤ
unmarked t m zero = t
unmarked t m (suc i) = set (unmarked t m i) (m + word_at t i) (pos 0)

-- the scratch has kept sides and noted vertices; the kept ones but for the first i are marked
pub record KeptMarked (t : List ℤ) (m : ℕ) (p : ShrinkProgress) (i : ℕ) : Type 0 where
  pub limit : ℕ
  pub kept : List ℕ
  pub noted : List ℕ
  pub scratch : ScratchHolds t m limit kept (marks m (drop i kept)) noted
  pub keeps : p.kept ≡ length kept
  pub notes : p.noted ≡ length noted
  pub inside : all (λ s. ltb s m) kept ≡ true
  pub once : distinct kept ≡ true
  pub size : length t ≡ 2 * m + limit
  pub room : p.kept ≤ m
  pub space : p.noted ≤ limit
