-- What a pass asks of memory and state, and what it leaves.
use Rattle.std.specs.Prelude.{ℕ, ◌+◌, ◌≤◌, ◌<◌, ◌≡◌, ◌≢◌, Bool, true, List, ℤ, ltb, length}
use Rattle.graph.specs.Basic.{all, distinct}
use Rattle.graph.specs.State.{State, Overgrown, up, vertex_count, side_count, node_count, parent_of, boundary_of, overgrown_of}
use Rattle.graph.specs.Sound.{sound, entries, entries_of}
use Rattle.graph.specs.Layout.{state_of}
use Rattle.graph.specs.Form.{Formed}
use Rattle.graph.specs.inner.Form.{Becomes, sides_ok}
use Rattle.pass.specs.Work.{Work, finish_pass}
use Rattle.pass.specs.Scratch.{scratch_of}
use Rattle.pass.specs.Prepare.{Prepared}

-- the block is in form, the scratch all zero, and the store has room for 2 E sides and V vertices in the lists of node n
pub record Ready (b t : List ℤ) (n : ℕ) : Type 0 where
  pub formed : Formed b
  pub node : n < node_count (state_of b)
  pub scratch : t ≡ scratch_of (state_of b)
  pub room : entries (state_of b) + (side_count (state_of b) + vertex_count (state_of b)) ≤ (state_of b).store_limit + entries_of (state_of b) n

-- a growing pass over node n asks for a sound state, in which n is outermost, and leaves one
pub record Growable (c : State) (n : ℕ) : Type 0 where
  pub sounds : sound c ≡ true
  pub outer : parent_of c n ≡ 0

-- a shrinking pass asks for less, and leaves it: on a state that no call list reaches it may leave one that is not sound
pub record Shrinkable (c : State) (n : ℕ) : Type 0 where
  pub sides : sides_ok c n ≡ true
  pub once : distinct (boundary_of c n) ≡ true
  pub stack : all (λ (o : Overgrown). ltb o.vertex (vertex_count c)) (overgrown_of c n) ≡ true
  pub size : length (overgrown_of c n) ≤ vertex_count c

-- what a pass in direction d asks of the state
pub record Preparable (c : State) (n d : ℕ) : Type 0 where
  pub grows : d ≡ up → Growable c n
  pub shrinks : d ≢ up → Shrinkable c n

-- after b₀ and t₀: the block holds what the pass w over node n finishes with, the scratch is as it was, and r says whether another pass is called for
pub record AfterPass (b₀ b t₀ t : List ℤ) (n : ℕ) (w : Work) (r : Bool) : Type 0 where
  pub block : Becomes b₀ b (finish_pass w n)
  pub scratch : t ≡ t₀
  pub another : r ≡ w.another

-- after b₀ and t₀: the block holds the prepared state, the scratch is as it was, and k passes were made
pub record AfterPreparation (b₀ b t₀ t : List ℤ) (p : Prepared) (k : ℕ) : Type 0 where
  pub block : Becomes b₀ b p.state
  pub scratch : t ≡ t₀
  pub passes : k ≡ p.passes
