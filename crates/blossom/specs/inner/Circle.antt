-- What the functions that insert a blossom ask of its circle, and what they leave in memory.
use Rattle.std.specs.Prelude.{ℕ, ◌+◌, ◌*◌, ◌≤◌, ◌<◌, ◌≡◌, true, List, ℤ, ltb, length}
use Rattle.graph.specs.Basic.{all, member, distinct}
use Rattle.graph.specs.State.{State, vertex_count, side_count, node_count, holder_at}
use Rattle.graph.specs.Word.{numbers_at}
use Rattle.graph.specs.Layout.{state_of}
use Rattle.graph.specs.inner.Form.{Becomes}
use Rattle.pass.specs.inner.Ready.{Shrinkable}
use Rattle.calls.specs.Refuse.{entries_but}
use Rattle.calls.specs.inner.Front.{FrontHolds}
use Rattle.calls.specs.Insert.{Joining}

-- the circle's members are nodes, none twice, that may be shrunk; one more node is allowed, and the store has room for its lists and theirs
pub record Joinable (c : State) (circle : List ℕ) : Type 0 where
  pub inside : (m : ℕ) → member m circle ≡ true → m < node_count c
  pub once : distinct circle ≡ true
  pub lists : (m : ℕ) → member m circle ≡ true → Shrinkable c m
  pub count : node_count c < c.node_limit
  pub room : entries_but c circle + (length circle + 1) * (side_count c + vertex_count c) ≤ c.store_limit

-- what is joined in memory: the state of the block, and the k sides at the front of the scratch
abbrev pub joined_in : List ℤ → List ℤ → ℕ → Joining
joined_in b t k = record { state = state_of b; sides = numbers_at t 0 k }

-- after b₀: block and scratch hold what is joined to blossom n, k sides, none twice and each held by n
pub record JoinedIn (b₀ b t : List ℤ) (n k : ℕ) (j : Joining) : Type 0 where
  pub block : Becomes b₀ b j.state
  pub holding : FrontHolds t (state_of b₀) j.sides
  pub count : k ≡ length j.sides
  pub once : distinct j.sides ≡ true
  pub inside : all (λ s. ltb s (side_count (state_of b₀))) j.sides ≡ true
  pub held : (s : ℕ) → member s j.sides ≡ true → holder_at j.state s ≡ n + 1
