-- The parts of the soundness test that one scan each finds out. What they join to stands in Sound and Layout.
use Rattle.std.specs.Prelude.{ℕ, ◌+◌, ◌≤◌, ◌<◌, ◌≡◌, Bool, true, ◌&&◌, not, List, map, eqb, leb, length, get_or, take}
use Rattle.graph.specs.Basic.{all, member, distinct, same}
use Rattle.graph.specs.State.{State, Overgrown, sides_at, virtual_at, defect_at, holder_at, vertex_holder_at, vertex_grandson_at, class_of, grow_state_of, dual_of, overgrown_of}
use Rattle.graph.specs.Open.{dual_limit, sides_of}
use Rattle.graph.specs.Sound.{node_or_none, class_sound, parent_sound, is_removed}

-- the numbers of vertex v
unfoldable pub vertex_numbers : State → ℕ → Bool
vertex_numbers c v = leb (virtual_at c v) 1 && leb (defect_at c v) 1 && node_or_none c (vertex_holder_at c v) && node_or_none c (vertex_grandson_at c v)

-- the numbers of node n
unfoldable pub node_numbers : State → ℕ → Bool
node_numbers c n = class_sound c n (class_of c n) && leb (grow_state_of c n) 2 && parent_sound c n && leb (dual_of c n) dual_limit

-- node n is not removed
unfoldable pub live : State → ℕ → Bool
live c n = not (is_removed (class_of c n))

-- the sides at vertex v are those whose end it is
unfoldable pub wired_at : State → ℕ → Bool
wired_at c v = same (sides_at c v) (sides_of c.graph.end v)

-- side s, and vertex v, are held by node n
unfoldable pub side_held : State → ℕ → ℕ → Bool
side_held c n s = eqb (holder_at c s) (n + 1)

unfoldable pub vertex_held : State → ℕ → ℕ → Bool
vertex_held c n v = eqb (vertex_holder_at c v) (n + 1)

-- the vertices of the overgrown stack of node n
abbrev pub overgrown_vertices : State → ℕ → List ℕ
overgrown_vertices c n = map (λ (o : Overgrown). o.vertex) (overgrown_of c n)

-- no entry stands twice, and all pass
unfoldable pub once_all : (ℕ → Bool) → List ℕ → Bool
once_all p l = distinct l && all p l

-- no number of the array is above k
abbrev pub AtMost : List ℕ → ℕ → Type 0
AtMost m k = (x : ℕ) → get_or m x 0 ≤ k

-- the first i entries of l carry k in the array m, and no other number does
abbrev pub Carry : ℕ → List ℕ → ℕ → List ℕ → Type 0
Carry k l i m = (x : ℕ) → x < length m → eqb (get_or m x 0) k ≡ member x (take i l)

-- the first i entries of l pass, none of them twice, and they alone carry k
pub record Stamped (k : ℕ) (p : ℕ → Bool) (l : List ℕ) (i : ℕ) (m : List ℕ) : Type 0 where
  pub within : i ≤ length l
  pub most : AtMost m k
  pub marks : Carry k l i m
  pub once : distinct (take i l) ≡ true
  pub pass : all p (take i l) ≡ true
