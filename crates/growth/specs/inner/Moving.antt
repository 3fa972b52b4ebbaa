-- Growth by one number or one side at a time: refusal k (10, 11 or 12) tells which test is meant.
use Rattle.std.specs.Prelude.{ℕ, ◌+◌, ◌<◌, ◌≤◌, ◌≡◌, ◌≢◌, Bool, true, ◌||◌, ltb, eqb, length, if◌then◌else◌}
use Rattle.graph.specs.Basic.{any, member, distinct}
use Rattle.graph.specs.State.{State, up, node_count, growth_at, dual_of, boundary_of, overgrown_of, with_dual, with_overgrown}
use Rattle.graph.specs.Open.{dual_limit, growth_limit}
use Rattle.graph.specs.Node.{Movable, moved, top_amount}
use Rattle.graph.specs.declared.dual_node.DualNode.{DualNode}
use Rattle.graph.specs.inner.Form.{sides_ok}
use Rattle.graph.specs.inner.Readable.{Readable}
use Rattle.growth.specs.Growth.{passes_weight, top_is, moved_stack}

-- a dual variable or an amount calls for refusal k
unfoldable pub number_refuses : ℕ → ℕ → ℕ → Bool
number_refuses l k x = if eqb k 12 then ltb dual_limit (x + l) else ltb x l

-- the dual variable or the top amount of node n calls for refusal k
unfoldable pub node_refuses : State → ℕ → ℕ → ℕ → Bool
node_refuses c n l k = number_refuses l k (dual_of c n) || top_is (number_refuses l k) (overgrown_of c n)

-- side s calls for refusal k
unfoldable pub side_refuses : State → ℕ → ℕ → ℕ → ℕ → Bool
side_refuses c n l k s = if eqb k 10 then passes_weight c n l s else if eqb k 12 then ltb growth_limit (growth_at c s + l) else ltb (growth_at c s) l

-- node n or some side of its boundary calls for refusal k
unfoldable pub refuses : State → ℕ → ℕ → ℕ → Bool
refuses c n l k = node_refuses c n l k || any (side_refuses c n l k) (boundary_of c n)

-- the dual variable and the top amount are moved
unfoldable pub move_node : State → ℕ → ℕ → ℕ → State
move_node c n d l = with_overgrown (with_dual c n (moved d l (dual_of c n))) n (moved_stack d l (overgrown_of c n))

-- what growth asks of the sides: the boundary of node n lists sides, each once, and their growths can be moved and stay such as a block can hold
pub record SidesMovable (c : State) (n d l : ℕ) : Type 0 where
  pub sides : sides_ok c n ≡ true
  pub once : distinct (boundary_of c n) ≡ true
  pub side : (s : ℕ) → member s (boundary_of c n) ≡ true → Movable d l (growth_at c s)
  pub side-small : (s : ℕ) → member s (boundary_of c n) ≡ true → moved d l (growth_at c s) ≤ growth_limit

-- of the top amount, if there is one: the same
pub record TopMoves (c : State) (n d l : ℕ) : Type 0 where
  pub movable : length (overgrown_of c n) ≢ 0 → Movable d l (top_amount (overgrown_of c n))
  pub small : d ≡ up → length (overgrown_of c n) ≢ 0 → top_amount (overgrown_of c n) + l ≤ dual_limit

-- the top amount of the record x can be written to node n, if it has one
pub record TopPut (c : State) (n : ℕ) (x : DualNode) : Type 0 where
  pub stack : x.overgrown ≡ length (overgrown_of c n)
  pub small : x.overgrown ≢ 0 → x.top < 9007199254740992

-- and of node n: the same of its dual variable too
pub record Growing (c : State) (n d l : ℕ) : Type 0 where
  pub dual : Movable d l (dual_of c n)
  pub dual-small : moved d l (dual_of c n) ≤ dual_limit
  pub top : TopMoves c n d l
  pub each : SidesMovable c n d l

-- a prepared state: it can be read, and the boundary of node n lists sides, each once
pub record PreparedToMove (c : State) (n : ℕ) : Type 0 where
  pub readable : Readable c
  pub node : n < node_count c
  pub sides : sides_ok c n ≡ true
  pub once : distinct (boundary_of c n) ≡ true
