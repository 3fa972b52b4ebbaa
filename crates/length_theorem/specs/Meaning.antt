-- The words of minimum weight matching, on a run without blossoms: each defect node has a dual variable; two nodes must not have more together
-- than the distance of their defects, and none more than its distance to a virtual vertex. A constraint that holds with equality is tight.
-- What a growing length, prepared first, says of them.
use Rattle.std.specs.Prelude.{ℕ, suc, ◌+◌, ◌≤◌, ◌<◌, ◌≡◌, ◌≢◌, ◌⊎◌, true, List, ℤ, pos}
use Rattle.graph.specs.State.{defect_vertex, node_count, class_of, grow_state_of, dual_of, growing, shrinking, up}
use Rattle.graph.specs.Open.{Edge}
use Rattle.answers.specs.Outcome.{Answer}
use Rattle.answers.specs.Outcome.{Length}
use Rattle.answers.specs.declared.MaxUpdateLength.TheVariants.{Conflicting, TouchingVirtual}
use Rattle.calls.specs.Calls.{max_update_length}
use Rattle.distance.specs.Graph.{WeightedGraph, Virtual, Walk}
use Rattle.distance.specs.Distance.{dist}
use Rattle.opened_graph.specs.OpenedGraph.{opened_graph}
use Rattle.table_theorem.specs.Runs.{Run, end}

-- the answers that name an obstacle of node n: a conflict with a peer, or a virtual vertex
pub data Obstacle (n : ℕ) : Answer → Type 0 where
  conflicts : (p h k : ℕ) → Obstacle n (Length (Conflicting p h n k))
  touches : (k u : ℕ) → Obstacle n (Length (TouchingVirtual n k u))

module _ {v : ℕ} {edges : List Edge} {virtuals : List ℕ} (r : Run v edges virtuals) where
  abbrev pub run_graph : WeightedGraph
  run_graph = opened_graph v edges virtuals

  -- the dual variable of node n after the calls
  abbrev pub dual_is : ℕ → ℕ
  dual_is n = dual_of (end r) n

  -- how far node n may grow, prepared first
  abbrev pub growing_length : ℕ → Answer
  growing_length n = (max_update_length (end r) n up true).answer

  -- node n is the defect at vertex x
  pub record DefectAt (n x : ℕ) : Type 0 where
    pub inside : n < node_count (end r)
    pub class : class_of (end r) n ≡ defect_vertex x

  -- no node is Shrink
  abbrev pub NoneShrinks : Type 0
  NoneShrinks = (m : ℕ) → m < node_count (end r) → grow_state_of (end r) m ≢ shrinking

  -- Nodes p and q are two defects, and their constraint is tight.
  pub record ContactMeans (p q : ℕ) : Type 0 where
    pub other : q ≢ p
    pub left-vertex : ℕ
    pub right-vertex : ℕ
    pub left-defect : DefectAt p left-vertex
    pub right-defect : DefectAt q right-vertex
    pub tight : dual_is p + dual_is q ≡ dist run_graph left-vertex right-vertex

  module _ (n x : ℕ) where
    -- a tight constraint on node n, the defect at x: with another node, or with a virtual vertex
    pub data Tight : Type 0 where
      with-node : (p z : ℕ) → p ≢ n → DefectAt p z → dual_is n + dual_is p ≡ dist run_graph x z → Tight
      with-virtual : (u : ℕ) → u < v → Virtual run_graph u → dual_is n ≡ dist run_graph x u → Tight

    -- A conflict of node m with peer p: m is n, and their constraint is tight; or 1 is left of it where the peer is Grow, since the gap is halved
    -- downward.
    pub record ConflictMeans (p m : ℕ) : Type 0 where
      pub node : m ≡ n
      pub other : p ≢ n
      pub vertex : ℕ
      pub defect : DefectAt p vertex
      pub tight : (dual_is n + dual_is p ≡ dist run_graph x vertex)
          ⊎ ((grow_state_of (end r) p ≡ growing) × (dual_is n + dual_is p + 1 ≡ dist run_graph x vertex))

    -- node m touches vertex u: m is n, u is virtual, and their constraint is tight
    pub record VirtualMeans (m u : ℕ) : Type 0 where
      pub node : m ≡ n
      pub placed : u < v
      pub virtual : Virtual run_graph u
      pub tight : dual_is n ≡ dist run_graph x u

    -- if node n grew by l, every constraint on it would still hold: along no walk to another defect or to a virtual vertex is there too little
    pub record Keeps (l : ℕ) : Type 0 where
      pub nodes : (p z k : ℕ) → p ≢ n → DefectAt p z → Walk run_graph x z k → dual_is n + l + dual_is p ≤ k
      pub touching : (u k : ℕ) → u < v → Virtual run_graph u → Walk run_graph x u k → dual_is n + l ≤ k

    -- a free length l: above 0, and growth by it keeps every constraint
    pub record FreeBy (l : ℤ) : Type 0 where
      pub by : ℕ
      pub is : l ≡ pos (suc by)
      pub keeps : Keeps (suc by)
