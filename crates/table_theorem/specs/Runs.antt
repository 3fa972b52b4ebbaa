-- What the theorems speak of: lists of calls from an accepted opening, which leave one graph.
use Rattle.std.specs.Prelude.{ℕ, ◌<◌, ◌≡◌, Bool, true, List, pos, length}
use Rattle.graph.specs.State.{State, defect_vertex, node_count, class_of, grow_state_of, dual_of}
use Rattle.graph.specs.Open.{Edge, opened, open_refusal}
use Rattle.calls.specs.Calls.{Call}
use Rattle.reachable.specs.Reachable.{after}
use Rattle.opened_graph.specs.OpenedGraph.{with_weights}
use Rattle.table_theorem.specs.History.{History, entry_at, history_after, no_blossoms}

-- ---- the calls

-- To one graph: an opening with some weights, N and L that is accepted, and a list of calls in which no blossom is accepted. The graph has the
-- opened edges with the weights that stand after the calls: `edges`. Where no change of weights stands, these are the opened ones.
pub record Run (v : ℕ) (edges : List Edge) (virtuals : List ℕ) : Type 0 where
  pub edge_number : ℕ  -- E
  pub node_limit : ℕ  -- N
  pub store_limit : ℕ  -- L
  pub fits : Bool  -- block and scratch have their lengths
  pub given : List Edge  -- the edges as they are opened
  pub opening : open_refusal v edge_number node_limit store_limit given virtuals fits ≡ 0
  pub calls : List Call
  pub without_blossoms : no_blossoms (opened v node_limit store_limit given virtuals) calls ≡ true
  pub present : with_weights given (after (opened v node_limit store_limit given virtuals) calls).graph.weight ≡ edges

module _ {v : ℕ} {edges : List Edge} {virtuals : List ℕ} (r : Run v edges virtuals) where
  abbrev pub start : State
  start = opened v r.node_limit r.store_limit r.given virtuals

  -- the state that the calls leave, and their history
  abbrev pub end : State
  end = after (opened v r.node_limit r.store_limit r.given virtuals) r.calls

  abbrev pub history : History
  history = history_after (opened v r.node_limit r.store_limit r.given virtuals) r.calls

-- ---- nodes and entries

-- node n of the state is the defect of entry n, with its grow state and dual variable
pub record Agrees (c : State) (h : History) (n : ℕ) : Type 0 where
  pub vertex : class_of c n ≡ defect_vertex (entry_at h n).vertex
  pub grow_state : grow_state_of c n ≡ (entry_at h n).grow_state
  pub dual : pos (dual_of c n) ≡ (entry_at h n).y

-- the state's nodes are those of the history
pub record SameNodes (c : State) (h : History) : Type 0 where
  pub count : node_count c ≡ length h
  pub agrees : (n : ℕ) → n < node_count c → Agrees c h n
