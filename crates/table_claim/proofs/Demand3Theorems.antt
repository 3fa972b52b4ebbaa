-- The theorem: demand 3 (SPECIFICATION 11.3) holds of every suitable graph. Beside it: a node that is read is the one of
-- the history.
use Rattle.std.specs.Prelude.{ℕ, ◌≤◌, ◌≡◌, List, ℤ, pos, length, get_or, if◌then◌else◌}
use Rattle.graph.specs.Open.{Edge}
use Rattle.c_api.specs.Words.{Tells}
use Rattle.dual_module_node.specs.Outcome.{NodeRead}
use Rattle.dual_module_node.specs.Outcome.{Defect, Refused}
use Rattle.dual_module_node.specs.ReadNode.{ReadNodeCalled}
use Rattle.c_api_node.specs.Told.{read_node_numbers, ReadNodeTold}
use Rattle.table_theorem.specs.History.{entry_at}
use Rattle.table_claim.specs.Run.{scratch_fits, LentRun, run_sizes, lent_history, WithoutBlossoms}
use Rattle.table_claim.specs.Hosted.{HostRun, host_sizes, host_history, BlossomsRefused}
use Rattle.table_claim.specs.Demand3.{Suitable, Demand3}
use Rattle.table_claim.specs.NodeRecorded.{recorded_node, SaysDefect}
use Rattle.table_claim.proofs.laws.Demand3.{claimed}
use Rattle.table_claim.proofs.laws.NodeRecorded.{node-recorded, dual-recorded, told-recorded, told-dual-recorded}

pub demand-3 : (v : ℕ) (edges : List Edge) (virtuals : List ℕ) → Suitable v edges virtuals → Demand3 v edges virtuals
demand-3 = claimed

-- After any list of calls on any graph, as long as no blossom is accepted:
module _ {v : ℕ} {edges : List Edge} {virtuals : List ℕ} (r : LentRun v edges virtuals) (h : WithoutBlossoms r) where
  -- what is told of node n is what the history says of it, for every n and every scratch;
  pub read-node-is-recorded : (t : List ℤ) (n : ℕ) (a : NodeRead) → ReadNodeCalled r.last t n a
      → a ≡ (if scratch_fits (run_sizes r) t then recorded_node (lent_history r) n else Refused 1)
  read-node-is-recorded = node-recorded r h

  -- its dual variable is the one that is recorded.
  pub read-dual-is-recorded : (t : List ℤ) (n vertex x p y : ℕ) → ReadNodeCalled r.last t n (Defect vertex x p y)
      → pos y ≡ (entry_at (lent_history r) n).y
  read-dual-is-recorded = dual-recorded r h

-- Both of the exported calls, in numbers: the dual variable is the fourth behind the case.
module _ {v : ℕ} {edges : List Edge} {virtuals : List ℕ} (r : HostRun v edges virtuals) (h : BlossomsRefused r)
    (t : List ℤ) (n : ℕ) {list list' : List ℕ} {k : ℕ} where
  pub told-node-is-recorded : ReadNodeTold r.last t n list list' k → 5 ≤ length list
      → Tells (read_node_numbers (if scratch_fits (host_sizes r) t then recorded_node (host_history r) n else Refused 1))
      list list' k
  told-node-is-recorded = told-recorded r h t n

  pub told-dual-is-recorded : ReadNodeTold r.last t n list list' k → SaysDefect list list'
      → pos (get_or list' 4 0) ≡ (entry_at (host_history r) n).y
  told-dual-is-recorded = told-dual-recorded r h t n
