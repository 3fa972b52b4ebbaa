-- What a run hands over of itself.
use Rattle.std.specs.Prelude.{ℕ, ◌+◌, ◌*◌, ◌<◌, ◌≡◌, List, map, ℤ, pos, negsuc, ltb, length, get_or, if◌then◌else◌}
use Rattle.graph.specs.Word.{to_nat}
use Rattle.graph.specs.Open.{Edge}
use Rattle.graph.specs.Opening.{edges_from, virtuals_from}
use Rattle.calls.specs.Calls.{growth_table}
use Rattle.distance.specs.Distance.{unreachable, dist}
use Rattle.opened_graph.specs.OpenedGraph.{opened_graph}
use Rattle.table_theorem.specs.History.{Entry, entry_at}
use Rattle.table_theorem.specs.Runs.{Run, end, history}

-- the word of a distance: -1 where there is no way
unfoldable pub distance_word : ℕ → ℤ
distance_word d = if ltb d unreachable then pos d else negsuc 0

-- Words that give what the run has: its graph; the vertices and dual variables of its history, in order; its growth table; and for each of
-- these defects the distance to every vertex.
pub record Own {v : ℕ} {edges : List Edge} {virtuals : List ℕ} (r : Run v edges virtuals)
    (edges' virtuals' defects' duals' growths' distances' : List ℤ) : Type 0 where
  pub edges_are : edges_from edges' ≡ edges
  pub virtuals-are : virtuals_from virtuals' ≡ virtuals
  pub defects-are : map to_nat defects' ≡ map (λ (x : Entry). x.vertex) (history r)
  pub duals-are : duals' ≡ map (λ (x : Entry). x.y) (history r)
  pub growths-are : map to_nat growths' ≡ growth_table (end r)
  pub distances-long : length distances' ≡ length (history r) * v
  pub distances-are : (i u : ℕ) → i < length (history r) → u < v
      → get_or distances' (i * v + u) (negsuc 0) ≡ distance_word (dist (opened_graph v edges virtuals) (entry_at (history r) i).vertex u)
