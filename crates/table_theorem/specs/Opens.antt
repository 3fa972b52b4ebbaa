-- A name that opens all definitions of this crate and of those below: under `unfolding everything` a closed term computes.
use Rattle.std.specs.Prelude.{ℕ}
use Rattle.calls.specs.Opens as Below
use Rattle.calls.specs.Examples as Made
use Rattle.reachable.specs.Reachable
use Rattle.distance.specs.Opens as Distances
use Rattle.opened_graph.specs.OpenedGraph
use Rattle.table_theorem.specs.Answers
use Rattle.table_theorem.specs.History

unfoldable pub everything : ℕ
unfolding Below.everything Made.edge Reachable.after Distances.everything Answers.accepted Answers.is_done
    Answers.limit_of History.with_node_state History.with_added History.advance_length History.round_length History.with_round
    History.recorded History.history_from History.no_blossom History.changes_weights History.no_blossoms History.dual_at History.natural History.duals_of
    OpenedGraph.opened_graph OpenedGraph.with_weights
everything = 0
