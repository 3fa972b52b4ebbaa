-- A name that opens all definitions of this crate and those below that it uses: under `unfolding everything` a closed term computes.
use Rattle.std.specs.Prelude.{ℕ}
use Rattle.graph.specs.Opens as Graph
use Rattle.graph.specs.Word
use Rattle.graph.specs.Opening
use Rattle.sheet.specs.Weight
use Rattle.sheet.specs.Sheet
use Rattle.sheet.specs.Called

-- those of the words that the host gives
unfoldable pub everything_given : ℕ
unfolding Graph.everything Word.to_nat Opening.given_at Opening.edge_at Opening.edges_from Opening.virtuals_from
everything_given = 0

-- those of weights and sheets
unfoldable pub everything_weighed : ℕ
unfolding Weight.half_weight Weight.scaled Sheet.values_from Sheet.largest Sheet.sheet_ok Sheet.vanishes Sheet.vanished Sheet.weigh_at Sheet.weighed
everything_weighed = 0

unfoldable pub everything : ℕ
unfolding everything_given everything_weighed Called.ends_ok Called.sheet_refusal Called.sheet_answer Called.sheet_edges
everything = 0
