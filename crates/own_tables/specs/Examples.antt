-- Graph P after both defects have grown by 2, by computation.
use Rattle.std.specs.Prelude.{ℕ, ◌≡◌, refl, List, [], ◌∷◌, ℤ, pos, negsuc}
use Rattle.graph.specs.Opens as Graph
use Rattle.graph.specs.Word
use Rattle.graph.specs.Opening
use Rattle.distance.specs.Opens as Distance
use Rattle.opened_graph.specs.OpenedGraph
use Rattle.table_words.specs.Handed
use Rattle.table_refuse.specs.Refuse
use Rattle.table_check.specs.Verdict
use Rattle.table_check.specs.Verdict.{table_verdict}
use Rattle.table_check.specs.Outcome.{Verdict as Answer, Yes, No, Refused}

-- a name that opens all definitions of the verdict: under `unfolding everything` it computes
unfoldable pub everything : ℕ
unfolding
    Graph.everything Word.to_nat Opening.given_at Opening.edge_at Opening.edges_from Opening.virtuals_from Distance.everything
    OpenedGraph.opened_graph Handed.distance_of Handed.distance_in Handed.handed Verdict.given_dual_of Verdict.duals_by_vertex Verdict.positive
    Verdict.in_reach Verdict.shortest Verdict.pairs_feasible Verdict.virtuals_feasible Verdict.table_afresh Verdict.right Refuse.sizes_right
    Refuse.lengths_right Refuse.graph_in_range Refuse.defects_in_range Refuse.distances_in_range Refuse.numbers_right Refuse.table_refusal
    Verdict.verdict_by Verdict.table_verdict
everything = 0

-- The verdict on vertices 0 to 3 in a row, edges of weight 4, 0 and 3 virtual, and defects at 1 and 2 with dual variables 2 and 2: by the growths and
-- by the distances from the second defect.
abbrev pub verdict_on : (growths second : List ℤ) → Answer
verdict_on growths second =
    table_verdict 4 3 (pos 0 ∷ pos 1 ∷ pos 4 ∷ pos 1 ∷ pos 2 ∷ pos 4 ∷ pos 2 ∷ pos 3 ∷ pos 4 ∷ []) (pos 0 ∷ pos 3 ∷ []) (pos 1 ∷ pos 2 ∷ [])
    (pos 2 ∷ pos 2 ∷ []) growths (pos 4 ∷ pos 0 ∷ pos 4 ∷ pos 8 ∷ second)

abbrev pub P1-growths : List ℤ
P1-growths = pos 0 ∷ pos 2 ∷ pos 2 ∷ pos 2 ∷ pos 2 ∷ pos 0 ∷ []

abbrev pub P1-distances : List ℤ
P1-distances = pos 8 ∷ pos 4 ∷ pos 0 ∷ pos 4 ∷ []

-- the run's own table
pub P1-yes : verdict_on P1-growths P1-distances ≡ Yes
unfolding everything
P1-yes = refl

-- with one growth less by 1
pub P1-growth-spoiled : verdict_on (pos 0 ∷ pos 2 ∷ pos 2 ∷ pos 1 ∷ pos 2 ∷ pos 0 ∷ []) P1-distances ≡ No
unfolding everything
P1-growth-spoiled = refl

-- with a distance that is not the shortest
pub P1-distance-spoiled : verdict_on P1-growths (pos 9 ∷ pos 4 ∷ pos 0 ∷ pos 4 ∷ []) ≡ No
unfolding everything
P1-distance-spoiled = refl

-- with -2 for a distance
pub P1-refused : verdict_on P1-growths (pos 8 ∷ pos 4 ∷ pos 0 ∷ negsuc 1 ∷ []) ≡ Refused 4
unfolding everything
P1-refused = refl

-- with a growth too few
pub P1-short : verdict_on (pos 0 ∷ pos 2 ∷ pos 2 ∷ pos 2 ∷ pos 2 ∷ []) P1-distances ≡ Refused 1
unfolding everything
P1-short = refl
