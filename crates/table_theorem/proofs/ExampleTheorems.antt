-- Graph P (SPECIFICATION 13.1): what the theorems ask holds of it by computing, and two runs on it have the same table.
use Rattle.std.specs.Prelude.{ℕ, zero, suc, ◌<◌, ◌≡◌, true, List, [], ◌∷◌, pos, negsuc}
use Rattle.std.proofs.Common.{arith, sym, ap, ◌∙◌}
use Rattle.std.proofs.Math.Path.{refl}
use Rattle.graph.specs.Open.{Edge, opened, open_refusal}
use Rattle.calls.specs.Calls.{Call, InsertDefect, InsertBlossom, SetGrowState, UpdateLength, Grow, Advance, ReadTable, Clear, LoadEdgeModifier, growth_table}
use Rattle.calls.specs.Examples.{edge}
use Rattle.reachable.specs.Reachable.{after}
use Rattle.distance.specs.Graph.{trivial}
use Rattle.distance.specs.Table.{table_from_distances}
use Rattle.distance.proofs.laws.Walk.{cross-side}
use Rattle.distance.specs.Nearest.{ReachesVirtual}
use Rattle.opened_graph.specs.OpenedGraph.{opened_graph, with_weights, SameVertices, PositiveWeights}
use Rattle.table_theorem.specs.Opens.{everything}
use Rattle.table_theorem.specs.History.{Entry, History, no_blossoms, dual_at, duals_of}
use Rattle.table_theorem.specs.Runs.{Run, end, history}
use Rattle.table_theorem.proofs.Theorems.{table-is-from-distances, tables-equal-exactly-when-duals-are}

abbrev edges : List Edge
edges = edge 0 1 4 ∷ edge 1 2 4 ∷ edge 2 3 4 ∷ []

abbrev virtuals : List ℕ
virtuals = 0 ∷ 3 ∷ []

positive : PositiveWeights edges
unfolding everything
positive = refl

reaches : (a : ℕ) → a < 4 → ReachesVirtual (opened_graph 4 edges virtuals) a
unfolding everything
reaches zero h = record { vertex = 0; placed = omega arith; virtual = omega arith; total = 0; walk = trivial }
reaches (suc zero) h = record { vertex = 0; placed = omega arith; virtual = omega arith; total = 4; walk = cross-side 1 (omega arith) }
reaches (suc (suc zero)) h = record { vertex = 3; placed = omega arith; virtual = omega arith; total = 4; walk = cross-side 4 (omega arith) }
reaches (suc (suc (suc zero))) h = record { vertex = 3; placed = omega arith; virtual = omega arith; total = 0; walk = trivial }
reaches (suc (suc (suc (suc a)))) h = absurd (omega arith)

-- ---- P1, with a blossom that is refused and an advance of a Stay node

abbrev calls_p1 : List Call
calls_p1 =
    InsertDefect 1 1 ∷ InsertDefect 2 1 ∷ UpdateLength 0 1 true ∷ Grow 0 (pos 2) ∷ InsertBlossom 1 (0 ∷ 1 ∷ [])
    ∷ Grow 1 (pos 2) ∷ UpdateLength 0 1 true ∷ ReadTable
    ∷ SetGrowState 1 0 ∷ Advance 1 ∷ []

opening-P1 : open_refusal 4 3 4 40 edges virtuals true ≡ 0
unfolding everything
opening-P1 = refl

blossomless-P1 : no_blossoms (opened 4 4 40 edges virtuals) calls_p1 ≡ true
unfolding everything
blossomless-P1 = refl

present-P1 : with_weights edges (after (opened 4 4 40 edges virtuals) calls_p1).graph.weight ≡ edges
unfolding everything
present-P1 = refl

abbrev P1 : Run 4 edges virtuals
P1 =
    record {
      edge_number = 3;
      node_limit = 4;
      store_limit = 40;
      fits = true;
      given = edges;
      opening = opening-P1;
      calls = calls_p1;
      without_blossoms = blossomless-P1;
      present = present-P1;
    }

table-P1 : growth_table (end P1) ≡ 0 ∷ 2 ∷ 2 ∷ 2 ∷ 2 ∷ 0 ∷ []
unfolding everything
table-P1 = refl

abbrev entry : ℕ → ℕ → ℕ → Entry
entry v x y = record { vertex = v; grow_state = x; y = pos y }

history-P1 : history P1 ≡ entry 1 1 2 ∷ entry 2 0 2 ∷ []
unfolding everything
history-P1 = refl

from-distances-P1 : growth_table (end P1) ≡ table_from_distances (opened_graph 4 edges virtuals) (duals_of 4 (history P1))
from-distances-P1 = table-is-from-distances 4 edges virtuals positive P1

-- ---- the same dual variables in another way: other N and L, the virtual vertices and the defects in another order, by advance, too far and back;
-- the middle edge is opened with weight 9, and erased and then changed to 4 for the defects that stand

abbrev given : List ℕ
given = 3 ∷ 0 ∷ 3 ∷ []

same-virtuals : SameVertices 4 virtuals given
unfolding everything
same-virtuals zero h = refl
same-virtuals (suc zero) h = refl
same-virtuals (suc (suc zero)) h = refl
same-virtuals (suc (suc (suc zero))) h = refl
same-virtuals (suc (suc (suc (suc a)))) h = absurd (omega arith)

abbrev erased_once : List Edge
erased_once = edge 0 1 4 ∷ edge 1 2 9 ∷ edge 2 3 4 ∷ []

abbrev calls_back : List Call
calls_back =
    LoadEdgeModifier (record { edge = 1; weight = 0 } ∷ []) ∷ InsertDefect 1 1 ∷ Clear
    ∷ LoadEdgeModifier (record { edge = 1; weight = 7 } ∷ record { edge = 1; weight = 4 } ∷ []) ∷ InsertDefect 2 1
    ∷ InsertDefect 1 1 ∷ Advance 0 ∷ Grow 0 (pos 1) ∷ Grow 0 (negsuc 0) ∷ SetGrowState 1 1 ∷ Grow 1 (pos 2) ∷ []

opening-back : open_refusal 4 3 2 36 erased_once given true ≡ 0
unfolding everything
opening-back = refl

blossomless-back : no_blossoms (opened 4 2 36 erased_once given) calls_back ≡ true
unfolding everything
blossomless-back = refl

present-back : with_weights erased_once (after (opened 4 2 36 erased_once given) calls_back).graph.weight ≡ edges
unfolding everything
present-back = refl

abbrev back : Run 4 edges given
back =
    record {
      edge_number = 3;
      node_limit = 2;
      store_limit = 36;
      fits = true;
      given = erased_once;
      opening = opening-back;
      calls = calls_back;
      without_blossoms = blossomless-back;
      present = present-back;
    }

history-back : history back ≡ entry 2 1 2 ∷ entry 1 1 2 ∷ []
unfolding everything
history-back = refl

same-duals : (a : ℕ) → a < 4 → dual_at (history P1) a ≡ dual_at (history back) a
same-duals a h = ap (λ (b : History). dual_at b a) history-P1 ∙ each a h ∙ sym (ap (λ (b : History). dual_at b a) history-back)
  where
    each : (a : ℕ) → a < 4 → dual_at (entry 1 1 2 ∷ entry 2 0 2 ∷ []) a ≡ dual_at (entry 2 1 2 ∷ entry 1 1 2 ∷ []) a
    each zero h = unfold everything in refl
    each (suc zero) h = unfold everything in refl
    each (suc (suc zero)) h = unfold everything in refl
    each (suc (suc (suc zero))) h = unfold everything in refl
    each (suc (suc (suc (suc a)))) h = absurd (omega arith)

-- so the tables are the same, by the theorem
same_tables : growth_table (end P1) ≡ growth_table (end back)
same_tables = (tables-equal-exactly-when-duals-are 4 edges virtuals given same-virtuals positive reaches P1 back).1 same-duals
