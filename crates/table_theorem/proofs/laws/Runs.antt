-- The state that a run leaves, and its history.
use Rattle.std.specs.Prelude.{ℕ, suc, ◌<◌, ◌≡◌, ◌≢◌, ◌↔◌, true, List, [], map, pos, get_or}
use Rattle.std.proofs.Common.{arith, ◌∙◌}
use Rattle.std.proofs.Math.Path.{sym, ap}
use Rattle.std.proofs.Math.ListN.{length, length-map}
use Rattle.graph.specs.Basic.{below}
use Rattle.graph.specs.State.{vertex_count, edge_of}
use Rattle.graph.specs.Open.{Edge, ends_of, flag_in, graph_of, blank_state, opened, open_refusal}
use Rattle.graph.specs.laws.Opened.{sound-graph}
use Rattle.calls.specs.Calls.{growth_table, Round}
use Rattle.reachable.specs.Invariant.{Invariant}
use Rattle.reachable.specs.laws.Calls.{opened-invariant}
use Rattle.reachable.specs.laws.past.Calls.{opened-past, after-past}
use Rattle.distance.specs.Graph.{WellFormed}
use Rattle.distance.specs.Table.{table_from_distances}
use Rattle.distance.specs.Feasible.{Feasible}
use Rattle.distance.proofs.laws.Injective.{table_from_distances-equal}
use Rattle.distance.specs.Nearest.{ReachesVirtual}
use Rattle.opened_graph.specs.OpenedGraph.{opened_graph, SameVertices, PositiveWeights}
use Rattle.opened_graph.specs.laws.Opening.{one-graph, same-graph-as, weights-positive, well-formed, all-connected, ends_with, weights-with, opening-with}
use Rattle.opened_graph.specs.laws.Graph.{SameGraph}
use Rattle.calls.specs.Round.{round}
use Rattle.reachable.specs.Reachable.{after}
use Rattle.table_theorem.specs.Answers.{is_done}
use Rattle.table_theorem.proofs.laws.OneByOne.{round-one-by-one}
use Rattle.table_theorem.specs.History.{dual_at, natural, duals_of, recorded, history_from, growths_of}
use Rattle.table_theorem.specs.Runs.{Run, start, end, history}
use Rattle.table_theorem.proofs.laws.Kept.{Wiring, wiring_of, calls-wired}
use Rattle.table_theorem.proofs.laws.Depth.{DefectsOnly}
use Rattle.table_theorem.proofs.laws.Table.{Duals, table-from-distances}
use Rattle.table_theorem.proofs.laws.Feasible.{feasible}
use Rattle.table_theorem.proofs.laws.History.{Matches, blank-matches, calls-match}
use Rattle.table_theorem.proofs.laws.Duals.{duals-are, length-duals, dual-is-natural, duals-same, each-dual-same}

module _ {v : ℕ} {edges : List Edge} {virtuals : List ℕ} (r : Run v edges virtuals) where
  start-good : Invariant (start r)
  start-good = opened-invariant v r.edge_number r.node_limit r.store_limit r.given virtuals r.fits r.opening

  end-good : Invariant (end r)
  end-good =
      (after-past (start r) (opened-past {log = λ n. start r} v r.edge_number r.node_limit r.store_limit r.given virtuals r.fits r.opening)
      r.calls).invariant

  pub end-matches : Matches (end r) (history r)
  end-matches =
      calls-match (start r) [] start-good
      (unfold opened in (blank-matches (graph_of v r.given virtuals) r.node_limit r.store_limit)) r.calls
      r.without_blossoms

  pub end-round : (l : ℕ) → is_done (round (end r) (pos (suc l))).answer ≡ true
      → (after (end r) (growths_of (end r) l) ≡ (round (end r) (pos (suc l))).state)
      × (history_from (end r) (history r) (growths_of (end r) l) ≡ recorded (end r) (history r) (Round (pos (suc l))))
  end-round l done = round-one-by-one end-good end-matches l done

  -- ---- the graph at the end

  end-wiring : wiring_of (end r) ≡ wiring_of (start r)
  end-wiring = calls-wired (start r) r.calls

  weights-long : length (end r).graph.weight ≡ length r.given
  unfolding opened blank_state graph_of
  weights-long =
      sym end-good.shape.original ∙ ap (λ (x : Wiring). length x.original) end-wiring ∙ length-map r.given (λ (e : Edge). e.weight)

  end-ends : (end r).graph.end ≡ ends_of edges
  unfolding opened blank_state graph_of
  end-ends = ap (λ (x : Wiring). x.end) end-wiring ∙ sym (ends_with r.given (end r).graph.weight) ∙ ap ends_of r.present

  end-weights : (end r).graph.weight ≡ map (λ (e : Edge). e.weight) edges
  end-weights = sym (weights-with r.given (end r).graph.weight weights-long) ∙ ap (λ (l : List Edge). map (λ (e : Edge). e.weight) l) r.present

  end-virtual : (end r).graph.virtual ≡ map (flag_in virtuals) (below v)
  unfolding opened blank_state graph_of
  end-virtual = ap (λ (x : Wiring). x.virtual) end-wiring

  end-graph : SameGraph (opened_graph v edges virtuals) (end r).graph
  end-graph = same-graph-as v edges virtuals (end r).graph end-ends end-weights end-virtual

  -- an opening with the weights that stand is accepted too
  pub present-opening : open_refusal v r.edge_number r.node_limit r.store_limit edges virtuals r.fits ≡ 0
  present-opening =
      rw (← r.present)
      (opening-with v r.edge_number r.node_limit r.store_limit r.given (end r).graph.weight virtuals r.fits r.opening
      (sound-graph (end r) end-good.sounds).weight)

  formed : WellFormed (opened_graph v edges virtuals)
  formed = well-formed v edges virtuals r.edge_number r.node_limit r.store_limit r.fits present-opening

  pub end-natural : (a : ℕ) → dual_at (history r) a ≡ pos (natural (dual_at (history r) a))
  end-natural = dual-is-natural (end r) (history r) end-good end-matches

  vertex-count : vertex_count (end r) ≡ v
  unfolding opened_graph
  vertex-count = end-graph.size_is

  end-duals : Duals (end r) (duals_of v (history r))
  end-duals = duals-are (end r) (history r) end-good end-matches v vertex-count

  module _ (positive : PositiveWeights edges) where
    above : (s : ℕ) → s < length (end r).graph.end → get_or (end r).graph.weight (edge_of s) 0 ≢ 0
    above s b =
        let w = weights-positive v edges virtuals positive s (rw end-graph.sides-are at b) in
        λ z. omega (arith, end-graph.weight_is s)

    pub defects-only : DefectsOnly (opened_graph v edges virtuals) (end r)
    defects-only = record {
      good = end-good;
      outer = end-matches.outer;
      defect = λ m b. record { vertex = _; is = (end-matches.nodes.agrees m b).vertex };
      formed = formed;
      graph = end-graph;
      positive = above;
    }

    pub end-table : growth_table (end r) ≡ table_from_distances (opened_graph v edges virtuals) (duals_of v (history r))
    end-table = table-from-distances (opened_graph v edges virtuals) (end r) defects-only (duals_of v (history r)) end-duals

    pub end-feasible : Feasible (opened_graph v edges virtuals) (duals_of v (history r))
    end-feasible =
        feasible (opened_graph v edges virtuals) (end r) defects-only (duals_of v (history r)) end-duals
        (unfold opened_graph in (length-duals v (history r)))

-- ---- two runs on one graph

module _ {v : ℕ} {edges : List Edge} {virtuals others : List ℕ} (same : SameVertices v virtuals others)
    (positive : PositiveWeights edges) (r : Run v edges virtuals) (s : Run v edges others) where
  -- the second run, on the graph of the first
  other-table : growth_table (end s) ≡ table_from_distances (opened_graph v edges virtuals) (duals_of v (history s))
  other-table = rw (one-graph v edges virtuals others same) (end-table s positive)

  other-feasible : Feasible (opened_graph v edges virtuals) (duals_of v (history s))
  other-feasible = rw (one-graph v edges virtuals others same) (end-feasible s positive)

  equal-duals : ((a : ℕ) → a < v → ReachesVirtual (opened_graph v edges virtuals) a)
      → growth_table (end r) ≡ growth_table (end s) → duals_of v (history r) ≡ duals_of v (history s)
  equal-duals reach e =
      (table_from_distances-equal (opened_graph v edges virtuals) (formed r) (weights-positive v edges virtuals positive)
      (all-connected v edges virtuals r.edge_number r.node_limit r.store_limit r.fits (present-opening r) reach)
      (duals_of v (history r)) (duals_of v (history s)) (end-feasible r positive) other-feasible).0
      (sym (end-table r positive) ∙ e ∙ other-table)

  pub tables-tell-duals : ((a : ℕ) → a < v → ReachesVirtual (opened_graph v edges virtuals) a)
      → (growth_table (end r) ≡ growth_table (end s)) ↔ ((a : ℕ) → a < v → dual_at (history r) a ≡ dual_at (history s) a)
  tables-tell-duals reach = (
    λ e. each-dual-same v (history r) (history s) (end-natural r) (end-natural s) (equal-duals reach e),
    λ f. end-table r positive ∙ ap (table_from_distances (opened_graph v edges virtuals)) (duals-same v (history r) (history s) f) ∙ sym other-table,
  )
