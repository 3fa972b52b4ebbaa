-- Calls on lent memory, on a graph whose virtual vertices may be listed in another way.
use Rattle.std.specs.Prelude.{ℕ, ◌<◌, ◌≡◌, ◌↔◌, List, map, ℤ}
use Rattle.std.proofs.Math.Path.{refl, sym, ap}
use Rattle.std.proofs.Common.{◌∙◌}
use Rattle.std.proofs.Math.IntN.{pos}
use Rattle.graph.specs.Open.{Edge}
use Rattle.graph.specs.Layout.{state_of}
use Rattle.answers.specs.Outcome.{Done}
use Rattle.dual_module_read.specs.Read.{TableRead}
use Rattle.distance.specs.Graph.{WellFormed}
use Rattle.distance.specs.Table.{table_from_distances}
use Rattle.distance.specs.Feasible.{Feasible}
use Rattle.distance.specs.Nearest.{ReachesVirtual}
use Rattle.opened_graph.specs.OpenedGraph.{opened_graph, SameVertices, PositiveWeights}
use Rattle.opened_graph.specs.laws.Opening.{one-graph, well-formed}
use Rattle.table_theorem.proofs.laws.Runs.{present-opening}
use Rattle.table_theorem.specs.History.{dual_at, natural, duals_of}
use Rattle.table_claim.specs.Run.{LentRun, lent_history, WithoutBlossoms}
use Rattle.table_claim.proofs.laws.EveryRun.{as_run, last-nodes, last-feasible, last-table, tables-read-tell}
use Rattle.table_claim.specs.Carried.{carried}
use Rattle.table_claim.proofs.laws.Carried.{carried-is}

module _ {v : ℕ} {edges : List Edge} (virtuals : List ℕ) {others : List ℕ} (same : SameVertices v virtuals others) (r : LentRun v edges others) where
  module _ (h : WithoutBlossoms r) where
    pub lent-carries : (a : ℕ) → pos (carried (state_of r.last) a) ≡ dual_at (lent_history r) a
    lent-carries = carried-is (state_of r.last) (lent_history r) (last-nodes r h)

    pub lent-formed : WellFormed (opened_graph v edges virtuals)
    lent-formed =
        rw (one-graph v edges virtuals others same)
        (well-formed v edges others r.edge_number r.node_limit r.store_limit _ (present-opening (as_run r h)))

    pub lent-natural : (a : ℕ) → dual_at (lent_history r) a ≡ pos (natural (dual_at (lent_history r) a))
    unfolding natural
    lent-natural a = rw (← lent-carries a) refl

    module _ (positive : PositiveWeights edges) where
      pub lent-feasible : Feasible (opened_graph v edges virtuals) (duals_of v (lent_history r))
      lent-feasible = rw (one-graph v edges virtuals others same) (last-feasible r h positive)

      pub lent-table : (t list list' : List ℤ) → TableRead r.last t list list' Done
          → list' ≡ map pos (table_from_distances (opened_graph v edges virtuals) (duals_of v (lent_history r)))
      lent-table t list list' p = rw (one-graph v edges virtuals others same) (last-table r h positive t list list' p)

module _ {v : ℕ} {edges : List Edge} (virtuals : List ℕ) {others more : List ℕ} (positive : PositiveWeights edges)
    (reach : (a : ℕ) → a < v → ReachesVirtual (opened_graph v edges virtuals) a)
    (same : SameVertices v virtuals others) (alike : SameVertices v virtuals more) (r : LentRun v edges others)
    (s : LentRun v edges more) (hr : WithoutBlossoms r) (hs : WithoutBlossoms s)
    (t list list' u other other' : List ℤ) (p : TableRead r.last t list list' Done) (q : TableRead s.last u other other' Done) where
  pub lent-tables-tell : (list' ≡ other') ↔ ((a : ℕ) → a < v → dual_at (lent_history r) a ≡ dual_at (lent_history s) a)
  lent-tables-tell =
      tables-read-tell (λ a k. sym (same a k) ∙ alike a k) positive
      (λ a k. rw (← one-graph v edges virtuals others same) (reach a k)) r s hr hs t list list' u other other' p q

  pub lent-tables-tell-carried : (list' ≡ other') ↔ ((a : ℕ) → a < v → carried (state_of r.last) a ≡ carried (state_of s.last) a)
  unfolding natural
  lent-tables-tell-carried = (
    λ e a k. ap natural (lent-carries virtuals same r hr a ∙ lent-tables-tell.0 e a k ∙ sym (lent-carries virtuals alike s hs a)),
    λ f. lent-tables-tell.1 (λ a k. sym (lent-carries virtuals same r hr a) ∙ ap pos (f a k) ∙ lent-carries virtuals alike s hs a),
  )
