-- A length that prepares first is a length in the state after one call more: the preparation. Nodes and history are the same there.
use Rattle.std.specs.Prelude.{ℕ, ◌+◌, ◌<◌, ◌≡◌, ◌≢◌, true, pos, eqb, ltb}
use Rattle.std.proofs.Math.Path.{refl, ap}
use Rattle.std.proofs.Common.{sym, ◌∙◌, eqb-true}
use mathlib.Core.List.{List, [], ◌∷◌, ◌++◌}
use Rattle.graph.specs.State.{State, node_count, class_of, grow_state_of, dual_of, up}
use Rattle.graph.specs.Open.{Edge}
use Rattle.graph.specs.laws.Members.{by-test}
use Rattle.pass.specs.Prepare.{prepare_node}
use Rattle.answers.specs.Outcome.{Refused}
use Rattle.answers.specs.Answer.{Reply, says}
use Rattle.update_length.specs.Scan.{scan}
use Rattle.calls.specs.Refuse.{store_short, node_refusal, unless}
use Rattle.calls.specs.Calls.{Prepare, respond, response, prepare_dual_node_growth, readied, max_update_length}
use Rattle.reachable.specs.Reachable.{after}
use Rattle.table_theorem.specs.History.{recorded, history_from, no_blossom, no_blossoms}
use Rattle.table_theorem.specs.Runs.{Run, start, end, history, SameNodes}
use Rattle.table_theorem.proofs.Theorems.{nodes-are-recorded}
use Rattle.opened_graph.specs.OpenedGraph.{with_weights}
use Rattle.table_theorem.proofs.laws.Kept.{Fixed, reweighs, call-fixed}
use Rattle.table_theorem.proofs.laws.Append.{after-append, history-append, blossoms-append}
use Rattle.length_theorem.specs.Meaning.{growing_length}

-- a reply that is no refusal
unless-passed : (k : ℕ) (c : State) (q : Reply) → ((j : ℕ) → (unless k c q).answer ≢ Refused j) → (k ≡ 0) × (unless k c q ≡ q)
unfolding unless says
unless-passed k c q accepted = by-test (eqb k 0) (λ e. (eqb-true _ _ e, rw e refl)) (λ e. absurd (accepted k (rw e refl)))

module _ {v : ℕ} {edges : List Edge} {virtuals : List ℕ} (r : Run v edges virtuals) (n : ℕ) where
  -- the run with the preparation behind it
  pub no-more-blossoms : no_blossoms (start r) (r.calls ++ (Prepare n up ∷ [])) ≡ true
  unfolding no_blossoms no_blossom
  no-more-blossoms = blossoms-append (start r) r.calls (Prepare n up ∷ []) ∙ rw r.without_blossoms refl

  pub still-present : with_weights r.given (after (start r) (r.calls ++ (Prepare n up ∷ []))).graph.weight ≡ edges
  unfolding after reweighs
  still-present =
      ap (λ (c : State). with_weights r.given c.graph.weight) (after-append (start r) r.calls (Prepare n up ∷ []))
      ∙ ap (λ (x : Fixed). with_weights r.given x.graph.weight) (call-fixed (end r) (Prepare n up) refl) ∙ r.present

  abbrev pub prepared : Run v edges virtuals
  prepared = record {
    edge_number = r.edge_number;
    node_limit = r.node_limit;
    store_limit = r.store_limit;
    fits = r.fits;
    given = r.given;
    opening = r.opening;
    calls = r.calls ++ (Prepare n up ∷ []);
    without_blossoms = no-more-blossoms;
    present = still-present;
  }

  history-same : history prepared ≡ history r
  unfolding history_from recorded
  history-same = history-append (start r) [] r.calls (Prepare n up ∷ [])

  same : SameNodes (end prepared) (history r)
  same = rw (← history-same) (nodes-are-recorded v edges virtuals prepared)

  pub count_same : node_count (end prepared) ≡ node_count (end r)
  count_same = same.count ∙ sym (nodes-are-recorded v edges virtuals r).count

  module _ (m : ℕ) (b : m < node_count (end r)) where
    there : m < node_count (end prepared)
    there = rw count_same b

    pub class_same : class_of (end prepared) m ≡ class_of (end r) m
    class_same = (same.agrees m there).vertex ∙ sym ((nodes-are-recorded v edges virtuals r).agrees m b).vertex

    pub state-same : grow_state_of (end prepared) m ≡ grow_state_of (end r) m
    state-same = (same.agrees m there).grow_state ∙ sym ((nodes-are-recorded v edges virtuals r).agrees m b).grow_state

    natural-same : (x y : ℕ) → pos x ≡ pos y → x ≡ y
    natural-same x y e = cc

    pub dual-same : dual_of (end prepared) m ≡ dual_of (end r) m
    dual-same = natural-same _ _ ((same.agrees m there).dual ∙ sym ((nodes-are-recorded v edges virtuals r).agrees m b).dual)

  -- an accepted preparation leaves the prepared state
  end-prepared : node_refusal (end r) n (ltb up up) (store_short (end r) (n ∷ []) 1) ≡ 0 → (respond (end r) (Prepare n up)).state ≡ (prepare_node (end r) n up).state
  unfolding respond response prepare_dual_node_growth unless
  end-prepared e = rw e refl

  last-prepared : node_refusal (end r) n (ltb up up) (store_short (end r) (n ∷ []) 1) ≡ 0 → end prepared ≡ (prepare_node (end r) n up).state
  last-prepared e = after-append (start r) r.calls (Prepare n up ∷ []) ∙ one-after ∙ end-prepared e
    where
      one-after : after (end r) (Prepare n up ∷ []) ≡ (respond (end r) (Prepare n up)).state
      one-after = unfold after in refl

  -- a length that is not refused is the scan there
  pub length-scans : ((k : ℕ) → growing_length r n ≢ Refused k) → growing_length r n ≡ scan (end prepared) n up
  unfolding max_update_length readied
  length-scans accepted =
      let u = unless-passed (node_refusal (end r) n (ltb up up) (store_short (end r) (n ∷ []) 1)) (end r) _ accepted in
      ap (λ (q : Reply). q.answer) u.1 ∙ ap (λ (c : State). scan c n up) (sym (last-prepared u.0))
