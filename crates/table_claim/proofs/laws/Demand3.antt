-- The clauses of the claim, from the laws of each kind of list.
use Rattle.std.specs.Prelude.{ℕ, ◌*◌, ◌≡◌, refl, List, map, length}
use Rattle.std.proofs.Common.{arith, subst, ◌∙◌}
use Rattle.std.proofs.Math.Path.{sym, ap}
use Rattle.std.proofs.Math.IntN.{pos}
use Rattle.graph.specs.Open.{Edge}
use Rattle.graph.specs.State.{State}
use Rattle.graph.specs.laws.Shape.{length-ends}
use Rattle.dual_module_read.specs.Read.{TableRead}
use Rattle.distance.specs.Graph.{sides, WellFormed}
use Rattle.distance.specs.Feasible.{Feasible}
use Rattle.distance.proofs.Theorems.{distance-is-shortest, unreachable-without-walk, unreachable-above-duals, one-defect-covers, growth-where-covered, growth-where-free}
use Rattle.distance.proofs.laws.Table.{length-table_from_distances, at-table_from_distances}
use Rattle.opened_graph.specs.OpenedGraph.{opened_graph, SameVertices}
use Rattle.table_theorem.specs.History.{History, dual_at, natural, duals_of, history_after, no_blossoms}
use Rattle.table_theorem.proofs.laws.Duals.{at-duals}
use Rattle.table_claim.specs.Run.{fed, LentRun, run_calls, lent_history, WithoutBlossoms}
use Rattle.table_claim.specs.Hosted.{HostExchange, reported_from, HostRun, host_sizes, host_start, host_calls, host_history, BlossomsRefused}
use Rattle.table_claim.specs.Reading.{growths_in}
use Rattle.table_claim.specs.Tables.{history_at}
use Rattle.table_claim.specs.Demand3.{Suitable, afresh, WorkedOut, AfterCalls, EqualTables, AfterExported, EqualExported, Demand3}
use Rattle.table_claim.proofs.PrintedTheorems.{printed-on-graph, printed-growths-are-from-distances, printed-tables-equal-exactly-when-duals-are, written-table-is-from-distances, written-table-is-read-back}
use Rattle.table_claim.proofs.laws.EveryRun.{first-state, first-whole, list-answer, last-history}
use Rattle.table_claim.proofs.laws.Lent.{lent-formed, lent-carries, lent-natural, lent-feasible, lent-table, lent-tables-tell-carried}
use Rattle.table_claim.proofs.laws.Hosted.{host-steps, told-done, done-told, host-reports, lent_of}
use Rattle.table_claim.proofs.laws.Plain.{plain_at}
use Rattle.table_claim.proofs.laws.Tables.{history-formed, history-feasible, history-natural}
use Rattle.table_claim.proofs.laws.Program.{program-writes, program-tables-tell}

module _ (v : ℕ) (edges : List Edge) (virtuals : List ℕ) where
  side-count : sides (opened_graph v edges virtuals) ≡ 2 * length edges
  unfolding opened_graph
  side-count = length-ends edges

  worked-out : (h : History) → WellFormed (opened_graph v edges virtuals) → Feasible (opened_graph v edges virtuals) (duals_of v h)
      → ((a : ℕ) → dual_at h a ≡ pos (natural (dual_at h a))) → WorkedOut v edges virtuals h
  unfolding opened_graph
  worked-out h ok feasible whole = record {
    shortest = λ a u n k w. distance-is-shortest (opened_graph v edges virtuals) ok a k u n w;
    beyond = λ a u k none.
        rw ((unreachable-without-walk (opened_graph v edges virtuals) ok a k u).1 none) (omega (arith, feasible.bounded a, unreachable-above-duals));
    duals = λ a k. ap pos (at-duals v h a k) ∙ sym (whole a);
    one_covers = one-defect-covers (opened_graph v edges virtuals) ok (duals_of v h) feasible;
    length-is = length-table_from_distances (opened_graph v edges virtuals) (duals_of v h) ∙ side-count;
    covered = λ a s k c.
        at-table_from_distances (opened_graph v edges virtuals) (duals_of v h) s (rw side-count k)
        ∙ growth-where-covered (opened_graph v edges virtuals) ok (duals_of v h) feasible a s (rw side-count k) c;
    free = λ s k none.
        at-table_from_distances (opened_graph v edges virtuals) (duals_of v h) s (rw side-count k)
        ∙ growth-where-free (opened_graph v edges virtuals) ok (duals_of v h) feasible s none;
  }

  module _ (g : Suitable v edges virtuals) {others : List ℕ} (same : SameVertices v virtuals others) where
    after-lent : (r : LentRun v edges others) → WithoutBlossoms r → AfterCalls v edges virtuals r
    after-lent r h = record {
      answer = λ t list list' a p. list-answer r 2 t list list' _ a p;
      table = lent-table virtuals same r h g.positive;
      worked-out = worked-out (lent_history r) (lent-formed virtuals same r h) (lent-feasible virtuals same r h g.positive) (lent-natural virtuals same r h);
      carries = lent-carries virtuals same r h;
      told = last-history r;
    }

-- ---- exported calls: those that are made are calls on lent memory

module _ {v : ℕ} {edges : List Edge} {virtuals : List ℕ} (r : HostRun v edges virtuals) where
  calls-made : run_calls (lent_of r) ≡ host_calls r
  calls-made = ap (fed (host_sizes r)) (host-steps r.steps).calls_are

  pub history-made : lent_history (lent_of r) ≡ host_history r
  history-made = ap (history_after (host_start r)) calls-made

  pub refused-made : BlossomsRefused r → WithoutBlossoms (lent_of r)
  refused-made h = ap (no_blossoms (host_start r)) calls-made ∙ h

  reports-made : map (λ (x : HostExchange). x.got) r.exchanges ≡ reported_from (host_sizes r) (host_start r) r.exchanges
  reports-made = host-reports (first-whole (lent_of r)) r.steps ∙ ap (λ (c : State). reported_from (host_sizes r) c r.exchanges) (first-state (lent_of r))

module _ {v : ℕ} {edges : List Edge} {virtuals : List ℕ} (g : Suitable v edges virtuals) where
  after-hosted : {others : List ℕ} → SameVertices v virtuals others → (r : HostRun v edges others) → BlossomsRefused r → AfterExported v edges virtuals r
  after-hosted same r h =
      let q = after-lent v edges virtuals g same (lent_of r) (refused-made r h) in
      let e = history-made r in
      record {
        done = λ t words words' list list' k p room fits. done-told p room (λ a x. q.answer t words words' a x ∙ rw fits refl);
        table = λ t words words' list list' k p d.
            q.table t words words' (told-done (λ a. TableRead r.last t words words' a) p d)
            ∙ ap (λ (x : History). map pos (afresh v edges virtuals x)) e;
        worked-out = subst (WorkedOut v edges virtuals) e q.worked-out;
        carries = λ a. q.carries a ∙ ap (λ (x : History). dual_at x a) e;
        told = reports-made r;
      }

  equal-hosted : {others more : List ℕ} → SameVertices v virtuals others → SameVertices v virtuals more
      → (r : HostRun v edges others) (s : HostRun v edges more) → BlossomsRefused r → BlossomsRefused s → EqualExported v edges virtuals r s
  unfolding EqualExported
  equal-hosted same alike r s hr hs t words words' u other other' list list' told told' j k p q d e =
      lent-tables-tell-carried virtuals g.positive g.reach same alike (lent_of r) (lent_of s) (refused-made r hr) (refused-made s hs)
      t words words' u other other' (told-done (λ a. TableRead r.last t words words' a) p d) (told-done (λ a. TableRead s.last u other other' a) q e)

-- ---- all of it

pub claimed : (v : ℕ) (edges : List Edge) (virtuals : List ℕ) → Suitable v edges virtuals → Demand3 v edges virtuals
unfolding EqualTables
claimed v edges virtuals g = record {
  after-calls = after-lent v edges virtuals g;
  equal-tables = lent-tables-tell-carried virtuals g.positive g.reach;
  after-exported = after-hosted g;
  equal-exported = equal-hosted g;
  printed-table = λ t x. (
    printed-on-graph g.positive t x.on x.is_open,
    worked-out v edges virtuals (history_at t) (history-formed t.before x.on (plain_at t x.is_open))
        (history-feasible t.before x.on (plain_at t x.is_open) g.positive) (history-natural t.before x.on (plain_at t x.is_open)),
  );
  printed-growths = λ t x. printed-growths-are-from-distances g.positive t x.on x.is_open;
  equal-printed = λ t u x y. printed-tables-equal-exactly-when-duals-are g.positive g.reach t u x.on y.on x.is_open y.is_open;
  program-table = λ w x. program-writes w g.positive x.on x.is_open;
  equal-program = λ w k x y. program-tables-tell g.positive g.reach w k x.on y.on x.is_open y.is_open;
  written-table = λ called t x m fits. written-table-is-from-distances called t m fits g.positive x.on x.is_open;
  equal-written = λ first second t u x y fit-t fit-u.
      let e = written-table-is-read-back g.positive first t x.on x.is_open fit-t in
      let f = written-table-is-read-back g.positive second u y.on y.is_open fit-u in
      let tell = printed-tables-equal-exactly-when-duals-are g.positive g.reach t u x.on y.on x.is_open y.is_open in
      (λ z. tell.0 (ap growths_in (sym e) ∙ z ∙ ap growths_in f), λ z. ap growths_in e ∙ tell.1 z ∙ ap growths_in (sym f));
}
