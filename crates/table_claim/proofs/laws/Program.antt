-- Behind the records that it took the program's memory stands where their graph and calls say.
use Rattle.std.specs.Prelude.{ℕ, ◌+◌, ◌<◌, ◌≡◌, ◌↔◌, List, length}
use Rattle.std.proofs.Common.{sym, ◌∙◌}
use Rattle.std.proofs.Math.Path.{ap}
use Rattle.std.proofs.lemmas.List.{length-map}
use Rattle.graph.specs.Open.{Edge}
use Rattle.calls.specs.Calls.{ReadTable}
use Rattle.records.specs.Record.{Record, ask, decoded}
use Rattle.records.specs.Lines.{edge_lines, joined_lines}
use Rattle.records.specs.Run.{Stage, fresh, record_step}
use Rattle.record_step.specs.Standing.{Memory, Stands}
use Rattle.distance.specs.Table.{table_from_distances}
use Rattle.distance.specs.Nearest.{ReachesVirtual}
use Rattle.opened_graph.specs.OpenedGraph.{opened_graph, PositiveWeights}
use Rattle.table_theorem.specs.History.{dual_at, duals_of}
use Rattle.table_claim.specs.Input.{graph_in, stage_from}
use Rattle.table_claim.specs.Tables.{OnGraph, history_behind, OpenAfter, table_lines}
use Rattle.table_claim.specs.Reading.{growths_in, text_lines}
use Rattle.table_claim.specs.Program.{Taken, none-taken, one-taken, said, TableWritten}
use Rattle.table_claim.proofs.laws.Reading.{table-lines}
use Rattle.table_claim.proofs.laws.Plain.{plain-said}
use Rattle.table_claim.proofs.laws.Tables.{told-from-distances, told-growths-tell}

taken-stands : {k : ℕ} {m m' : Memory} {bodies : List (List ℕ)} → Taken k m bodies m' → (s : Stage) → Stands m s → Stands m' (stage_from k s (said bodies))
unfolding stage_from
taken-stands none-taken s p = p
taken-stands (one-taken {k = k} {body = body} t rest) s p = taken-stands rest (record_step k s (decoded body)).stage (t.promise s p).0

starts : (m : Memory) → m.stage ≡ 0 → Stands m fresh
unfolding Stands
starts m e = e

module _ {bodies : List (List ℕ)} {out : List ℕ} (w : TableWritten bodies out) where
  program-lines : out ≡ joined_lines (table_lines (said bodies))
  unfolding table_lines
  program-lines =
      (w.told.promise (stage_from 1 fresh (said bodies)) (taken-stands w.taken fresh (starts w.start w.fresh))).1
      ∙ ap joined_lines (
      ap (λ (x : Record). (record_step (length bodies + 1) (stage_from 1 fresh (said bodies)) x).lines) w.is-table
      ∙ ap (λ (n : ℕ). (record_step (n + 1) (stage_from 1 fresh (said bodies)) (ask ReadTable)).lines) (sym (length-map bodies decoded)))

  module _ {v : ℕ} {edges : List Edge} {virtuals : List ℕ} (positive : PositiveWeights edges) (g : OnGraph v edges virtuals (graph_in (said bodies)))
      (o : OpenAfter (said bodies)) where
    abbrev rows : List ℕ
    rows = table_from_distances (opened_graph v edges virtuals) (duals_of v (history_behind (said bodies)))

    pub program-writes : out ≡ joined_lines (edge_lines (length bodies + 1) 0 rows)
    program-writes =
        program-lines ∙ ap joined_lines (told-from-distances (said bodies) g (plain-said bodies o) positive
        ∙ ap (λ (n : ℕ). edge_lines (n + 1) 0 rows) (length-map bodies decoded))

    -- the growths are read back from the bytes
    pub program-growths : growths_in (text_lines out) ≡ growths_in (table_lines (said bodies))
    program-growths =
        let t = told-from-distances (said bodies) g (plain-said bodies o) positive in
        ap growths_in (ap text_lines (program-lines ∙ ap joined_lines t) ∙ table-lines (length (said bodies) + 1) 0 rows ∙ sym t)

module _ {v : ℕ} {edges : List Edge} {virtuals : List ℕ} (positive : PositiveWeights edges)
    (reach : (a : ℕ) → a < v → ReachesVirtual (opened_graph v edges virtuals) a) {bodies others : List (List ℕ)} {out told : List ℕ} where
  pub program-tables-tell : TableWritten bodies out → TableWritten others told
      → OnGraph v edges virtuals (graph_in (said bodies)) → OnGraph v edges virtuals (graph_in (said others)) → OpenAfter (said bodies) → OpenAfter (said others)
      → (growths_in (text_lines out) ≡ growths_in (text_lines told))
      ↔ ((a : ℕ) → a < v → dual_at (history_behind (said bodies)) a ≡ dual_at (history_behind (said others)) a)
  program-tables-tell w k g h o u =
      let x = program-growths w positive g o in
      let y = program-growths k positive h u in
      let tell = told-growths-tell positive reach (said bodies) (said others) g h (plain-said bodies o) (plain-said others u) in
      (λ z. tell.0 (sym x ∙ z ∙ y), λ z. x ∙ tell.1 z ∙ sym y)
