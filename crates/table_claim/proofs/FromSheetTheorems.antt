-- Runs that begin with an opening from a sheet. Accepted, it is an opening on the words that it leaves (`sheet-opens`, crate `sheet`), so
-- the calls behind it are a run on the graph with the weights that it wrote, and demand 3 holds of it as of any other.
use Rattle.std.specs.Prelude.{ℕ, ◌<◌, ◌≡◌, refl, ◌↔◌, true, List, ℤ, ltb, get_or}
use Rattle.graph.specs.Basic.{all}
use Rattle.graph.specs.Layout.{state_of}
use Rattle.graph.specs.Opening.{edges_from, virtuals_from}
use Rattle.sheet.specs.Outcome.{Opened}
use Rattle.sheet.specs.Sheet.{values_from}
use Rattle.sheet.specs.Called.{SheetCalled}
use Rattle.sheet.specs.Theorems.{sheet-opens, weights-positive-exactly}
use Rattle.c_api_sheet.specs.Told.{SheetTold}
use Rattle.distance.specs.Nearest.{ReachesVirtual}
use Rattle.opened_graph.specs.OpenedGraph.{with_weights, PositiveWeights}
use Rattle.table_claim.specs.Lent.{Exchange, Steps}
use Rattle.table_claim.specs.Run.{LentRun, lent_run_from, WithoutBlossoms}
use Rattle.table_claim.specs.Hosted.{SaysOpened, HostExchange, HostSteps, HostRun, BlossomsRefused}
use Rattle.table_claim.specs.Demand3.{the_graph, Suitable, AfterCalls, AfterExported}
use Rattle.table_claim.proofs.Demand3Theorems.{demand-3}
use Rattle.table_claim.proofs.laws.FromSheet.{sheet-said, host-run-from}

-- every value of the sheet is above 0
abbrev pub PositiveValues : List ℤ → Type 0
PositiveValues sheet = all (λ s. ltb 0 s) (values_from sheet) ≡ true

-- each vertex reaches a virtual one
abbrev pub InReach : ℕ → List ℤ → List ℤ → Type 0
InReach v edges virtuals = (a : ℕ) → a < v → ReachesVirtual (the_graph v (edges_from edges) (virtuals_from virtuals)) a

-- the edges have in the block the weights with which they were opened: no change of weights stands. Where one stands, demand 3 is about the
-- weights that it left (Demand3Theorems)
abbrev pub AsOpened : List ℤ → List ℤ → Type 0
AsOpened edges last = with_weights (edges_from edges) (state_of last).graph.weight ≡ edges_from edges

module _ {b t : List ℤ} {v e n l : ℕ} {edges sheet virtuals edges' b' : List ℤ} {k : ℕ}
    (p : SheetCalled b t v e n l edges sheet virtuals edges' b' (Opened k)) where
  -- the run of the steps behind it
  abbrev pub sheet_run : {xs : List Exchange} {last : List ℤ} → Steps b' xs last → AsOpened edges' last
      → LentRun v (edges_from edges') (virtuals_from virtuals)
  sheet_run s o = lent_run_from b t v e n l edges' virtuals (sheet-opens p) s o

  -- Its weights are positive exactly when every value is and none vanished.
  pub sheet-weights-positive : PositiveWeights (edges_from edges') ↔ ((k ≡ 0) × PositiveValues sheet)
  sheet-weights-positive = weights-positive-exactly p

  -- Then demand 3 is about its graph,
  pub sheet-suits : k ≡ 0 → PositiveValues sheet → InReach v edges' virtuals → Suitable v (edges_from edges') (virtuals_from virtuals)
  sheet-suits z h r = record { positive = sheet-weights-positive.1 (z, h); reach = r }

  -- and the table after any calls without a blossom is the one afresh.
  pub table-after-sheet : k ≡ 0 → PositiveValues sheet → InReach v edges' virtuals
      → {xs : List Exchange} {last : List ℤ} (s : Steps b' xs last) (o : AsOpened edges' last)
      → WithoutBlossoms (sheet_run s o) → AfterCalls v (edges_from edges') (virtuals_from virtuals) (sheet_run s o)
  table-after-sheet z h r s o w =
      (demand-3 v (edges_from edges') (virtuals_from virtuals) (sheet-suits z h r)).after-calls (λ a i. refl) (sheet_run s o) w

-- ---- exported

-- a run of exported calls on the graph that these words give, from the block `first` by the exchanges xs to the block `last`
pub record ExportedRun (v : ℕ) (edges virtuals first : List ℤ) (xs : List HostExchange) (last : List ℤ) : Type 0 where
  pub run : HostRun v (edges_from edges) (virtuals_from virtuals)
  pub first-is : run.first ≡ first
  pub exchanges-are : run.exchanges ≡ xs
  pub last-is : run.last ≡ last

module _ {b t : List ℤ} {v e n l : ℕ} {edges sheet virtuals edges' b' : List ℤ} {list list' : List ℕ} {j : ℕ}
    (p : SheetTold b t v e n l edges sheet virtuals edges' b' list list' j) (o : SaysOpened list list') where
  -- Where fb_open_sheet says opened, the number behind it is how many values vanished,
  pub opened-is-told : SheetCalled b t v e n l edges sheet virtuals edges' b' (Opened (get_or list' 1 0))
  opened-is-told = sheet-said p o

  -- and the exported calls behind it are a run: the one that fb_open with the edges as they are then begins.
  pub exported-sheet-run : {xs : List HostExchange} {last : List ℤ} → HostSteps b' xs last → AsOpened edges' last
      → ExportedRun v edges' virtuals b' xs last
  exported-sheet-run s a = record {
    run = host-run-from b t v e n l edges' virtuals (sheet-opens opened-is-told) s a;
    first-is = refl;
    exchanges-are = refl;
    last-is = refl;
  }

  -- So where it tells 0 and every value is positive, the table that is read after them is the one afresh.
  pub table-after-exported-sheet : get_or list' 1 0 ≡ 0 → PositiveValues sheet → InReach v edges' virtuals
      → {xs : List HostExchange} {last : List ℤ} (s : HostSteps b' xs last) (a : AsOpened edges' last)
      → BlossomsRefused (exported-sheet-run s a).run
      → AfterExported v (edges_from edges') (virtuals_from virtuals) (exported-sheet-run s a).run
  table-after-exported-sheet z h r s a w =
      (demand-3 v (edges_from edges') (virtuals_from virtuals) (sheet-suits opened-is-told z h r)).after-exported
      (λ c i. refl) (exported-sheet-run s a).run w
