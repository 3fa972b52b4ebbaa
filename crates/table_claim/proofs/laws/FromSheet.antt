-- The exported opening from a sheet: what it says, and the run that it begins.
use Rattle.std.specs.Prelude.{ℕ, ◌≡◌, refl, List, [], ◌∷◌, ℤ, drop, get_or}
use Rattle.std.proofs.Common.{arith}
use Rattle.graph.specs.Open.{Edge}
use Rattle.graph.specs.Layout.{state_of}
use Rattle.opened_graph.specs.OpenedGraph.{with_weights}
use Rattle.graph.specs.Opening.{edges_from, virtuals_from, OpenCalled}
use Rattle.c_api.specs.Words.{answer_numbers, open_answer, Tells}
use Rattle.c_api.specs.Told.{OpenTold}
use Rattle.c_api.specs.laws.Words.{told-all}
use Rattle.sheet.specs.Outcome.{SheetOpened, Opened, Refused}
use Rattle.sheet.specs.Called.{SheetCalled}
use Rattle.c_api_sheet.specs.Told.{sheet_numbers, SheetTold}
use Rattle.table_claim.specs.Hosted.{SaysOpened, HostExchange, HostSteps, HostRun}

said-opened : {b t : List ℤ} {v e n l : ℕ} {edges sheet virtuals edges' b' : List ℤ} {list list' : List ℕ} {j : ℕ} (a : SheetOpened)
    → SheetCalled b t v e n l edges sheet virtuals edges' b' a → Tells (sheet_numbers a) list list' j → get_or list' 0 0 ≡ 12
    → SheetCalled b t v e n l edges sheet virtuals edges' b' (Opened (get_or list' 1 0))
unfolding sheet_numbers answer_numbers
said-opened (Opened k) p t h = rw t.listed p
said-opened (Refused k) p t h = absurd (let z = rw t.listed at h in omega (arith, z))

-- one that says opened tells how many values vanished
pub sheet-said : {b t : List ℤ} {v e n l : ℕ} {edges sheet virtuals edges' b' : List ℤ} {list list' : List ℕ} {j : ℕ}
    → SheetTold b t v e n l edges sheet virtuals edges' b' list list' j → SaysOpened list list'
    → SheetCalled b t v e n l edges sheet virtuals edges' b' (Opened (get_or list' 1 0))
sheet-said p o = let s = p.told o.room in said-opened s.answer s.says s.tells o.first-is

-- a list of five words, and an opening that is told in it
abbrev pub five : List ℕ
five = 0 ∷ 0 ∷ 0 ∷ 0 ∷ 0 ∷ []

pub opening-tells : (b t : List ℤ) (v e n l : ℕ) (edges virtuals b' : List ℤ) → OpenCalled b t v e n l edges virtuals b' 0
    → OpenTold b t v e n l edges virtuals b' five (7 ∷ drop 1 five) 1
unfolding open_answer answer_numbers
opening-tells b t v e n l edges virtuals b' p = told-all (omega arith) 0 p (record { listed = refl; count = refl })

-- The run of exported calls behind an accepted opening: behind fb_open, with a list of five words for its answer.
abbrev pub host-run-from : (b t : List ℤ) (v e n l : ℕ) (edges virtuals : List ℤ) {b₁ b₂ : List ℤ} {xs : List HostExchange}
    → OpenCalled b t v e n l edges virtuals b₁ 0 → HostSteps b₁ xs b₂
    → {standing : List Edge} → with_weights (edges_from edges) (state_of b₂).graph.weight ≡ standing → HostRun v standing (virtuals_from virtuals)
host-run-from b t v e n l edges virtuals {b₁} {b₂} {xs} p q w = record {
  edge_number = e;
  node_limit = n;
  store_limit = l;
  before = b;
  scratch = t;
  edge_words = edges;
  virtual_words = virtuals;
  virtuals-are = refl;
  first = b₁;
  answer = five;
  answer' = 7 ∷ drop 1 five;
  numbers = 1;
  opening-is = opening-tells b t v e n l edges virtuals b₁ p;
  done = record { room = omega arith; first-is = refl };
  exchanges = xs;
  last = b₂;
  steps = q;
  present = w;
}
