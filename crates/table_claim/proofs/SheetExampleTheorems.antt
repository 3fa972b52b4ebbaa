-- Graph P opened from a sheet: 0.0002, 0.0001 and 0.0004 become 500,000, 250,000 and 1,000,000. Then one that is refused.
use Rattle.std.specs.Prelude.{ℕ, ◌≡◌, refl, List, [], ◌∷◌, map, ℤ, pos, negsuc}
use Rattle.graph.specs.Opening.{zeros, edges_from, virtuals_from, opened_words}
use Rattle.sheet.specs.Outcome.{Opened, Refused}
use Rattle.sheet.specs.Called.{SheetCalled}
use Rattle.sheet.specs.Opens as Sheet
use Rattle.table_claim.specs.Opens.{everything_lent}
use Rattle.table_claim.specs.Lent.{sheet-refused, none, next}
use Rattle.table_claim.specs.Run.{LentRun, run_calls, lent_history}
use Rattle.table_claim.proofs.FromSheetTheorems.{AsOpened, sheet_run, PositiveValues, sheet-weights-positive}
use Rattle.opened_graph.specs.OpenedGraph.{PositiveWeights}

abbrev words : List ℕ → List ℤ
words l = map pos l

-- third words that open would refuse
abbrev bare : List ℤ
bare = pos 0 ∷ pos 1 ∷ negsuc 0 ∷ pos 1 ∷ pos 2 ∷ negsuc 0 ∷ pos 2 ∷ pos 3 ∷ negsuc 0 ∷ []

abbrev weighed_words : List ℤ
weighed_words = words (0 ∷ 1 ∷ 500_000 ∷ 1 ∷ 2 ∷ 250_000 ∷ 2 ∷ 3 ∷ 1_000_000 ∷ [])

abbrev virtuals : List ℤ
virtuals = words (0 ∷ 3 ∷ [])

abbrev sheet : List ℤ
sheet = words (2 ∷ 1 ∷ 4 ∷ [])

abbrev open_block : List ℤ
open_block = words (opened_words 4 3 4 40 (edges_from weighed_words) (virtuals_from virtuals))

from-sheet : SheetCalled (words (zeros 140)) (words (zeros 16)) 4 3 4 40 bare sheet virtuals weighed_words open_block (Opened 0)
unfolding everything_lent Sheet.everything
from-sheet = record { leaves = record { answer = refl; edges_are = refl; block = refl } }

-- a value below 0: the edges stay as they were, and so does the block
not-from-sheet : SheetCalled open_block (words (zeros 16)) 4 3 4 40 bare (negsuc 0 ∷ pos 1 ∷ pos 4 ∷ []) virtuals bare open_block (Refused 17)
unfolding everything_lent Sheet.everything
not-from-sheet = record { leaves = record { answer = refl; edges_are = refl; block = refl } }

as_written : AsOpened weighed_words open_block
unfolding everything_lent Sheet.everything
as_written = refl

abbrev run : LentRun 4 (edges_from weighed_words) (virtuals_from virtuals)
run = sheet_run from-sheet (next (sheet-refused not-from-sheet) none) as_written

-- the definitions are asked nothing, and the history is empty
calls-fed : run_calls run ≡ []
unfolding everything_lent Sheet.everything
calls-fed = refl

history-is : lent_history run ≡ []
unfolding everything_lent Sheet.everything
history-is = refl

values-positive : PositiveValues sheet
unfolding everything_lent Sheet.everything
values-positive = refl

weights-positive : PositiveWeights (edges_from weighed_words)
weights-positive = (sheet-weights-positive from-sheet).1 (refl, values-positive)
