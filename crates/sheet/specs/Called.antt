-- Opening a graph from a sheet: what is refused, what is answered, and what edges and block are then.
use Rattle.std.specs.Prelude.{ℕ, ◌*◌, ◌≡◌, Bool, ◌&&◌, not, List, map, ℤ, pos, ltb, eqb, length, if◌then◌else◌}
use Rattle.graph.specs.Basic.{all}
use Rattle.graph.specs.Open.{Edge, sizes_ok}
use Rattle.graph.specs.Opening.{edges_in, edges_from, virtuals_from, fits, opened_words}
use Rattle.sheet.specs.Outcome.{SheetOpened, Opened, Refused}
use Rattle.sheet.specs.Sheet.{values_from, sheet_ok, vanished, weighed}

-- two ends that differ, both vertices; the third word may be anything
unfoldable pub ends_ok : ℕ → Edge → Bool
ends_ok v x = ltb x.left v && ltb x.right v && not (eqb x.left x.right)

-- 0 where the opening is accepted, or the number of its refusal: sizes and the number of edges; lengths, the sheet's among them; virtual
-- vertices; ends, and a third word for each edge; the sheet. `fit` says that block and scratch have their exact lengths
unfoldable pub sheet_refusal : ℕ → ℕ → ℕ → ℕ → List ℤ → List ℤ → List ℤ → Bool → ℕ
sheet_refusal v e n l edges sheet virtuals fit =
    if not (sizes_ok v e n l && eqb (edges_in edges) e) then 4
    else if not (fit && eqb (length sheet) e) then 1
    else if not (all (λ x. ltb x v) (virtuals_from virtuals)) then 3
    else if not (eqb (length edges) (3 * e) && all (ends_ok v) (edges_from edges)) then 4
    else if not (sheet_ok (values_from sheet)) then 17
    else 0

-- the answer, where k is 0 or the refusal
unfoldable pub sheet_answer : ℕ → List ℕ → SheetOpened
sheet_answer k values = if eqb k 0 then Opened (vanished values) else Refused k

-- the edges with their weights, or as they were
unfoldable pub sheet_edges : ℕ → List ℕ → List ℤ → List ℤ
sheet_edges k values edges = if eqb k 0 then weighed values edges else edges

-- Where k is 0 or the refusal: the answer; the edges; every word of the block that open makes of these edges, or the block as it was.
pub record SheetLeaves (k : ℕ) (v e n l : ℕ) (b edges sheet virtuals edges' b' : List ℤ) (a : SheetOpened) : Type 0 where
  pub answer : a ≡ sheet_answer k (values_from sheet)
  pub edges_are : edges' ≡ sheet_edges k (values_from sheet) edges
  pub block : b' ≡ (if eqb k 0 then map pos (opened_words v e n l (edges_from edges') (virtuals_from virtuals)) else b)

-- what open_sheet promises: from the block b and the edges to b' and edges', with the answer a
pub record SheetCalled (b t : List ℤ) (v e n l : ℕ) (edges sheet virtuals edges' b' : List ℤ) (a : SheetOpened) : Type 0 where
  pub leaves : SheetLeaves (sheet_refusal v e n l edges sheet virtuals (fits b t v e n l)) v e n l b edges sheet virtuals edges' b' a
