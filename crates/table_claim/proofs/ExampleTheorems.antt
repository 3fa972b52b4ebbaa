-- Graph P (SPECIFICATION 13.1) as streams of records: what demand 3 asks of them holds by computing, and so do the
-- lines that it speaks of.
use Rattle.std.specs.Prelude.{ℕ, zero, suc, ◌+◌, ◌*◌, ◌<◌, ◌≡◌, true, List, [], ◌∷◌, ◌++◌, pos, negsuc, length, get_or, replicate}
use Rattle.std.proofs.Common.{arith, sym, ap, ◌∙◌}
use Rattle.std.proofs.Math.Path.{refl}
use Rattle.graph.specs.Basic.{member}
use Rattle.graph.specs.Open.{Edge}
use Rattle.calls.specs.Calls.{InsertDefect, InsertBlossom, SetGrowState, UpdateLength, Grow, ReadTable, Advance, Clear}
use Rattle.calls.specs.Examples.{edge}
use Rattle.records.specs.Text.{ascii}
use Rattle.records.specs.Record.{Record, sizes, an_edge, a_virtual, ask, ill_formed}
use Rattle.records.specs.Lines.{joined_lines, edge_lines}
use Rattle.records.specs.Run.{LinesCalled, lines_of, filled, fitted_lines}
use Rattle.distance.specs.Graph.{trivial}
use Rattle.distance.proofs.laws.Walk.{cross-side}
use Rattle.distance.specs.Nearest.{ReachesVirtual}
use Rattle.opened_graph.specs.OpenedGraph.{opened_graph, PositiveWeights}
use Rattle.table_theorem.specs.History.{Entry, History, dual_at}
use Rattle.table_claim.specs.Input.{records_in, printed}
use Rattle.table_claim.specs.Reading.{growths_in}
use Rattle.table_claim.specs.Tables.{TableIn, OnGraph, graph_at, history_at, OpenAt, FitsIn, bytes_of}
use Rattle.table_claim.specs.Demand3.{Suits, afresh, Demand3}
use Rattle.table_claim.proofs.Demand3Theorems.{demand-3}
use Rattle.table_claim.specs.Opens.{everything}

abbrev edges : List Edge
edges = edge 0 1 4 ∷ edge 1 2 4 ∷ edge 2 3 4 ∷ []

abbrev virtuals : List ℕ
virtuals = 0 ∷ 3 ∷ []

-- ---- the graph

positive : PositiveWeights edges
unfolding everything
positive = refl

reaches : (a : ℕ) → a < 4 → ReachesVirtual (opened_graph 4 edges virtuals) a
unfolding everything
reaches zero h = record { vertex = 0; placed = omega arith; virtual = omega arith; total = 0; walk = trivial }
reaches (suc zero) h = record { vertex = 0; placed = omega arith; virtual = omega arith; total = 4; walk = cross-side 1 (omega arith) }
reaches (suc (suc zero)) h = record { vertex = 3; placed = omega arith; virtual = omega arith; total = 4; walk = cross-side 4 (omega arith) }
reaches (suc (suc (suc zero))) h = record { vertex = 3; placed = omega arith; virtual = omega arith; total = 0; walk = trivial }
reaches (suc (suc (suc (suc a)))) h = absurd (omega arith)

pub demand-on-P : Demand3 4 edges virtuals
demand-on-P = demand-3 4 edges virtuals (record { positive = positive; reach = reaches })

-- ---- records as bytes

-- fields below 256, in four bytes each
abbrev small : List ℕ → List ℕ
small [] = []
small (x ∷ xs) = x ∷ 0 ∷ 0 ∷ 0 ∷ small xs

abbrev bytes : ℕ → List ℕ → List ℕ
bytes kind fields = (2 + 4 * length fields) ∷ 0 ∷ kind ∷ 0 ∷ small fields

-- two defects, each grown by 2, and a blossom that is refused; then the table
abbrev stream : List ℕ
stream = joined_lines (
    bytes 1 (4 ∷ 3 ∷ 4 ∷ 40 ∷ []) ∷ bytes 2 (0 ∷ 1 ∷ 4 ∷ []) ∷ bytes 2 (1 ∷ 2 ∷ 4 ∷ []) ∷ bytes 2 (2 ∷ 3 ∷ 4 ∷ []) ∷ bytes 3 (0 ∷ []) ∷ bytes 3 (3 ∷ [])
    ∷ bytes 4 (1 ∷ 1 ∷ []) ∷ bytes 4 (2 ∷ 1 ∷ []) ∷ bytes 9 (0 ∷ 2 ∷ []) ∷ bytes 5 (1 ∷ 0 ∷ 1 ∷ [])
    ∷ bytes 9 (1 ∷ 2 ∷ []) ∷ bytes 8 (0 ∷ 1 ∷ 1 ∷ []) ∷ bytes 10 [] ∷ [])

abbrev before : List Record
before =
    sizes 4 3 4 40 ∷ an_edge (edge 0 1 4) ∷ an_edge (edge 1 2 4) ∷ an_edge (edge 2 3 4) ∷ a_virtual 0 ∷ a_virtual 3
    ∷ ask (InsertDefect 1 1) ∷ ask (InsertDefect 2 1) ∷ ask (Grow 0 (pos 2)) ∷ ask (InsertBlossom 1 (0 ∷ 1 ∷ []))
    ∷ ask (Grow 1 (pos 2)) ∷ ask (UpdateLength 0 1 true) ∷ []

is_read : records_in stream ≡ before ++ (ask ReadTable ∷ [])
unfolding everything
is_read = refl

abbrev table : TableIn stream
table = record { before = before; behind = []; is = is_read }

on-P : OnGraph 4 edges virtuals (graph_at table)
unfolding everything
on-P = record { vertices-are = refl; edges_are = refl; virtuals-are = λ a k. refl }

open-P : OpenAt table
unfolding everything
open-P = record { is_open = refl; blossomless = refl }

suits-P : Suits 4 edges virtuals table
suits-P = record { on = on-P; is_open = open-P }

-- ---- what is printed

-- a line of text
abbrev text : List ℕ → List ℕ
text w = w ++ (10 ∷ [])

-- all lines of the stream: records 7 to 12 are answered, record 13 has the table
all_lines : lines_of stream ≡ joined_lines (
    text (ascii "7 node 0") ∷ text (ascii "8 node 1") ∷ text (ascii "9 done") ∷ text (ascii "10 refused 7")
    ∷ text (ascii "11 done") ∷ text (ascii "12 conflict 1 1 0 0")
    ∷ text (ascii "13 edge 0 0 2") ∷ text (ascii "13 edge 1 2 2") ∷ text (ascii "13 edge 2 2 0") ∷ [])
unfolding everything
all_lines = refl

printed-P : printed table ≡ text (ascii "13 edge 0 0 2") ∷ text (ascii "13 edge 1 2 2") ∷ text (ascii "13 edge 2 2 0") ∷ []
unfolding everything
printed-P = refl

-- the book and the table worked out from it, which never saw the printed one
abbrev entry : ℕ → ℕ → ℕ → Entry
entry v x y = record { vertex = v; grow_state = x; y = pos y }

book-P : history_at table ≡ entry 1 1 2 ∷ entry 2 1 2 ∷ []
unfolding everything
book-P = refl

afresh-P : afresh 4 edges virtuals (history_at table) ≡ 0 ∷ 2 ∷ 2 ∷ 2 ∷ 2 ∷ 0 ∷ []
unfolding everything
afresh-P = refl

-- the demand says that the one is printed, and read back
by-demand : printed table ≡ edge_lines 13 0 (afresh 4 edges virtuals (history_at table))
by-demand = (demand-on-P.printed-table table suits-P).0

read_back : growths_in (printed table) ≡ 0 ∷ 2 ∷ 2 ∷ 2 ∷ 2 ∷ 0 ∷ []
read_back = demand-on-P.printed-growths table suits-P ∙ afresh-P

-- ---- another stream on P: other N and L, virtual vertices and defects in another order, one defect grown too far and
-- back; the table is record 17, and more follows

abbrev other : List ℕ
other = joined_lines (
    bytes 1 (4 ∷ 3 ∷ 2 ∷ 36 ∷ []) ∷ bytes 3 (3 ∷ []) ∷ bytes 2 (0 ∷ 1 ∷ 4 ∷ []) ∷ bytes 2 (1 ∷ 2 ∷ 4 ∷ [])
    ∷ bytes 3 (0 ∷ []) ∷ bytes 2 (2 ∷ 3 ∷ 4 ∷ []) ∷ bytes 3 (3 ∷ [])
    ∷ bytes 4 (2 ∷ 1 ∷ []) ∷ bytes 10 [] ∷ bytes 4 (1 ∷ 1 ∷ []) ∷ bytes 11 (0 ∷ []) ∷ bytes 9 (0 ∷ 1 ∷ [])
    ∷ (10 ∷ 0 ∷ 9 ∷ 0 ∷ 0 ∷ 0 ∷ 0 ∷ 0 ∷ 255 ∷ 255 ∷ 255 ∷ 255 ∷ []) ∷ bytes 9 (7 ∷ 1 ∷ []) ∷ bytes 6 (1 ∷ 1 ∷ [])
    ∷ bytes 9 (1 ∷ 2 ∷ []) ∷ bytes 10 [] ∷ bytes 13 [] ∷ bytes 99 [] ∷ [])

abbrev before_other : List Record
before_other =
    sizes 4 3 2 36 ∷ a_virtual 3 ∷ an_edge (edge 0 1 4) ∷ an_edge (edge 1 2 4) ∷ a_virtual 0 ∷ an_edge (edge 2 3 4) ∷ a_virtual 3
    ∷ ask (InsertDefect 2 1) ∷ ask ReadTable ∷ ask (InsertDefect 1 1) ∷ ask (Advance 0) ∷ ask (Grow 0 (pos 1))
    ∷ ask (Grow 0 (negsuc 0)) ∷ ask (Grow 7 (pos 1)) ∷ ask (SetGrowState 1 1) ∷ ask (Grow 1 (pos 2)) ∷ []

is-read-other : records_in other ≡ before_other ++ (ask ReadTable ∷ ask Clear ∷ ill_formed ∷ [])
unfolding everything
is-read-other = refl

abbrev table_other : TableIn other
table_other = record { before = before_other; behind = ask Clear ∷ ill_formed ∷ []; is = is-read-other }

on-P-too : OnGraph 4 edges virtuals (graph_at table_other)
unfolding everything
on-P-too = record { vertices-are = refl; edges_are = refl; virtuals-are = same }
  where
    same : (a : ℕ) → a < 4 → member a virtuals ≡ member a (3 ∷ 0 ∷ 3 ∷ [])
    same zero h = unfold everything in refl
    same (suc zero) h = unfold everything in refl
    same (suc (suc zero)) h = unfold everything in refl
    same (suc (suc (suc zero))) h = unfold everything in refl
    same (suc (suc (suc (suc a)))) h = absurd (omega arith)

open-other : OpenAt table_other
unfolding everything
open-other = record { is_open = refl; blossomless = refl }

book-other : history_at table_other ≡ entry 2 1 2 ∷ entry 1 1 2 ∷ []
unfolding everything
book-other = refl

same-duals : (a : ℕ) → a < 4 → dual_at (history_at table) a ≡ dual_at (history_at table_other) a
same-duals a h = ap (λ (b : History). dual_at b a) book-P ∙ each a h ∙ sym (ap (λ (b : History). dual_at b a) book-other)
  where
    each : (a : ℕ) → a < 4 → dual_at (entry 1 1 2 ∷ entry 2 1 2 ∷ []) a ≡ dual_at (entry 2 1 2 ∷ entry 1 1 2 ∷ []) a
    each zero h = unfold everything in refl
    each (suc zero) h = unfold everything in refl
    each (suc (suc zero)) h = unfold everything in refl
    each (suc (suc (suc zero))) h = unfold everything in refl
    each (suc (suc (suc (suc a)))) h = absurd (omega arith)

-- so the same growths are printed, by the demand
same-growths : growths_in (printed table) ≡ growths_in (printed table_other)
same-growths = (demand-on-P.equal-printed table table_other suits-P (record { on = on-P-too; is_open = open-other })).1 same-duals

-- The table that this stream printed first, as record 9, behind one defect that had not grown, is another: so the dual variables were.
abbrev early : TableIn other
early = record {
  before = sizes 4 3 2 36 ∷ a_virtual 3 ∷ an_edge (edge 0 1 4) ∷ an_edge (edge 1 2 4) ∷ a_virtual 0 ∷ an_edge (edge 2 3 4)
      ∷ a_virtual 3 ∷ ask (InsertDefect 2 1) ∷ [];
  behind = _;
  is = is-read-other;
}

printed-early : printed early ≡ text (ascii "9 edge 0 0 0") ∷ text (ascii "9 edge 1 0 0") ∷ text (ascii "9 edge 2 0 0") ∷ []
unfolding everything
printed-early = refl

on-P-early : OnGraph 4 edges virtuals (graph_at early)
unfolding everything
on-P-early = record { vertices-are = refl; edges_are = refl; virtuals-are = on-P-too.virtuals-are }

open-early : OpenAt early
unfolding everything
open-early = record { is_open = refl; blossomless = refl }

second : List ℕ → ℕ
second l = get_or l 1 0

duals-changed : ((a : ℕ) → a < 4 → dual_at (history_at early) a ≡ dual_at (history_at table) a) → ⊥
duals-changed f =
    let e : growths_in (printed early) ≡ growths_in (printed table) =
    (demand-on-P.equal-printed early table (record { on = on-P-early; is_open = open-early }) suits-P).1 f in
    let z : ◌≡◌ {A = ℕ} 0 2 = sym first ∙ ap second (e ∙ read_back) ∙ (unfold second in refl) in
    absurd (omega arith)
  where
    first : second (growths_in (printed early)) ≡ 0
    first = unfold second everything in refl

-- ---- the exported call, with room for 100 bytes: two of the three lines of the first table fit

abbrev room : List ℕ
room = replicate 100 0

called : LinesCalled stream room (filled stream room) (length (fitted_lines stream 100))
called = record { bytes = refl; count = refl }

two-fit : FitsIn table 2 room
unfolding everything
two-fit = omega arith

written : bytes_of table 2 (filled stream room) ≡ joined_lines (edge_lines 13 0 (0 ∷ 2 ∷ 2 ∷ 2 ∷ []))
written = demand-on-P.written-table called table suits-P 2 two-fit ∙ (unfold everything in refl)
