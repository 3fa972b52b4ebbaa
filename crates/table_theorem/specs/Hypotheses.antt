-- Each hypothesis of the theorems is needed: without it the claim fails on a small run, by computing.
use Rattle.std.specs.Prelude.{ℕ, ◌<◌, ◌≡◌, refl, true, false, List, [], ◌∷◌, pos, get_or}
use Rattle.std.proofs.Common.{arith, sym, ap, ◌∙◌}
use Rattle.graph.specs.Open.{Edge, opened, open_refusal}
use Rattle.calls.specs.Calls.{Call, InsertDefect, InsertBlossom, Grow, growth_table}
use Rattle.calls.specs.Examples.{edge}
use Rattle.reachable.specs.Reachable.{after}
use Rattle.distance.specs.Table.{table_from_distances}
use Rattle.opened_graph.specs.OpenedGraph.{opened_graph, with_weights}
use Rattle.table_theorem.specs.Opens.{everything}
use Rattle.table_theorem.specs.History.{history_after, no_blossoms, dual_at, natural, duals_of}
use Rattle.table_theorem.specs.Runs.{Run, end, history}

-- the two lists are not the same: they differ at place i
differ-at : (i : ℕ) (l k : List ℕ) → (get_or l i 0 ≡ get_or k i 0 → ⊥) → l ≡ k → ⊥
differ-at i l k ne e = ne (ap (λ (x : List ℕ). get_or x i 0) e)

differing-duals : {m n : ℕ} → (m ≡ n → ⊥) → pos m ≡ pos n → ⊥
unfolding natural
differing-duals ne e = ne (ap natural e)

-- ---- positive weights, for the table: vertices 1 and 2 are at distance 2 from the defect and joined by an edge of weight 0

abbrev triangle : List Edge
triangle = edge 0 1 2 ∷ edge 0 2 2 ∷ edge 1 2 0 ∷ edge 2 3 20 ∷ []

abbrev calls_triangle : List Call
calls_triangle = InsertDefect 0 1 ∷ Grow 0 (pos 2) ∷ Grow 0 (pos 3) ∷ []

opening-triangle : open_refusal 4 4 4 60 triangle (3 ∷ []) true ≡ 0
unfolding everything
opening-triangle = refl

blossomless-triangle : no_blossoms (opened 4 4 60 triangle (3 ∷ [])) calls_triangle ≡ true
unfolding everything
blossomless-triangle = refl

present-run_triangle : with_weights triangle (after (opened 4 4 60 triangle (3 ∷ [])) calls_triangle).graph.weight ≡ triangle
unfolding everything
present-run_triangle = refl

abbrev run_triangle : Run 4 triangle (3 ∷ [])
run_triangle =
    record {
      edge_number = 4;
      node_limit = 4;
      store_limit = 60;
      fits = true;
      given = triangle;
      opening = opening-triangle;
      calls = calls_triangle;
      without_blossoms = blossomless-triangle;
      present = present-run_triangle;
    }

-- the edge of weight 0 grows from both sides
table-triangle : growth_table (end run_triangle) ≡ 2 ∷ 0 ∷ 2 ∷ 0 ∷ 3 ∷ 3 ∷ 3 ∷ 0 ∷ []
unfolding everything
table-triangle = refl

-- from distances it does not
distances-triangle : table_from_distances (opened_graph 4 triangle (3 ∷ [])) (duals_of 4 (history run_triangle)) ≡ 2 ∷ 0 ∷ 2 ∷ 0 ∷ 0 ∷ 0 ∷ 3 ∷ 0 ∷ []
unfolding everything
distances-triangle = refl

zero-weight-changes-the-table : growth_table (end run_triangle) ≡ table_from_distances (opened_graph 4 triangle (3 ∷ [])) (duals_of 4 (history run_triangle)) → ⊥
zero-weight-changes-the-table e =
    differ-at 4 (2 ∷ 0 ∷ 2 ∷ 0 ∷ 3 ∷ 3 ∷ 3 ∷ 0 ∷ []) (2 ∷ 0 ∷ 2 ∷ 0 ∷ 0 ∷ 0 ∷ 3 ∷ 0 ∷ []) (λ z. omega arith)
    (sym table-triangle ∙ e ∙ distances-triangle)

-- ---- positive weights, for equal tables: the defect at 0 or at 1, and an edge of weight 0 between them

abbrev short : List Edge
short = edge 0 1 0 ∷ edge 1 2 4 ∷ []

opening-short : open_refusal 3 2 1 20 short (2 ∷ []) true ≡ 0
unfolding everything
opening-short = refl

-- a defect at v, grown by 1
abbrev grown_at : ℕ → List Call
grown_at v = InsertDefect v 1 ∷ Grow 0 (pos 1) ∷ []

blossomless-left : no_blossoms (opened 3 1 20 short (2 ∷ [])) (grown_at 0) ≡ true
unfolding everything
blossomless-left = refl

blossomless-right : no_blossoms (opened 3 1 20 short (2 ∷ [])) (grown_at 1) ≡ true
unfolding everything
blossomless-right = refl

present-at_left : with_weights short (after (opened 3 1 20 short (2 ∷ [])) (grown_at 0)).graph.weight ≡ short
unfolding everything
present-at_left = refl

abbrev at_left : Run 3 short (2 ∷ [])
at_left = record {
  edge_number = 2;
  node_limit = 1;
  store_limit = 20;
  fits = true;
  given = short;
  opening = opening-short;
  calls = grown_at 0;
  without_blossoms = blossomless-left;
  present = present-at_left;
}

present-at_right : with_weights short (after (opened 3 1 20 short (2 ∷ [])) (grown_at 1)).graph.weight ≡ short
unfolding everything
present-at_right = refl

abbrev at_right : Run 3 short (2 ∷ [])
at_right =
    record {
      edge_number = 2;
      node_limit = 1;
      store_limit = 20;
      fits = true;
      given = short;
      opening = opening-short;
      calls = grown_at 1;
      without_blossoms = blossomless-right;
      present = present-at_right;
    }

same-over-zero : growth_table (end at_left) ≡ growth_table (end at_right)
unfolding everything
same-over-zero = refl

left-at-0 : dual_at (history at_left) 0 ≡ pos 1
unfolding everything
left-at-0 = refl

right-at-0 : dual_at (history at_right) 0 ≡ pos 0
unfolding everything
right-at-0 = refl

zero-weight-hides-duals : (growth_table (end at_left) ≡ growth_table (end at_right) → (a : ℕ) → a < 3 → dual_at (history at_left) a ≡ dual_at (history at_right) a) → ⊥
zero-weight-hides-duals claim = differing-duals (λ z. omega arith) (sym left-at-0 ∙ claim same-over-zero 0 (omega arith) ∙ right-at-0)

-- ---- a virtual vertex in reach: a defect that covers its whole part of the graph grows on, and no side is left to grow

abbrev alone : List Edge
alone = edge 0 1 2 ∷ []

opening-alone : open_refusal 2 1 1 20 alone [] true ≡ 0
unfolding everything
opening-alone = refl

abbrev calls_full : List Call
calls_full = InsertDefect 0 1 ∷ Grow 0 (pos 2) ∷ []

abbrev calls_beyond : List Call
calls_beyond = InsertDefect 0 1 ∷ Grow 0 (pos 2) ∷ Grow 0 (pos 1) ∷ []

blossomless-full : no_blossoms (opened 2 1 20 alone []) calls_full ≡ true
unfolding everything
blossomless-full = refl

blossomless-beyond : no_blossoms (opened 2 1 20 alone []) calls_beyond ≡ true
unfolding everything
blossomless-beyond = refl

present-full : with_weights alone (after (opened 2 1 20 alone []) calls_full).graph.weight ≡ alone
unfolding everything
present-full = refl

abbrev full : Run 2 alone []
full = record {
  edge_number = 1;
  node_limit = 1;
  store_limit = 20;
  fits = true;
  given = alone;
  opening = opening-alone;
  calls = calls_full;
  without_blossoms = blossomless-full;
  present = present-full;
}

present-beyond : with_weights alone (after (opened 2 1 20 alone []) calls_beyond).graph.weight ≡ alone
unfolding everything
present-beyond = refl

abbrev beyond : Run 2 alone []
beyond =
    record {
      edge_number = 1;
      node_limit = 1;
      store_limit = 20;
      fits = true;
      given = alone;
      opening = opening-alone;
      calls = calls_beyond;
      without_blossoms = blossomless-beyond;
      present = present-beyond;
    }

same-without-virtual : growth_table (end full) ≡ growth_table (end beyond)
unfolding everything
same-without-virtual = refl

full-at-0 : dual_at (history full) 0 ≡ pos 2
unfolding everything
full-at-0 = refl

beyond-at-0 : dual_at (history beyond) 0 ≡ pos 3
unfolding everything
beyond-at-0 = refl

virtual-vertex-must-be-reached : (growth_table (end full) ≡ growth_table (end beyond) → (a : ℕ) → a < 2 → dual_at (history full) a ≡ dual_at (history beyond) a) → ⊥
virtual-vertex-must-be-reached claim = differing-duals (λ z. omega arith) (sym full-at-0 ∙ claim same-without-virtual 0 (omega arith) ∙ beyond-at-0)

-- ---- no accepted blossom: three defects in a circle, joined, and the blossom grown by 4; no defect has a y above 1

abbrev circle : List Edge
circle = edge 0 1 2 ∷ edge 0 2 2 ∷ edge 1 2 2 ∷ edge 2 3 20 ∷ []

abbrev calls_circle : List Call
calls_circle =
    InsertDefect 0 1 ∷ InsertDefect 1 1 ∷ InsertDefect 2 1 ∷ Grow 0 (pos 1) ∷ Grow 1 (pos 1) ∷ Grow 2 (pos 1)
    ∷ InsertBlossom 1 (0 ∷ 1 ∷ 2 ∷ []) ∷ Grow 3 (pos 4) ∷ []

blossom-accepted : no_blossoms (opened 4 4 120 circle (3 ∷ [])) calls_circle ≡ false
unfolding everything
blossom-accepted = refl

table-circle : growth_table (after (opened 4 4 120 circle (3 ∷ [])) calls_circle) ≡ 5 ∷ 5 ∷ 5 ∷ 5 ∷ 5 ∷ 5 ∷ 5 ∷ 0 ∷ []
unfolding everything
table-circle = refl

distances-circle : table_from_distances (opened_graph 4 circle (3 ∷ []))
    (duals_of 4 (history_after (opened 4 4 120 circle (3 ∷ [])) calls_circle))
    ≡ 1 ∷ 1 ∷ 1 ∷ 1 ∷ 1 ∷ 1 ∷ 1 ∷ 0 ∷ []
unfolding everything
distances-circle = refl

blossom-changes-the-table : growth_table (after (opened 4 4 120 circle (3 ∷ [])) calls_circle)
    ≡ table_from_distances (opened_graph 4 circle (3 ∷ [])) (duals_of 4 (history_after (opened 4 4 120 circle (3 ∷ [])) calls_circle)) → ⊥
blossom-changes-the-table e =
    differ-at 0 (5 ∷ 5 ∷ 5 ∷ 5 ∷ 5 ∷ 5 ∷ 5 ∷ 0 ∷ []) (1 ∷ 1 ∷ 1 ∷ 1 ∷ 1 ∷ 1 ∷ 1 ∷ 0 ∷ []) (λ z. omega arith)
    (sym table-circle ∙ e ∙ distances-circle)
