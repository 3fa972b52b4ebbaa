-- A run's own table is right, and nothing refuses it.
use Rattle.std.specs.Prelude.{ℕ, suc, ◌+◌, ◌*◌, ◌/◌, ◌%◌, ◌≤◌, ◌<◌, ◌≡◌, ◌≢◌, true, ℤ, negsuc, eqb, drop}
use Rattle.std.proofs.Common.{arith, ◌∙◌, ext_get_or, get_or-take}
use Rattle.std.proofs.Math.Decide.{dec_lt}
use Rattle.std.proofs.Math.Nat.{div-add-mod', mod-lt, mul-le-mul_right}
use Rattle.std.proofs.Math.Path.{refl, sym, ap}
use Rattle.std.proofs.Math.Logic.{by_cases}
use mathlib.Core.List.{List, [], ◌∷◌, map}
use Rattle.std.proofs.Math.IntN.{pos}
use Rattle.std.proofs.Math.Dec.{leb, ltb}
use Rattle.std.proofs.Math.ListN.{length, get_or, length-map, get_or-map}
use Rattle.std.proofs.Math.Seq.{get_or-drop}
use borrow.Author.Tests.{le-leb, lt-ltb, le-ltb, eq-eqb}
use Rattle.graph.specs.Basic.{all, below, member, distinct}
use Rattle.graph.specs.Word.{to_nat}
use Rattle.graph.specs.State.{defect_vertex, side_count, node_count, class_of, dual_of, vertex_holder_at}
use Rattle.graph.specs.Open.{Edge, dual_limit, growth_limit, sizes_ok, edge_ok}
use Rattle.graph.specs.Opening.{edges_in}
use Rattle.graph.specs.laws.Size.{SizesIn, sizes-in}
use Rattle.graph.specs.laws.Scan.{list-from}
use Rattle.graph.specs.laws.Opened.{get_d-tabled, accepted}
use Rattle.graph.specs.inner.Opened.{OpeningAccepted}
use Rattle.graph.specs.laws.Members.{both, by-test, length-below, distinct_cons}
use Rattle.open_graph.specs.laws.Open.{edges-count}
use Rattle.calls.specs.Calls.{growth_table}
use Rattle.reachable.specs.laws.prepare.Preparation.{invariant-numbers}
use Rattle.reachable.specs.laws.WithoutBlossoms.{defect-vertex-held}
use Rattle.distance.specs.Graph.{Virtual}
use Rattle.distance.specs.Distance.{unreachable, dist}
use Rattle.distance.specs.Nearest.{ReachesVirtual, nearest_virtual}
use Rattle.distance.specs.Table.{table_from_distances}
use Rattle.distance.proofs.Theorems.{distance-bounded, nearest-virtual-vertex, nearest-virtual-in-reach}
use Rattle.distance.proofs.laws.Distance.{dist-capped}
use Rattle.opened_graph.specs.OpenedGraph.{opened_graph, PositiveWeights}
use Rattle.opened_graph.specs.laws.Opening.{weights-positive}
use Rattle.table_theorem.specs.History.{Entry, no_entry, entry_at, dual_at, natural, duals_of}
use Rattle.table_theorem.specs.Runs.{Run, end, history}
use Rattle.table_theorem.proofs.Theorems.{table-is-from-distances}
use Rattle.table_theorem.proofs.laws.Depth.{DefectsOnly, vertex-inside, far-off}
use Rattle.table_theorem.proofs.laws.Feasible.{nodes-apart}
use Rattle.table_theorem.proofs.laws.Runs.{present-opening, defects-only, end-matches}
use Rattle.table_check.specs.Outcome.{Yes}
use Rattle.table_words.specs.Handed.{distance_limit, distance_of, distance_in, row_of, Handed, handed}
use Rattle.table_check.specs.Verdict.{given_dual_of as dual_by_vertex, duals_by_vertex, Right, table_verdict}
use Rattle.table_refuse.specs.Refuse.{sizes_right, lengths_right, graph_in_range, defects_in_range, distances_in_range, numbers_right, table_refusal}
use Rattle.table_check.specs.Theorems.{yes-exactly}
use Rattle.table_check.specs.laws.Members.{place_of}
use Rattle.own_tables.specs.Own.{distance_word, Own}
use Rattle.own_tables.proofs.laws.Duals.{duals-agree}

-- ---- words of distances

word-reads : (d : ℕ) → d ≤ unreachable → (d < unreachable → d ≤ 1_023_000_000) → distance_of (distance_word d) ≡ d
unfolding distance_of distance_word
word-reads d h k =
    by_cases (dec_lt d unreachable) (λ l. rw (lt-ltb d unreachable l, le-leb d distance_limit (k l)))
    (λ l. rw (le-ltb d unreachable (omega arith)) (omega arith))

-- two entries at different places differ
distinct_from : (l : List ℕ) → ((i j : ℕ) → i < length l → j < length l → i ≢ j → get_or l i 0 ≢ get_or l j 0) → distinct l ≡ true
unfolding distinct
distinct_from [] f = refl
distinct_from (x ∷ l) f =
    distinct_cons x l (by-test (member x l) (λ t. absurd (twice t)) (λ t. t))
    (distinct_from l (λ i j h k n. f (suc i) (suc j) (omega arith) (omega arith) (λ q. n (omega arith))))
  where
    twice : member x l ≡ true → ⊥
    twice t = let p = place_of x l t in f 0 (suc p.0) (omega arith) (omega (arith, p.1)) (λ q. omega arith) (sym p.2)

module _ {v : ℕ} {edges : List Edge} {virtuals : List ℕ} (positive : PositiveWeights edges)
    (reach : (a : ℕ) → a < v → ReachesVirtual (opened_graph v edges virtuals) a)
    (r : Run v edges virtuals) (edges' virtuals' defects' duals' growths' distances' : List ℤ)
    (own : Own r edges' virtuals' defects' duals' growths' distances') where
  only : DefectsOnly (opened_graph v edges virtuals) (end r)
  only = defects-only r positive

  size : (opened_graph v edges virtuals).size ≡ v
  size = unfold opened_graph in refl

  -- ---- defects

  at : (i : ℕ) → i < length (history r) → class_of (end r) i ≡ defect_vertex (entry_at (history r) i).vertex
  at i h = ((end-matches r).nodes.agrees i (rw (end-matches r).nodes.count h)).vertex

  node : (i : ℕ) → i < length (history r) → i < node_count (end r)
  node i h = rw (end-matches r).nodes.count h

  inside : (i : ℕ) → i < length (history r) → (entry_at (history r) i).vertex < (opened_graph v edges virtuals).size
  inside i h = vertex-inside (opened_graph v edges virtuals) (end r) only i (entry_at (history r) i).vertex (node i h) (at i h)

  apart : (i j : ℕ) → i < length (history r) → j < length (history r) → i ≢ j → (entry_at (history r) i).vertex ≢ (entry_at (history r) j).vertex
  apart i j h k q e =
      let x = (defect-vertex-held (end r) only.good only.outer i (entry_at (history r) i).vertex (node i h) (at i h)).0 in
      let y = (defect-vertex-held (end r) only.good only.outer j (entry_at (history r) j).vertex (node j k) (at j k)).0 in
      let z : vertex_holder_at (end r) (entry_at (history r) i).vertex ≡ vertex_holder_at (end r) (entry_at (history r) j).vertex = ap (vertex_holder_at (end r)) e in
      q (omega arith)

  dual-is : (i : ℕ) → i < length (history r) → (entry_at (history r) i).y ≡ pos (dual_of (end r) i)
  dual-is i h = sym ((end-matches r).nodes.agrees i (node i h)).dual

  -- ---- the numbers that were handed over

  count : length defects' ≡ length (history r)
  count = sym (length-map defects' to_nat) ∙ ap (λ (l : List ℕ). length l) own.defects-are ∙ length-map (history r) (λ (x : Entry). x.vertex)

  defect-at : (i : ℕ) → get_or (map to_nat defects') i 0 ≡ (entry_at (history r) i).vertex
  defect-at i = ap (λ (l : List ℕ). get_or l i 0) own.defects-are ∙ get_or-map (λ (x : Entry). x.vertex) (history r) i no_entry

  dual-count : length duals' ≡ length (history r)
  dual-count = ap (λ (l : List ℤ). length l) own.duals-are ∙ length-map (history r) (λ (x : Entry). x.y)

  dual-at : (i : ℕ) → i < length (history r) → get_or (map to_nat duals') i 0 ≡ dual_of (end r) i
  unfolding to_nat
  dual-at i h =
      get_or-map to_nat duals' i (pos 0) ∙ ap (λ (l : List ℤ). to_nat (get_or l i (pos 0))) own.duals-are
      ∙ ap to_nat (get_or-map (λ (x : Entry). x.y) (history r) i no_entry) ∙ ap to_nat (dual-is i h)

  distance-at : (i u : ℕ) → i < length (history r) → u < v
      → distance_in (row_of v distances' i) u ≡ dist (opened_graph v edges virtuals) (entry_at (history r) i).vertex u
  unfolding distance_in
  distance-at i u h l =
      let a = (entry_at (history r) i).vertex in
      let g = opened_graph v edges virtuals in
      ap distance_of (get_or-take v (drop (i * v) distances') u (negsuc 0) l ∙ get_or-drop (i * v) distances' u (negsuc 0) ∙ own.distances-are i u h l)
      ∙ word-reads (dist g a u) (dist-capped g only.formed a (inside i h) u) (distance-bounded g only.formed a (inside i h) u)

  -- ---- feasible

  pair : (i j : ℕ) → i < length (history r) → j < length (history r) → i ≢ j
      → dist (opened_graph v edges virtuals) (entry_at (history r) i).vertex (entry_at (history r) j).vertex < unreachable
      → dual_of (end r) i + dual_of (end r) j ≤ dist (opened_graph v edges virtuals) (entry_at (history r) i).vertex (entry_at (history r) j).vertex
  pair i j h k q =
      nodes-apart (opened_graph v edges virtuals) (end r) only i (entry_at (history r) i).vertex j (entry_at (history r) j).vertex (node i h) (at i h)
      (node j k) (at j k) q

  far : (i u : ℕ) → i < length (history r) → Virtual (opened_graph v edges virtuals) u
      → dual_of (end r) i ≤ dist (opened_graph v edges virtuals) (entry_at (history r) i).vertex u
  far i u h w =
      let f : vertex_holder_at (end r) u ≡ 0 =
      only.good.clusters.defect-nodes.virtuals u (λ q. let k = sym (only.graph.virtual_is u) ∙ q in omega arith) in
      far-off (opened_graph v edges virtuals) (end r) only i (entry_at (history r) i).vertex (node i h) (at i h) u (λ q. omega arith)

  nearest : (i : ℕ) → i < length (history r) → dual_of (end r) i ≤ nearest_virtual (opened_graph v edges virtuals) (entry_at (history r) i).vertex
  nearest i h =
      let g = opened_graph v edges virtuals in
      let a = (entry_at (history r) i).vertex in
      let l = inside i h in
      let m = nearest-virtual-vertex g only.formed a l ((nearest-virtual-in-reach g only.formed a l).1 (reach a (omega (arith, l, size)))) in
      rw (← m.nearest-is) (far i m.vertex h m.virtual)

  -- ---- right

  natural-duals : (i : ℕ) → i < length (history r) → (entry_at (history r) i).y ≡ pos (natural (entry_at (history r) i).y)
  unfolding natural
  natural-duals i h = dual-is i h ∙ ap (λ (z : ℤ). pos (natural z)) (sym (dual-is i h))

  -- what was handed over, on the run's own graph
  abbrev H : Handed
  H = record {
    graph = opened_graph v edges virtuals;
    defects = map to_nat defects';
    duals = map to_nat duals';
    distance = λ i u. distance_in (row_of v distances' i) u;
    growths = map to_nat growths';
  }

  handed-is : handed v edges' virtuals' defects' duals' growths' distances' ≡ H
  unfolding handed
  handed-is = rw (own.edges_are, own.virtuals-are)

  listed : (i : ℕ) → i < length (map to_nat defects') → i < length (history r)
  listed i k = omega (arith, length-map defects' to_nat, count)

  vertex-dual : (a : ℕ) → a < v → get_or (duals_by_vertex H) a 0 ≡ natural (dual_at (history r) a)
  unfolding duals_by_vertex
  vertex-dual a l =
      get_d-tabled (dual_by_vertex (map to_nat defects') (map to_nat duals')) (opened_graph v edges virtuals).size a 0 (omega (arith, size))
      ∙ rw (own.defects-are, own.duals-are) (duals-agree (history r) a natural-duals)

  vertices-long : length (duals_by_vertex H) ≡ v
  unfolding duals_by_vertex
  vertices-long =
      length-map (below (opened_graph v edges virtuals).size) (dual_by_vertex (map to_nat defects') (map to_nat duals'))
      ∙ length-below (opened_graph v edges virtuals).size ∙ size

  history-long : length (duals_of v (history r)) ≡ v
  unfolding duals_of
  history-long = length-map (below v) (λ a. natural (dual_at (history r) a)) ∙ length-below v

  history-dual : (a : ℕ) → a < v → get_or (duals_of v (history r)) a 0 ≡ natural (dual_at (history r) a)
  unfolding duals_of
  history-dual a l = get_d-tabled (λ a. natural (dual_at (history r) a)) v a 0 l

  same-duals : duals_of v (history r) ≡ duals_by_vertex H
  same-duals =
      ext_get_or 0 (duals_of v (history r)) (duals_by_vertex H) (history-long ∙ sym vertices-long)
      (λ a l. let k : a < v = omega (arith, history-long, l) in history-dual a k ∙ sym (vertex-dual a k))

  own-right : Right H
  own-right = record {
    positive-weights = weights-positive v edges virtuals positive;
    virtual-in-reach = λ a l. reach a (omega (arith, l, size));
    shortest-distances = λ i u k l. rw (defect-at i) (distance-at i u (listed i k) (omega (arith, l, size)));
    pairs = λ i j k l q z.
        rw (defect-at i, defect-at j, dual-at i (listed i k), dual-at j (listed j l))
        (pair i j (listed i k) (listed j l) q (rw (defect-at i, defect-at j) at z));
    virtuals = λ i k. rw (defect-at i, dual-at i (listed i k)) (nearest i (listed i k));
    table = own.growths-are ∙ table-is-from-distances v edges virtuals positive r ∙ ap (table_from_distances (opened_graph v edges virtuals)) same-duals;
  }

  -- ---- nothing refuses it

  opened-facts : OpeningAccepted v r.edge_number r.node_limit r.store_limit edges virtuals r.fits
  opened-facts = accepted v r.edge_number r.node_limit r.store_limit edges virtuals r.fits (present-opening r)

  sizes : SizesIn v r.edge_number r.node_limit r.store_limit
  sizes = sizes-in v r.edge_number r.node_limit r.store_limit opened-facts.sizes

  edge-count : edges_in edges' ≡ r.edge_number
  edge-count = sym (edges-count edges') ∙ ap (λ (l : List Edge). length l) own.edges_are ∙ opened-facts.count

  sized : sizes_right v r.edge_number edges' ≡ true
  unfolding sizes_right sizes_ok
  sized =
      rw (le-leb 1 v sizes.v-min, le-leb v 1024 sizes.v-max, le-leb 1 r.edge_number sizes.e-min, le-leb r.edge_number 4096 sizes.e-max)
      (eq-eqb (edges_in edges') r.edge_number edge-count)

  sides-long : length (growth_table (end r)) ≡ side_count (end r)
  unfolding growth_table
  sides-long = only.good.shape.growth

  growth-count : length growths' ≡ 2 * r.edge_number
  growth-count =
      sym (length-map growths' to_nat) ∙ ap (λ (l : List ℕ). length l) own.growths-are ∙ sides-long ∙ only.graph.sides-are ∙ only.formed.paired
      ∙ weights-long
    where
      weights-long : 2 * length (opened_graph v edges virtuals).weights ≡ 2 * r.edge_number
      weights-long = unfold opened_graph in (ap (λ (k : ℕ). 2 * k) (length-map edges (λ (x : Edge). x.weight) ∙ opened-facts.count))

  fitted : lengths_right v r.edge_number defects' duals' growths' distances' ≡ true
  unfolding lengths_right
  fitted =
      both (eqb (length duals') (length defects')) _ (eq-eqb _ _ (dual-count ∙ sym count))
      (both (eqb (length growths') (2 * r.edge_number)) _ (eq-eqb _ _ growth-count)
      (eq-eqb (length distances') (length defects' * v) (own.distances-long ∙ ap (λ (k : ℕ). k * v) (sym count))))

  graph-range : graph_in_range v edges' virtuals' ≡ true
  unfolding graph_in_range
  graph-range = rw (own.edges_are, own.virtuals-are) (both (all (edge_ok v) edges) _ opened-facts.ends opened-facts.vertices)

  defects-range : defects_in_range v defects' ≡ true
  unfolding defects_in_range
  defects-range =
      both (all (λ x. ltb x v) (map to_nat defects')) _
      (list-from (λ x. ltb x v) (map to_nat defects') 0
      (λ i k. lt-ltb (get_or (map to_nat defects') i 0) v (omega (arith, defect-at i, inside i (listed i k), size))))
      (distinct_from (map to_nat defects') (λ i j k l q e. apart i j (listed i k) (listed j l) q (sym (defect-at i) ∙ e ∙ defect-at j)))

  duals-range : all (λ x. leb x dual_limit) (map to_nat duals') ≡ true
  duals-range =
      list-from (λ x. leb x dual_limit) (map to_nat duals') 0
      (λ i k.
      let h : i < length (history r) = omega (arith, k, length-map duals' to_nat, dual-count) in
      le-leb (get_or (map to_nat duals') i 0) dual_limit (omega (arith, dual-at i h, ((invariant-numbers only.good).nodes i (node i h)).dual)))

  growths-range : all (λ x. leb x growth_limit) (map to_nat growths') ≡ true
  unfolding growth_table
  growths-range =
      rw own.growths-are
      (list-from (λ x. leb x growth_limit) (end r).sides.growth 0
      (λ s k. le-leb (get_or (end r).sides.growth s 0) growth_limit
      ((invariant-numbers only.good).sides s (omega (arith, k, only.good.shape.growth))).growth))

  -- the word at place k is that of row k / v and vertex k % v
  distances-range : distances_in_range distances' ≡ true
  unfolding distances_in_range
  distances-range =
      list-from (λ x. leb (distance_of x) unreachable) distances' (negsuc 0) (λ k l. le-leb (distance_of (get_or distances' k (negsuc 0))) unreachable (capped k l))
    where
      capped : (k : ℕ) → k < length distances' → distance_of (get_or distances' k (negsuc 0)) ≤ unreachable
      capped k l =
          let g = opened_graph v edges virtuals in
          let above : 0 < v = omega (arith, sizes.v-min) in
          let u : k % v < v = mod-lt k above in
          let parts : k / v * v + k % v ≡ k = div-add-mod' k v in
          let i : k / v < length (history r) =
          by_cases (dec_lt (k / v) (length (history r))) (λ z. z)
          (λ z. let q : length (history r) * v ≤ k / v * v = mul-le-mul_right v (omega arith) in absurd (omega (arith, own.distances-long, l, parts, q))) in
          let a = (entry_at (history r) (k / v)).vertex in
          let w : get_or distances' k (negsuc 0) ≡ distance_word (dist g a (k % v)) =
          ap (λ (j : ℕ). get_or distances' j (negsuc 0)) (sym parts) ∙ own.distances-are (k / v) (k % v) i u in
          let d = dist-capped g only.formed a (inside (k / v) i) (k % v) in
          rw (w, word-reads (dist g a (k % v)) d (distance-bounded g only.formed a (inside (k / v) i) (k % v))) d

  numbered : numbers_right v edges' virtuals' defects' duals' growths' distances' ≡ true
  unfolding numbers_right
  numbered =
      both (graph_in_range v edges' virtuals') _ graph-range
      (both (defects_in_range v defects') _ defects-range
      (both (all (λ x. leb x dual_limit) (map to_nat duals')) _ duals-range
      (both (all (λ x. leb x growth_limit) (map to_nat growths')) _ growths-range distances-range)))

  none : table_refusal v r.edge_number edges' virtuals' defects' duals' growths' distances' ≡ 0
  unfolding table_refusal
  none = rw (sized, fitted, numbered)

  pub own-yes : table_verdict v r.edge_number edges' virtuals' defects' duals' growths' distances' ≡ Yes
  own-yes = (yes-exactly v r.edge_number edges' virtuals' defects' duals' growths' distances').1 (none, rw handed-is own-right)
