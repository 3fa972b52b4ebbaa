-- The tests pass just where the table is right.
use Rattle.std.specs.Prelude.{ℕ, ◌+◌, ◌*◌, ◌≤◌, ◌<◌, ◌≡◌, ◌≢◌, ◌↔◌, true, ◌&&◌, ◌||◌, ℤ, length, get_or}
use Rattle.std.proofs.Common.{arith, sym, ◌∙◌, ext_get_or}
use Rattle.std.proofs.Math.Decide.{ℕ_discrete, dec_lt}
use Rattle.std.proofs.Math.Path.{ap}
use Rattle.std.proofs.Math.Logic.{by_cases}
use mathlib.Core.List.{List, map}
use Rattle.std.proofs.Math.Dec.{eqb, leb, ltb}
use Rattle.std.proofs.Math.ListN.{length-map, get_or-eq_default}
use borrow.Author.Tests.{eqb-true, eq-eqb, leb-true, le-leb, lt-ltb, ltb-true, ltb-false}
use Rattle.graph.specs.Basic.{below, all_below, same}
use Rattle.graph.specs.Word.{to_nat, word_at}
use Rattle.graph.specs.Open.{dual_limit}
use Rattle.graph.specs.laws.State.{and_left, and_right}
use Rattle.graph.specs.laws.Shape.{same_refl, same-eq}
use Rattle.graph.specs.laws.Opened.{get_d-tabled}
use Rattle.graph.specs.laws.Members.{both, or_cases, or_left, or_right, all-at, all-below-at, all-below-from, length-below}
use Rattle.distance.specs.Graph.{WeightedGraph, WellFormed, Virtual, sides, near, weight}
use Rattle.distance.specs.Distance.{unreachable, dist}
use Rattle.distance.specs.Nearest.{nearest_virtual}
use Rattle.distance.specs.Table.{dual, Covers, share, growth, table_from_distances}
use Rattle.distance.specs.Feasible.{Feasible}
use Rattle.distance.proofs.Theorems.{nearest-virtual-least, nearest-virtual-vertex, nearest-virtual-in-reach, growth-where-covered, growth-where-free}
use Rattle.distance.proofs.laws.Distance.{unreachable-is}
use Rattle.distance.proofs.laws.Table.{length-table_from_distances, at-table_from_distances}
use Rattle.distance.proofs.laws.Side.{across-placed}
use Rattle.table_words.specs.Handed.{distance_in, row_of, Handed, handed}
use Rattle.table_check.specs.Verdict.{given_defect_at, given_dual_at, defect_count, given_dual_of, duals_by_vertex, positive, in_reach, shortest, pairs_feasible, virtuals_feasible, table_afresh, right, Right}
use Rattle.table_words.specs.Sides.{near_in, across_in, weight_in}
use Rattle.table_check.specs.Tests.{tested}
use Rattle.table_check.specs.laws.Choice.{test-same}
use Rattle.table_words.specs.laws.Words.{numbers-at, numbers-long}
use Rattle.table_check.specs.laws.Wiring.{graph_in, sides-are, size_is, near-is, across-is, weight_is}
use Rattle.table_check.specs.laws.Members.{dual-of-defect, defect-of-dual}
use Rattle.table_check.specs.laws.Accepted.{Accepted, formed}
use Rattle.table_check.specs.laws.Facts.{Facts, given, defect-in, find-below, tested-facts, facts-tested}

-- ---- the definition, as facts

module _ (h : Handed) (ok : WellFormed h.graph) (inside : (i : ℕ) → i < defect_count h → given_defect_at h i < h.graph.size)
    (bounded : (i : ℕ) → given_dual_at h i ≤ dual_limit) where
  pub right-holds : right h ≡ true → Right h
  unfolding right positive in_reach shortest pairs_feasible virtuals_feasible table_afresh
  right-holds t =
      let g = h.graph in
      let a = positive g in
      let b = in_reach g in
      let c = shortest h in
      let d = pairs_feasible h in
      let x = virtuals_feasible h in
      let y = table_afresh h in
      let t₂ = and_right a (b && (c && (d && (x && y)))) t in
      let t₃ = and_right b (c && (d && (x && y))) t₂ in
      let t₄ = and_right c (d && (x && y)) t₃ in
      let t₅ = and_right d (x && y) t₄ in
      record {
        positive-weights = λ s l. ltb-true 0 (weight g s) (all-below-at (λ s. ltb 0 (weight g s)) (sides g) s (and_left a (b && (c && (d && (x && y)))) t) l);
        virtual-in-reach = λ u l. (nearest-virtual-in-reach g ok u l).0
            (ltb-true (nearest_virtual g u) unreachable
            (all-below-at (λ u. ltb (nearest_virtual g u) unreachable) g.size u (and_left b (c && (d && (x && y))) t₂) l));
        shortest-distances = λ i u k l. eqb-true (h.distance i u) (dist g (given_defect_at h i) u)
            (all-below-at (λ u. eqb (h.distance i u) (dist g (given_defect_at h i) u)) g.size u
            (all-below-at (λ i. all_below (λ u. eqb (h.distance i u) (dist g (given_defect_at h i) u)) g.size) (defect_count h) i
            (and_left c (d && (x && y)) t₃) k) l);
        pairs = λ i j k l q r. or_cases (eqb i j) (leb (given_dual_at h i + given_dual_at h j) (dist g (given_defect_at h i) (given_defect_at h j)))
            (all-below-at (λ j. eqb i j || leb (given_dual_at h i + given_dual_at h j) (dist g (given_defect_at h i) (given_defect_at h j))) (defect_count h) j
            (all-below-at
            (λ i. all_below
            (λ j. eqb i j || leb (given_dual_at h i + given_dual_at h j) (dist g (given_defect_at h i) (given_defect_at h j)))
            (defect_count h))
            (defect_count h) i
            (and_left d (x && y) t₄) k) l)
            (λ z. absurd (q (eqb-true i j z)))
            (λ z. leb-true (given_dual_at h i + given_dual_at h j) (dist g (given_defect_at h i) (given_defect_at h j)) z);
        virtuals = λ i k. leb-true (given_dual_at h i) (nearest_virtual g (given_defect_at h i))
            (all-below-at (λ i. leb (given_dual_at h i) (nearest_virtual g (given_defect_at h i))) (defect_count h) i (and_left x y t₅) k);
        table = same-eq h.growths (table_from_distances g (duals_by_vertex h)) (and_right x y t₅);
      }

  module _ (r : Right h) where
    a-holds : positive h.graph ≡ true
    unfolding positive
    a-holds = all-below-from (λ s. ltb 0 (weight h.graph s)) (sides h.graph) (λ s l. lt-ltb 0 (weight h.graph s) (r.positive-weights s l))

    b-holds : in_reach h.graph ≡ true
    unfolding in_reach
    b-holds =
        all-below-from (λ a. ltb (nearest_virtual h.graph a) unreachable) h.graph.size
        (λ a l. lt-ltb (nearest_virtual h.graph a) unreachable ((nearest-virtual-in-reach h.graph ok a l).1 (r.virtual-in-reach a l)))

    c-holds : shortest h ≡ true
    unfolding shortest
    c-holds =
        all-below-from (λ i. all_below (λ u. eqb (h.distance i u) (dist h.graph (given_defect_at h i) u)) h.graph.size) (defect_count h)
        (λ i k. all-below-from (λ u. eqb (h.distance i u) (dist h.graph (given_defect_at h i) u)) h.graph.size
        (λ u l. eq-eqb (h.distance i u) (dist h.graph (given_defect_at h i) u) (r.shortest-distances i u k l)))

    -- a pair without a way is free
    pair-holds : (i j : ℕ) → i < defect_count h → j < defect_count h → i ≢ j
        → given_dual_at h i + given_dual_at h j ≤ dist h.graph (given_defect_at h i) (given_defect_at h j)
    pair-holds i j k l q =
        by_cases (dec_lt (dist h.graph (given_defect_at h i) (given_defect_at h j)) unreachable) (λ z. r.pairs i j k l q z)
        (λ z. omega (arith, bounded i, bounded j, unreachable-is))

    d-holds : pairs_feasible h ≡ true
    unfolding pairs_feasible
    d-holds =
        all-below-from
        (λ i. all_below
        (λ j. eqb i j
        || leb (given_dual_at h i + given_dual_at h j) (dist h.graph (given_defect_at h i) (given_defect_at h j)))
        (defect_count h))
        (defect_count h)
        (λ i k. all-below-from
        (λ j. eqb i j
        || leb (given_dual_at h i + given_dual_at h j) (dist h.graph (given_defect_at h i) (given_defect_at h j)))
        (defect_count h)
        (λ j l. by_cases (ℕ_discrete i j)
        (λ q. or_left (eqb i j) (leb (given_dual_at h i + given_dual_at h j) (dist h.graph (given_defect_at h i) (given_defect_at h j))) (eq-eqb i j q))
        (λ q. or_right (eqb i j) (leb (given_dual_at h i + given_dual_at h j) (dist h.graph (given_defect_at h i) (given_defect_at h j)))
        (le-leb (given_dual_at h i + given_dual_at h j) (dist h.graph (given_defect_at h i) (given_defect_at h j)) (pair-holds i j k l q)))))

    x-holds : virtuals_feasible h ≡ true
    unfolding virtuals_feasible
    x-holds =
        all-below-from (λ i. leb (given_dual_at h i) (nearest_virtual h.graph (given_defect_at h i))) (defect_count h)
        (λ i k. le-leb (given_dual_at h i) (nearest_virtual h.graph (given_defect_at h i)) (r.virtuals i k))

    y-holds : table_afresh h ≡ true
    unfolding table_afresh
    y-holds =
        let t = table_from_distances h.graph (duals_by_vertex h) in
        ap (λ (l : List ℕ). same l t) r.table ∙ same_refl t

    pub holds-right : right h ≡ true
    unfolding right
    holds-right =
        both (positive h.graph) _ a-holds (both (in_reach h.graph) _ b-holds (both (shortest h) _ c-holds
        (both (pairs_feasible h) _ d-holds (both (virtuals_feasible h) _ x-holds y-holds))))

-- ---- right and the facts

module _ (v e : ℕ) (edges virtuals defects duals growths distances : List ℤ) (acc : Accepted v e edges virtuals defects duals growths distances) where
  abbrev g : WeightedGraph
  g = graph_in v edges virtuals

  -- what was handed over
  abbrev h : Handed
  h = record {
    graph = graph_in v edges virtuals;
    defects = map to_nat defects;
    duals = map to_nat duals;
    distance = λ i u. distance_in (row_of v distances i) u;
    growths = map to_nat growths;
  }

  wf : WellFormed (graph_in v edges virtuals)
  wf = formed v e edges virtuals defects duals growths distances acc

  size : (graph_in v edges virtuals).size ≡ v
  size = size_is v e edges virtuals acc.edge-count

  -- the defects and their dual variables, as the words have them
  counted : defect_count h ≡ length defects
  counted = numbers-long defects

  defect-is : (i : ℕ) → given_defect_at h i ≡ word_at defects i
  defect-is i = numbers-at defects i

  dual-is : (i : ℕ) → given_dual_at h i ≡ word_at duals i
  dual-is i = numbers-at duals i

  defect-placed : (i : ℕ) → i < length defects → word_at defects i < (graph_in v edges virtuals).size
  defect-placed i k = rw size (defect-in v e edges virtuals defects duals growths distances acc i k)

  dual-bounded : (i : ℕ) → given_dual_at h i ≤ dual_limit
  dual-bounded i =
      by_cases (dec_lt i (length (map to_nat duals)))
      (λ l. leb-true (get_or (map to_nat duals) i 0) dual_limit (all-at (λ x. leb x dual_limit) (map to_nat duals) i acc.duals-ok l))
      (λ l. omega (arith, get_or-eq_default (map to_nat duals) 0 {n = i} (omega arith)))

  same_count : length (map to_nat duals) ≡ length (map to_nat defects)
  same_count = numbers-long duals ∙ acc.dual-count ∙ sym (numbers-long defects)

  -- ---- dual variables by vertex

  by-vertex : (a : ℕ) → a < v → dual (duals_by_vertex h) a ≡ given_dual_of (map to_nat defects) (map to_nat duals) a
  unfolding duals_by_vertex
  by-vertex a l = get_d-tabled (given_dual_of (map to_nat defects) (map to_nat duals)) (graph_in v edges virtuals).size a 0 (rw size l)

  vertices-long : length (duals_by_vertex h) ≡ (graph_in v edges virtuals).size
  unfolding duals_by_vertex
  vertices-long =
      length-map (below (graph_in v edges virtuals).size) (given_dual_of (map to_nat defects) (map to_nat duals))
      ∙ length-below (graph_in v edges virtuals).size

  -- of a defect
  of-defect : (i : ℕ) → i < length defects → dual (duals_by_vertex h) (word_at defects i) ≡ word_at duals i
  of-defect i k =
      by-vertex (word_at defects i) (defect-in v e edges virtuals defects duals growths distances acc i k)
      ∙ ap (given_dual_of (map to_nat defects) (map to_nat duals)) (sym (defect-is i))
      ∙ dual-of-defect (map to_nat defects) (map to_nat duals) acc.defects-once same_count i (rw (numbers-long defects) k)
      ∙ dual-is i

  -- above 0 only at a defect
  record Owned (a : ℕ) : Type 0 where
    pub place : ℕ
    pub listed : place < length defects
    pub vertex : word_at defects place ≡ a
    pub owned-dual : word_at duals place ≡ dual (duals_by_vertex h) a

  owned : (a : ℕ) → 0 < dual (duals_by_vertex h) a → Owned a
  owned a p =
      by_cases (dec_lt a v)
      (λ l.
      let q = defect-of-dual (map to_nat defects) (map to_nat duals) a same_count (rw (by-vertex a l) at p) in
      record {
        place = q.0;
        listed = rw (numbers-long defects) at q.1;
        vertex = sym (defect-is q.0) ∙ q.2;
        owned-dual = sym (dual-is q.0) ∙ q.3 ∙ sym (by-vertex a l);
      })
      (λ l. absurd (omega (arith, get_or-eq_default (duals_by_vertex h) 0 {n = a} (omega (arith, vertices-long, size)))))

  dual-limit : (a : ℕ) → dual (duals_by_vertex h) a ≤ 1_000_000_000
  dual-limit a =
      by_cases (dec_lt 0 (dual (duals_by_vertex h) a))
      (λ p. let o = owned a p in omega (arith, o.owned-dual, dual-is o.place, dual-bounded o.place))
      (λ p. omega arith)

  -- ---- feasible

  module _ (pairs : (i j : ℕ) → i < length defects → j < length defects → i ≢ j
      → word_at duals i + word_at duals j ≤ dist (graph_in v edges virtuals) (word_at defects i) (word_at defects j))
      (far : (i a : ℕ) → i < length defects → a < v → Virtual (graph_in v edges virtuals) a
      → word_at duals i ≤ dist (graph_in v edges virtuals) (word_at defects i) a) where
    feasible : Feasible (graph_in v edges virtuals) (duals_by_vertex h)
    feasible = record {
      sized = vertices-long;
      bounded = dual-limit;
      pairs = λ a b k l q x y z. pair a b q x y;
      virtuals = λ a u k l w. by_cases (dec_lt 0 (dual (duals_by_vertex h) a)) (λ x. virtual a u (rw size at l) w x) (λ x. omega arith);
    }
      where
        pair : (a b : ℕ) → a ≢ b → 0 < dual (duals_by_vertex h) a → 0 < dual (duals_by_vertex h) b
            → dual (duals_by_vertex h) a + dual (duals_by_vertex h) b ≤ dist (graph_in v edges virtuals) a b
        pair a b q x y =
            let o = owned a x in
            let m = owned b y in
            let n : o.place ≢ m.place = λ z. q (sym o.vertex ∙ ap (word_at defects) z ∙ m.vertex) in
            rw (← o.owned-dual, ← m.owned-dual) (rw (o.vertex, m.vertex) at (pairs o.place m.place o.listed m.listed n))

        virtual : (a u : ℕ) → u < v → Virtual (graph_in v edges virtuals) u → 0 < dual (duals_by_vertex h) a
            → dual (duals_by_vertex h) a ≤ dist (graph_in v edges virtuals) a u
        virtual a u l w x = let o = owned a x in rw (← o.owned-dual) (rw o.vertex at (far o.place u o.listed l w))

    -- ---- growth by the distances that were handed over

    module _ (shortest : (i u : ℕ) → i < length defects → u < v
        → given v e edges virtuals defects duals growths distances i u ≡ dist (graph_in v edges virtuals) (word_at defects i) u)
        (s : ℕ) (l : s < 2 * e) where
      in-sides : s < sides (graph_in v edges virtuals)
      in-sides = rw (sides-are v e edges virtuals acc.edge-count) l

      near-in : near_in edges s < v
      near-in = omega (arith, wf.placed s in-sides, near-is v e edges virtuals acc.edge-count s l, size)

      across-in : across_in edges s < v
      across-in = omega (arith, across-placed (graph_in v edges virtuals) wf s in-sides, across-is v e edges virtuals acc.edge-count s l, size)

      covered-growth : (i : ℕ) → i < length defects → given v e edges virtuals defects duals growths distances i (near_in edges s) < word_at duals i
          → growth (graph_in v edges virtuals) (duals_by_vertex h) s
          ≡ share (word_at duals i) (given v e edges virtuals defects duals growths distances i (near_in edges s))
          (given v e edges virtuals defects duals growths distances i (across_in edges s)) (weight_in edges s)
      covered-growth i k c =
          let covers : Covers (graph_in v edges virtuals) (duals_by_vertex h) (word_at defects i) (near (graph_in v edges virtuals) s) =
          rw (of-defect i k, near-is v e edges virtuals acc.edge-count s l, ← shortest i (near_in edges s) k near-in) c in
          rw (shortest i (near_in edges s) k near-in, shortest i (across_in edges s) k across-in)
          (rw (
            of-defect i k,
            near-is v e edges virtuals acc.edge-count s l,
            across-is v e edges virtuals acc.edge-count s l,
            weight_is v e
                edges virtuals acc.edge-count s l,
          )
          at (growth-where-covered (graph_in v edges virtuals) wf (duals_by_vertex h) feasible (word_at defects i) s in-sides covers))

      free-growth : ((i : ℕ) → i < length defects → word_at duals i ≤ given v e edges virtuals defects duals growths distances i (near_in edges s))
          → growth (graph_in v edges virtuals) (duals_by_vertex h) s ≡ 0
      free-growth none =
          growth-where-free (graph_in v edges virtuals) wf (duals_by_vertex h) feasible s
          (λ a k c.
          let o = owned a (omega arith) in
          let c' : dist (graph_in v edges virtuals) a (near_in edges s) < dual (duals_by_vertex h) a = rw (near-is v e edges virtuals acc.edge-count s l) at c in
          let d : dist (graph_in v edges virtuals) (word_at defects o.place) (near_in edges s) ≡ dist (graph_in v edges virtuals) a (near_in edges s) =
          ap (λ (x : ℕ). dist (graph_in v edges virtuals) x (near_in edges s)) o.vertex in
          absurd (omega (arith, none o.place o.listed, shortest o.place (near_in edges s) o.listed near-in, o.owned-dual, c', d)))

  -- ---- from the facts

  module _ (f : Facts v e edges virtuals defects duals growths distances) where
    nearest : (i : ℕ) → i < length defects → word_at duals i ≤ nearest_virtual (graph_in v edges virtuals) (word_at defects i)
    nearest i k =
        let a = word_at defects i in
        let p = defect-placed i k in
        let n = nearest-virtual-vertex (graph_in v edges virtuals) wf a p ((nearest-virtual-in-reach (graph_in v edges virtuals) wf a p).1 (f.reach a p)) in
        rw (← n.nearest-is) (f.far i n.vertex k (omega (arith, n.placed, size)) n.virtual)

    entry : (s : ℕ) → s < 2 * e → word_at growths s ≡ growth (graph_in v edges virtuals) (duals_by_vertex h) s
    entry s l =
        find-below (λ i. ltb (given v e edges virtuals defects duals growths distances i (near_in edges s)) (word_at duals i)) (length defects)
        (λ i k t.
        let c = ltb-true (given v e edges virtuals defects duals growths distances i (near_in edges s)) (word_at duals i) t in
        f.covered i s k l c ∙ sym (covered-growth f.pairs f.far f.shortest s l i k c))
        (λ none.
        let n : (i : ℕ) → i < length defects → word_at duals i ≤ given v e edges virtuals defects duals growths distances i (near_in edges s) =
        λ i k. ltb-false (given v e edges virtuals defects duals growths distances i (near_in edges s)) (word_at duals i) (none i k) in
        f.free s l n ∙ sym (free-growth f.pairs f.far f.shortest s l n))

    growth-long : length (map to_nat growths) ≡ 2 * e
    growth-long = numbers-long growths ∙ acc.growth-count

    table_is : map to_nat growths ≡ table_from_distances (graph_in v edges virtuals) (duals_by_vertex h)
    table_is =
        ext_get_or 0 (map to_nat growths) (table_from_distances (graph_in v edges virtuals) (duals_by_vertex h))
        (growth-long ∙ sym (sides-are v e edges virtuals acc.edge-count) ∙ sym (length-table_from_distances (graph_in v edges virtuals) (duals_by_vertex h)))
        (λ s l.
        let k : s < 2 * e = rw growth-long at l in
        numbers-at growths s ∙ entry s k
        ∙ sym (at-table_from_distances (graph_in v edges virtuals) (duals_by_vertex h) s (rw (sides-are v e edges virtuals acc.edge-count) k)))

    facts-right : Right h
    facts-right = record {
      positive-weights = f.positive;
      virtual-in-reach = f.reach;
      shortest-distances = λ i u k l. rw (defect-is i) (f.shortest i u (rw counted at k) (rw size at l));
      pairs = λ i j k l q z. rw (defect-is i, defect-is j, dual-is i, dual-is j) (f.pairs i j (rw counted at k) (rw counted at l) q);
      virtuals = λ i k. rw (defect-is i, dual-is i) (nearest i (rw counted at k));
      table = table_is;
    }

  -- ---- to the facts

  module _ (r : Right h) where
    shortest' : (i u : ℕ) → i < length defects → u < v
        → given v e edges virtuals defects duals growths distances i u ≡ dist (graph_in v edges virtuals) (word_at defects i) u
    shortest' i u k l = rw (defect-is i) at (r.shortest-distances i u (rw counted k) (rw size l))

    pairs' : (i j : ℕ) → i < length defects → j < length defects → i ≢ j
        → word_at duals i + word_at duals j ≤ dist (graph_in v edges virtuals) (word_at defects i) (word_at defects j)
    pairs' i j k l q =
        by_cases (dec_lt (dist (graph_in v edges virtuals) (word_at defects i) (word_at defects j)) unreachable)
        (λ z. rw (defect-is i, defect-is j, dual-is i, dual-is j) at (r.pairs i j (rw counted k) (rw counted l) q (rw (defect-is i, defect-is j) z)))
        (λ z. omega (arith, dual-bounded i, dual-bounded j, dual-is i, dual-is j, unreachable-is))

    far' : (i a : ℕ) → i < length defects → a < v → Virtual (graph_in v edges virtuals) a → word_at duals i ≤ dist (graph_in v edges virtuals) (word_at defects i) a
    far' i a k l w =
        let n = nearest-virtual-least (graph_in v edges virtuals) wf (word_at defects i) (defect-placed i k) a (rw size l) w in
        let q : word_at duals i ≤ nearest_virtual (graph_in v edges virtuals) (word_at defects i) = rw (defect-is i, dual-is i) at (r.virtuals i (rw counted k)) in
        omega arith

    entry' : (s : ℕ) → s < 2 * e → word_at growths s ≡ growth (graph_in v edges virtuals) (duals_by_vertex h) s
    entry' s l =
        sym (numbers-at growths s) ∙ ap (λ (t : List ℕ). get_or t s 0) r.table
        ∙ at-table_from_distances (graph_in v edges virtuals) (duals_by_vertex h) s (rw (sides-are v e edges virtuals acc.edge-count) l)

    right-facts : Facts v e edges virtuals defects duals growths distances
    right-facts = record {
      positive = r.positive-weights;
      reach = r.virtual-in-reach;
      shortest = shortest';
      pairs = pairs';
      far = far';
      covered = λ i s k l c. entry' s l ∙ covered-growth pairs' far' shortest' s l i k c;
      free = λ s l none. entry' s l ∙ free-growth pairs' far' shortest' s l none;
    }

  -- ---- the code's tests and the definition

  defects-placed : (i : ℕ) → i < defect_count h → given_defect_at h i < (graph_in v edges virtuals).size
  defects-placed i k = rw (defect-is i) (defect-placed i (rw counted at k))

  pub exactly : (right (handed v edges virtuals defects duals growths distances) ≡ true) ↔ Right (handed v edges virtuals defects duals growths distances)
  unfolding handed
  exactly = (right-holds h wf defects-placed dual-bounded, holds-right h wf defects-placed dual-bounded)

  pub tested-right : tested v e edges virtuals defects duals growths (λ i. distance_in (row_of v distances i)) ≡ right
      (handed v edges virtuals defects duals growths distances)
  unfolding handed
  tested-right =
      test-same (tested v e edges virtuals defects duals growths (λ i. distance_in (row_of v distances i))) (right h)
      (λ t. holds-right h wf defects-placed dual-bounded (facts-right (tested-facts v e edges virtuals defects duals growths distances acc t)))
      (λ t. facts-tested v e edges virtuals defects duals growths distances acc (right-facts (right-holds h wf defects-placed dual-bounded t)))
