-- What the scan of a prepared node says of distances: in a state without blossoms, with positive weights, whose sides are all prepared.
use Rattle.std.specs.Prelude.{ℕ, ◌+◌, ◌-◌, ◌≤◌, ◌<◌, ◌≡◌, ◌≢◌, ◌⊎◌, true}
use Rattle.std.proofs.Common.{arith, sym, ap, ◌∙◌, inl, inr, ⊎_elim}
use Rattle.std.proofs.Math.Decide.{ℕ_discrete as dec_eq}
use Rattle.std.proofs.Math.Logic.{by_cases}
use Rattle.graph.specs.Basic.{fold, member}
use Rattle.graph.specs.State.{State, defect_vertex, opposite, vertex_count, side_count, node_count, end_at, growth_at, holder_at, vertex_holder_at, virtual_at, class_of, grow_state_of, dual_of, boundary_of, grown_over, weight_over, growing, shrinking, up}
use Rattle.graph.specs.laws.State.{opposite-opposite, and_right}
use Rattle.graph.specs.laws.Members.{all-member}
use Rattle.update_length.specs.Scan.{look_grow, look, open-ended, scan_step}
use Rattle.reachable.specs.laws.prepare.Preparation.{invariant-numbers}
use Rattle.reachable.specs.laws.state.Numbers.{numbers-end}
use Rattle.reachable.specs.laws.WithoutBlossoms.{side-holder, border-listed, border-side}
use Rattle.distance.specs.Graph.{WeightedGraph, sides, near, across, weight, Virtual, Walk}
use Rattle.distance.specs.Distance.{unreachable, dist}
use Rattle.distance.proofs.laws.Distance.{unreachable-is, dist-sym, dist-triangle, dist-edge, dist-least, walk-reached}
use Rattle.distance.proofs.laws.Leaving.{Leaving}
use Rattle.opened_graph.specs.laws.Graph.{opposite-inside}
use Rattle.table_theorem.proofs.laws.Depth.{DefectsOnly, holder-below, vertex-inside, depth_is, far-off}
use Rattle.table_theorem.proofs.laws.Feasible.{leaves_at, left-inside, left_near, left_far, room-far, room_apart, leaving, nodes-apart}
use Rattle.length_theorem.proofs.laws.Long.{scan_long, look_long, scan-long, grow-long}
use Rattle.length_theorem.proofs.laws.Met.{Closed, Within}

module _ (g : WeightedGraph) (c : State) (p : DefectsOnly g c) (n x : ℕ) (b : n < node_count c) (at : class_of c n ≡ defect_vertex x) where
  -- ---- the listed sides

  -- a listed side stands at a vertex that the node holds
  listed-inside : (s : ℕ) → member s (boundary_of c n) ≡ true → s < side_count c
  listed-inside s m = p.good.clusters.global.side-below s (λ z. omega (arith, p.good.clusters.boundary-held n b (p.outer n b) s m))

  listed-near : (s : ℕ) → member s (boundary_of c n) ≡ true → vertex_holder_at c (end_at c s) ≡ n + 1
  listed-near s m =
      sym (side-holder c p.good p.outer s (listed-inside s m)) ∙ p.good.clusters.boundary-held n b (p.outer n b) s m

  opposite-below : (s : ℕ) → s < side_count c → opposite s < side_count c
  opposite-below s h = rw p.graph.sides-are (opposite-inside g p.formed s (rw (← p.graph.sides-are) h))

  far-holder : (s : ℕ) → s < side_count c → holder_at c (opposite s) ≡ vertex_holder_at c (end_at c (opposite s))
  far-holder s h = side-holder c p.good p.outer (opposite s) (opposite-below s h)

  -- who holds the far side of a listed one is a node
  pub far-node : (s q : ℕ) → member s (boundary_of c n) ≡ true → holder_at c (opposite s) ≡ q + 1 → q < node_count c
  far-node s q m h = holder-below g c p (end_at c (opposite s)) q (sym (far-holder s (listed-inside s m)) ∙ h)

  far-placed : (s : ℕ) → across g s < g.size
  far-placed s =
      let e : end_at c (opposite s) < vertex_count c = numbers-end c (invariant-numbers p.good) (opposite s) in
      omega (arith, p.graph.size_is, p.graph.across-is s)

  module _ (s : ℕ) (m : member s (boundary_of c n) ≡ true) (other : holder_at c (opposite s) ≢ n + 1) where
    border : (p.good.labels.depth (end_at c s) + growth_at c s ≡ dual_of c n) × (growth_at c s + growth_at c (opposite s) ≤ weight_over c s)
    border = border-side c p.good p.outer n x b at s (listed-inside s m) (listed-near s m) (λ z. other (far-holder s (listed-inside s m) ∙ z))

    -- what it has grown, and the distance of its vertex
    near-grown : dist g x (near g s) + growth_at c s ≡ dual_of c n
    near-grown =
        let e : end_at c s ≡ near g s = p.graph.near-is s in
        let d : dist g x (near g s) ≡ p.good.labels.depth (end_at c s) = ap (dist g x) (sym e) ∙ depth_is g c p n x b at (end_at c s) (listed-near s m) in
        omega (arith, border.0)

  pub boundary-within : Within c n (boundary_of c n)
  boundary-within s m other = (border s m other).1

  -- ---- obstacles

  module _ (s : ℕ) (m : member s (boundary_of c n) ≡ true) where
    -- a peer q across, at vertex z
    module _ (q z : ℕ) (h : holder_at c (opposite s) ≡ q + 1) (ne : q ≢ n) (to : class_of c q ≡ defect_vertex z) where
      in-s : s < side_count c
      in-s = listed-inside s m

      far : vertex_holder_at c (end_at c (opposite s)) ≡ q + 1
      far = sym (far-holder s in-s) ∙ h

      in-q : q < node_count c
      in-q = holder-below g c p (end_at c (opposite s)) q far

      other : holder_at c (opposite s) ≢ n + 1
      other e = ne (omega arith)

      back : vertex_holder_at c (end_at c (opposite (opposite s))) ≢ q + 1
      back = rw (opposite-opposite s) (λ e. ne (omega (arith, listed-near s m)))

      far-grown : dist g z (across g s) + growth_at c (opposite s) ≡ dual_of c q
      far-grown =
          let e : end_at c (opposite s) ≡ across g s = p.graph.across-is s in
          let d : dist g z (across g s) ≡ p.good.labels.depth (end_at c (opposite s)) =
          ap (dist g z) (sym e) ∙ depth_is g c p q z in-q to (end_at c (opposite s)) far in
          omega (arith, (border-side c p.good p.outer q z in-q to (opposite s) (opposite-below s in-s) far back).0)

      -- the walk over the edge is at least as long as the distance
      over : dist g x z ≤ dist g x (near g s) + weight g s + dist g z (across g s)
      over =
          let in_g : s < sides g = rw (← p.graph.sides-are) in-s in
          let in-x = vertex-inside g c p n x b at in
          let in-z = vertex-inside g c p q z in-q to in
          let in-a : across g s < g.size = far-placed s in
          let e₁ = dist-edge g p.formed x in-x s in_g in
          let e₂ = dist-triangle g p.formed x (across g s) z in-x in-a in
          let e₃ = dist-sym g p.formed (across g s) z in-a in-z in
          omega arith

      far_apart : dist g x z < unreachable
      far_apart = omega (arith, over, near-grown s m other, far-grown, small)
        where
          small : dual_of c n + weight g s + dual_of c q < unreachable
          small =
              omega (
                arith,
                unreachable-is,
                ((invariant-numbers p.good).nodes n b).dual,
                ((invariant-numbers p.good).nodes q in-q).dual,
                p.formed.light s (rw (← p.graph.sides-are) in-s),
              )

      reach : dual_of c n + dual_of c q ≤ dist g x z
      reach = nodes-apart g c p n x q z b at in-q to (λ e. ne (sym e)) far_apart

      most : grown_over c s ≡ weight_over c s → dist g x z ≤ dual_of c n + dual_of c q
      most e = omega (arith, over, near-grown s m other, far-grown, p.graph.weight_is s)

      -- nothing is left of the edge
      pub peer-full : grown_over c s ≡ weight_over c s → dual_of c n + dual_of c q ≡ dist g x z
      peer-full e = omega (arith, reach, most e)

      by_one : grow_state_of c q ≡ growing → grown_over c s + 1 ≡ weight_over c s
          → (dual_of c n + dual_of c q ≡ dist g x z) ⊎ ((grow_state_of c q ≡ growing) × (dual_of c n + dual_of c q + 1 ≡ dist g x z))
      by_one u e =
          let le : dist g x z ≤ dual_of c n + dual_of c q + 1 = omega (arith, over, near-grown s m other, far-grown, p.graph.weight_is s) in
          by_cases (dec_eq (dual_of c n + dual_of c q) (dist g x z)) inl (λ ne. inr (u, omega (arith, reach)))

      -- nothing or 1 is left of it
      pub peer-tight : Closed c s q
          → (dual_of c n + dual_of c q ≡ dist g x z) ⊎ ((grow_state_of c q ≡ growing) × (dual_of c n + dual_of c q + 1 ≡ dist g x z))
      peer-tight closed = ⊎_elim (λ e. inl (peer-full e)) (λ e. by_one e.0 e.1) closed

    -- a full edge to a virtual vertex
    pub virtual-tight : holder_at c (opposite s) ≡ 0 → virtual_at c (end_at c (opposite s)) ≢ 0 → grown_over c s ≡ weight_over c s
        → (end_at c (opposite s) < g.size) × Virtual g (end_at c (opposite s)) × (dual_of c n ≡ dist g x (end_at c (opposite s)))
    virtual-tight free marked full =
        let in-s : s < side_count c = listed-inside s m in
        let other : holder_at c (opposite s) ≢ n + 1 = λ e. absurd (omega arith) in
        let e : end_at c (opposite s) ≡ across g s = p.graph.across-is s in
        let none : growth_at c (opposite s) ≡ 0 = p.good.clusters.global.free (opposite s) free in
        let over : dist g x (across g s) ≤ dist g x (near g s) + weight g s =
        dist-edge g p.formed x (vertex-inside g c p n x b at) s (rw (← p.graph.sides-are) in-s) in
        let far : dual_of c n ≤ dist g x (across g s) = rw e at (far-off g c p n x b at (end_at c (opposite s)) (λ q. other (far-holder s in-s ∙ q))) in
        let here : dual_of c n ≡ dist g x (across g s) = omega (arith, near-grown s m other, p.graph.weight_is s) in
        (omega (arith, far-placed s), omega (arith, marked, p.graph.virtual_is (end_at c (opposite s))), here ∙ ap (dist g x) (sym e))

  -- ---- a scan that ends free

  -- the side where a shortest walk leaves what the node holds is listed
  left-listed : (z : ℕ) (w : Leaving g x z (λ u. vertex_holder_at c u ≡ n + 1)) → member w.side (boundary_of c n) ≡ true
  left-listed z w =
      border-listed c p.good p.outer n x b at w.side (left-inside g c p n x b at z w) (left_near g c p n x b at z w) (left_far g c p n x b at z w)

  module _ (none : (q : ℕ) → q < node_count c → grow_state_of c q ≢ shrinking) (l : ℕ) (above : 0 < l)
      (long : scan_long l (fold (scan_step c n up) open-ended (boundary_of c n)) ≡ true) where
    -- there is room for l on the edge where a shortest walk leaves
    left-room : (z : ℕ) (w : Leaving g x z (λ u. vertex_holder_at c u ≡ n + 1))
        → growth_at c w.side + growth_at c (opposite w.side) + l ≤ weight_over c w.side
    left-room z w =
        let s : ℕ = w.side in
        let m : member s (boundary_of c n) ≡ true = left-listed z w in
        let looks : look_long l (look_grow c n s) ≡ true =
        looked s (all-member (λ t. look_long l (look c n up t)) (boundary_of c n) s
        (and_right (scan_long l open-ended) _ (scan-long l c n up open-ended (boundary_of c n) long)) m) in
        grow-long l c n s
        (λ t q k h ne. none q (far-node t q k h)) m above looks
        (λ e. left_far g c p n x b at z w (sym (far-holder s (left-inside g c p n x b at z w)) ∙ e))
      where
        looked : (s : ℕ) → look_long l (look c n up s) ≡ true → look_long l (look_grow c n s) ≡ true
        looked s h = unfold look in h

    -- so growth by l keeps every constraint
    pub keeps-node : (q z k : ℕ) → q ≢ n → q < node_count c → class_of c q ≡ defect_vertex z → Walk g x z k → dual_of c n + l + dual_of c q ≤ k
    keeps-node q z k ne i to walk =
        let ok = p.formed in
        let in-x = vertex-inside g c p n x b at in
        let r = walk-reached g ok x in-x walk in
        let w = leaving g c p n x q z b at i to (λ e. ne (sym e)) r in
        omega (arith, room_apart g c p n x q z b at i to (λ e. ne (sym e)) w l (left-room z w), dist-least g ok x in-x walk)

    pub keeps_virtual : (u k : ℕ) → Virtual g u → Walk g x u k → dual_of c n + l ≤ k
    keeps_virtual u k marked walk =
        let ok = p.formed in
        let in-x = vertex-inside g c p n x b at in
        let free : vertex_holder_at c u ≡ 0 = p.good.clusters.defect-nodes.virtuals u (λ e. absurd (omega (arith, p.graph.virtual_is u))) in
        let w = leaves_at g c p n x b at u (λ e. absurd (omega arith)) (walk-reached g ok x in-x walk) in
        omega (arith, room-far g c p n x b at u w l (left-room u w), dist-least g ok x in-x walk)
