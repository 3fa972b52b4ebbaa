-- A contact of two nodes, on a run without blossoms: its full edge stands in the boundary of either.
use Rattle.std.specs.Prelude.{ℕ, ◌+◌, ◌-◌, ◌*◌, ◌<◌, ◌≡◌, refl, ◌≢◌, true, false, List, eqb}
use Rattle.std.proofs.Common.{arith, sym, ap, ◌∙◌, eqb-true}
use Rattle.std.proofs.lemmas.Bool.{eqb-false}
use Rattle.graph.specs.Basic.{member}
use Rattle.graph.specs.State.{State, defect_vertex, opposite, edge_count, side_count, node_count, end_at, holder_at, vertex_holder_at, class_of, dual_of, boundary_of, grown_over, weight_over, weight_at, parent_of}
use Rattle.graph.specs.Open.{Edge}
use Rattle.graph.specs.laws.State.{opposite-even}
use Rattle.graph.specs.laws.Members.{by-test}
use Rattle.calls.specs.Contacts.{Contact, Joins, two-nodes, virtual-right, virtual-left, IsContact, side_node, outermost_of}
use Rattle.contacts.specs.laws.Outermost.{outermost-here}
use Rattle.reachable.specs.laws.WithoutBlossoms.{side-holder, border-listed}
use Rattle.distance.specs.Graph.{WeightedGraph}
use Rattle.distance.specs.Distance.{dist}
use Rattle.opened_graph.specs.OpenedGraph.{opened_graph, PositiveWeights}
use Rattle.table_theorem.specs.Runs.{Run, end}
use Rattle.table_theorem.proofs.laws.Runs.{defects-only}
use Rattle.table_theorem.proofs.laws.Depth.{DefectsOnly, holder-below}
use Rattle.length_theorem.specs.Meaning.{DefectAt, ContactMeans}
use Rattle.length_theorem.proofs.laws.Tight.{peer-full}

-- where no node lies in a blossom a side's node is its holder
side-is : (c : State) (s : ℕ) → ((m : ℕ) → m + 1 ≡ holder_at c s → parent_of c m ≡ 0) → side_node c s ≡ holder_at c s
unfolding side_node
side-is c s outer =
    by-test (eqb (holder_at c s) 0) (λ z. rw z (sym (eqb-true (holder_at c s) 0 z)))
    (λ z.
    let n : holder_at c s - 1 + 1 ≡ holder_at c s = omega (arith, eqb-false (holder_at c s) 0 z) in
    rw z (ap (λ k. k + 1) (sym (outermost-here c (holder_at c s - 1) (outer (holder_at c s - 1) n))) ∙ n))

-- two ends with nodes are two nodes
apart : (c : State) (e p q : ℕ) → Joins c e (p + 1) (q + 1) → side_node c (2 * e) ≡ p + 1 → side_node c (2 * e + 1) ≡ q + 1 → q ≢ p
unfolding side_node
apart c e p q (two-nodes a b d) l r = λ z. d (ap (λ k. k + 1) (sym z))
apart c e p q (virtual-right a f) l r = absurd (let z : 0 ≡ _ = rw f.side at r in omega arith)
apart c e p q (virtual-left b f) l r = absurd (let z : 0 ≡ _ = rw f.side at l in omega arith)

module _ {v : ℕ} {edges : List Edge} {virtuals : List ℕ} (positive : PositiveWeights edges) (r : Run v edges virtuals) where
  abbrev c : State
  c = end r

  abbrev g : WeightedGraph
  g = opened_graph v edges virtuals

  only : DefectsOnly g c
  only = defects-only r positive

  -- who holds a side is a node, and holds its vertex
  held-near : (s m : ℕ) → s < side_count c → holder_at c s ≡ m + 1 → vertex_holder_at c (end_at c s) ≡ m + 1
  held-near s m b h = sym (side-holder c only.good only.outer s b) ∙ h

  held-node : (s m : ℕ) → s < side_count c → holder_at c s ≡ m + 1 → m < node_count c
  held-node s m b h = holder-below g c only (end_at c s) m (held-near s m b h)

  holder-is : (s m : ℕ) → s < side_count c → m + 1 ≡ side_node c s → holder_at c s ≡ m + 1
  holder-is s m b h = sym (side-is c s (λ k e. only.outer k (held-node s k b (sym e)))) ∙ sym h

  module _ (e p q : ℕ) (k : IsContact c (record { edge = e; left = p + 1; right = q + 1 })) where
    over : opposite (2 * e) ≡ 2 * e + 1
    over = opposite-even (2 * e) (omega arith)

    in_left : 2 * e < side_count c
    in_left = omega (arith, k.in_graph, only.good.shape.end)

    in_right : 2 * e + 1 < side_count c
    in_right = omega (arith, k.in_graph, only.good.shape.end)

    near : holder_at c (2 * e) ≡ p + 1
    near = holder-is (2 * e) p in_left k.left-node

    far : holder_at c (2 * e + 1) ≡ q + 1
    far = holder-is (2 * e + 1) q in_right k.right-node

    other : q ≢ p
    other = apart c e p q k.joins (sym k.left-node) (sym k.right-node)

    pub contact-means : ContactMeans r p q
    contact-means =
        let in_p = held-node (2 * e) p in_left near in
        let in-q = held-node (2 * e + 1) q in_right far in
        let x = only.defect p in_p in
        let z = only.defect q in-q in
        let near-vertex = held-near (2 * e) p in_left near in
        let far-vertex = held-near (2 * e + 1) q in_right far in
        let m : member (2 * e) (boundary_of c p) ≡ true =
        border-listed c only.good only.outer p x.vertex in_p x.is (2 * e) in_left near-vertex
        (rw over (λ y. other (omega (arith, y, far-vertex)))) in
        let full : grown_over c (2 * e) ≡ weight_over c (2 * e) = rw over (k.full ∙ ap (weight_at c) (omega arith)) in
        record {
          other = other;
          left-vertex = x.vertex;
          right-vertex = z.vertex;
          left-defect = record { inside = in_p; class = x.is };
          right-defect = record { inside = in-q; class = z.is };
          tight = peer-full g c only p x.vertex in_p x.is (2 * e) m q z.vertex (rw over far) other z.is full;
        }
