-- Depths and the radius: no held vertex but a defect is deeper than the radius, and where the depth is the radius all growths are 0.
use Rattle.std.specs.Prelude.{ℕ, zero, suc, ◌+◌, ◌≤◌, ◌<◌, ◌≡◌, ◌≢◌, ◌⊎◌, true, List}
use Rattle.std.proofs.Common.{arith, sym, ◌∙◌, inl, inr, ⊎_elim}
use Rattle.graph.specs.Basic.{member}
use Rattle.graph.specs.State.{Overgrown, opposite}
use Rattle.graph.specs.laws.Members.{by-test, member-cons, member-nil, member-head, member-tail}
use Rattle.reachable.specs.Cluster.{NodeView, OutwardEdge, listed-side, radius, outward-edge, overgrown, Chain, View, none, NodeInvariant, Global, SideGraph, stacked, more, InwardEdge}

-- an edge within its weight, or held on both sides by one node: it stays so while its two holders do
pub within-weight-by : {A : Type 0} {h o h' o' : ℕ} → A ⊎ ((h ≢ 0) × (o ≡ h)) → h' ≡ h → o' ≡ o → A ⊎ ((h' ≢ 0) × (o' ≡ h'))
within-weight-by {A} {h} {o} {h'} {o'} d e f = ⊎_elim (λ (a : A). inl a) (λ (a : (h ≢ 0) × (o ≡ h)). inr ((λ z. a.0 (sym e ∙ z)), f ∙ a.1 ∙ sym e)) d

pub chain-le : (depth : ℕ → ℕ) {y : ℕ} {st : List Overgrown} → Chain depth y st → (v : ℕ) → member v (stacked st) ≡ true → depth v ≤ y
chain-le depth none v h = member-nil v h
chain-le depth (more {y} {o} {os} e r) v h =
    member-cons v o.vertex (stacked os) h
    (λ p. rw p (omega arith))
    (λ p. let k : depth v ≤ depth o.vertex = chain-le depth r v p in omega arith)

-- the same depths of the stack's vertices
pub chain_same : (depth depth' : ℕ → ℕ) {y : ℕ} {st : List Overgrown} → Chain depth y st
    → ((v : ℕ) → member v (stacked st) ≡ true → depth' v ≡ depth v) → Chain depth' y st
chain_same depth depth' none h = none
chain_same depth depth' (more {y} {o} {os} e r) h =
    let k : depth' o.vertex ≡ depth o.vertex = h o.vertex (member-head o.vertex (stacked os)) in
    let a : depth' o.vertex + o.amount ≡ y = omega arith in
    let b : Chain depth' (depth' o.vertex) os = rw k (chain_same depth depth' r (λ v p. h v (member-tail v o.vertex (stacked os) p))) in
    more a b

module _ (q : SideGraph) (x : View) (n : ℕ) (l : NodeView) (g : Global q x) (i : NodeInvariant q x n l) where
  -- a held vertex that is no defect is no deeper than the radius
  depth-within-radius-by : (k u : ℕ) → x.next_rank ≤ x.rank u + k → x.vertex_holder u ≡ n + 1 → x.defect u ≡ 0 → x.depth u ≤ radius l
  depth-within-radius-by zero u h v d = absurd (omega (arith, g.ranks u))
  depth-within-radius-by (suc k) u h v d =
      elim (i.kind u v d) [
        | overgrown p ↦ chain-le x.depth i.chain u p
        | listed-side t b e p ↦
            let f : x.depth (q.end t) + x.growth t ≡ radius l = i.listed-growth t p (i.all-sides u v d t b e) in
            let f' : x.depth u + x.growth t ≡ radius l = rw e at f in
            omega arith
        | outward-edge t b e p r ↦
            let r' : x.rank (q.end t) < x.rank (q.end (opposite t)) = rw e r in
            ⊎_elim
            (λ (c : OutwardEdge q x n l t).
            let f : x.depth (q.end (opposite t)) ≤ radius l = depth-within-radius-by k (q.end (opposite t)) (omega arith) c.own c.plain in
            let f' : x.depth (q.end (opposite t)) ≡ x.depth u + q.weight t = rw e at c.deeper in
            omega arith)
            (λ (c : InwardEdge q x n l t). absurd (omega (arith, c.later)))
            (i.closed t (i.all-sides u v d t b e) p)
      ]

  pub depth-within-radius : (u : ℕ) → x.vertex_holder u ≡ n + 1 → x.defect u ≡ 0 → x.depth u ≤ radius l
  depth-within-radius u v d = depth-within-radius-by x.next_rank u (omega arith) v d

  -- where the depth is the radius, all sides have growth 0
  pub zero-at-radius : (v : ℕ) → x.vertex_holder v ≡ n + 1 → x.defect v ≡ 0 → x.depth v ≡ radius l → (t : ℕ) → t < q.sides → q.end t ≡ v → x.growth t ≡ 0
  zero-at-radius v h d y t b e =
      let held : x.holder t ≡ n + 1 = i.all-sides v h d t b e in
      by-test (l.listed t)
      (λ p. let f : x.depth v + x.growth t ≡ radius l = rw e at (i.listed-growth t p held) in omega arith)
      (λ p.
      ⊎_elim
      (λ (c : OutwardEdge q x n l t).
      let f : x.depth (q.end (opposite t)) ≤ radius l = depth-within-radius (q.end (opposite t)) c.own c.plain in
      let f' : x.depth (q.end (opposite t)) ≡ x.depth v + q.weight t = rw e at c.deeper in
      omega (arith, c.full))
      (λ (c : InwardEdge q x n l t). c.empty)
      (i.closed t held p))
