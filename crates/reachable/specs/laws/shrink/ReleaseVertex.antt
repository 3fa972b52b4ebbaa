-- While a shrinking pass runs: releasing one vertex keeps the invariant, and so does taking the tops of amount 0 off the stack.
use Rattle.std.specs.Prelude.{ℕ, ◌+◌, ◌≤◌, ◌<◌, ◌≡◌, ◌≢◌, ◌⊎◌, Bool, true, false, ◌||◌, eqb, length}
use Rattle.std.proofs.Common.{arith, sym, subst, ◌∙◌, inl, inr, ⊎_elim}
use Rattle.std.proofs.Math.Decide.{ℕ_discrete as dec_eq}
use Rattle.std.proofs.Math.Path.{refl}
use Rattle.std.proofs.Math.Logic.{by_cases}
use mathlib.Core.List.{List, [], ◌∷◌}
use borrow.Author.Tests.{eqb-true, eqb-false, eq-eqb}
use Rattle.graph.specs.Basic.{fold, member, distinct}
use Rattle.graph.specs.State.{State, Overgrown, opposite, end_at, growth_at, holder_at, vertex_holder_at, defect_at, sides_at, weight_over, dual_of, boundary_of, free_vertex}
use Rattle.graph.specs.laws.State.{kept_trans, kept-free-vertex, opposite-opposite}
use Rattle.graph.specs.inner.Kept.{SameButHolders}
use Rattle.graph.specs.laws.Members.{by-test, clash, or_cases, or_left, or_right, or-neither-left, or-neither-right, member-head, member-tail, member-cons, member-nil, distinct_head, distinct_tail}
use Rattle.pass.specs.Work.{Work, on_state}
use Rattle.pass.specs.Shrink.{empty_tops, below_tops, drop_side, drop_step, closed}
use Rattle.reachable.specs.Cluster.{SideGraph, NodeView, stacked, Global, Chain, more, OutwardEdge, InwardEdge, OvergrownVertex, NodeInvariant}
use Rattle.reachable.specs.laws.invariant.Depth.{chain-le, zero-at-radius}
use Rattle.reachable.specs.laws.invariant.Release.{with_listed, Relisted, Released, released-global, released-node}
use Rattle.reachable.specs.laws.shrink.FreeSides.{vertex-freed, vertex-other, vertex-sides, always, drop-freeing, always-test, SidesFreed, free-sides}
use Rattle.reachable.specs.Invariant.{Labels, side_graph_of, node_view_of}
use Rattle.reachable.specs.laws.state.GraphOk.{GraphOk}
use Rattle.reachable.specs.laws.state.Views.{view_during}

-- in the stack without its tops of amount 0 every depth is below the radius
pub below-radius : (depth : ℕ → ℕ) (st : List Overgrown) {y : ℕ} → Chain depth y st → (u : ℕ) → member u (stacked (below_tops st)) ≡ true → depth u < y
unfolding below_tops
below-radius depth [] c u m = member-nil u m
below-radius depth (o ∷ os) (more {y} e r) u m =
    by-test (eqb o.amount 0)
    (λ a. let z : o.amount ≡ 0 = eqb-true _ _ a in let k : depth u < depth o.vertex = below-radius depth os r u (rw a at m) in omega arith)
    (λ a.
    let z : o.amount ≢ 0 = eqb-false _ _ a in
    member-cons u o.vertex (stacked os) (rw a at m)
    (λ b. rw b (omega arith))
    (λ b. omega (arith, chain-le depth r u b)))

-- the sides that are listed or were; node n with those, and the stack st
abbrev pub listed_during : State → ℕ → Work → ℕ → Bool
listed_during c n w s = member s w.kept || member s (boundary_of c n)

abbrev pub node_view_during : State → ℕ → Labels → Work → List Overgrown → NodeView
node_view_during c n k w st = with_listed (node_view_of c k n) (listed_during c n w) st

module _ (c : State) (n : ℕ) (k : Labels) (graph-ok : GraphOk c.graph) where
  abbrev Q : SideGraph
  Q = side_graph_of c.graph

  -- while the pass runs, with the stack st
  pub record Shrinking (st : List Overgrown) (w : Work) : Type 0 where
    pub keeps : SameButHolders c w.state
    pub global : Global Q (view_during c k w)
    pub node : NodeInvariant Q (view_during c k w) n (node_view_during c n k w st)
    -- a kept side that may be free calls for another pass
    pub zero-calls-another : (s : ℕ) → member s w.kept ≡ true → growth_at c s ≡ 0 → defect_at c (end_at c s) ≡ 0 → w.another ≡ true
    -- only what the node held is freed
    pub sides : (t : ℕ) → (holder_at w.state t ≡ holder_at c t) ⊎ ((holder_at c t ≡ n + 1) × (holder_at w.state t ≡ 0))
    pub vertices : (u : ℕ) → (vertex_holder_at w.state u ≡ vertex_holder_at c u) ⊎ ((vertex_holder_at c u ≡ n + 1) × (vertex_holder_at w.state u ≡ 0))

  -- ---- one vertex is released

  module _ (w : Work) (st st' : List Overgrown) (i : Shrinking st w) (v : ℕ)
      (own : vertex_holder_at w.state v ≡ n + 1) (plain : defect_at c v ≡ 0) (at-radius : k.depth v ≡ k.base n + dual_of c n)
      (p : State → ℕ → Bool) (z : Work) (fr : SidesFreed p (sides_at w.state v) (on_state w (free_vertex w.state v)) z)
      (when : (s : ℕ) → member (opposite s) (sides_at c v) ≡ true
      → p (on_state w (free_vertex w.state v)).state (opposite s) ≡ true
      → Relisted Q (view_during c k w) n v s × (weight_over c s ≤ growth_at c s + growth_at c (opposite s)))
      (then-kept : (s : ℕ) → Relisted Q (view_during c k w) n v s
      → weight_over c s ≤ growth_at c s + growth_at c (opposite s)
      → p (on_state w (free_vertex w.state v)).state (opposite s) ≡ true)
      (stack-old : (u : ℕ) → member u (stacked st') ≡ true → member u (stacked st) ≡ true)
      (stack-kept : (u : ℕ) → u ≢ v → member u (stacked st) ≡ true → member u (stacked st') ≡ true)
      (stack_off : member v (stacked st') ≡ false)
      (stack-chain : Chain k.depth (k.base n + dual_of c n) st')
      (apart : (u : ℕ) → member u (stacked st') ≡ true → (t : ℕ) → t < length c.graph.end → end_at c t ≡ u → end_at c (opposite t) ≢ v) where
    at-v : sides_at w.state v ≡ sides_at c v
    at-v = rw i.keeps.graph

    first-holder : (t : ℕ) → holder_at (on_state w (free_vertex w.state v)).state t ≡ holder_at w.state t
    unfolding on_state
    first-holder t = rw (vertex-sides w.state v)

    first-kept : (on_state w (free_vertex w.state v)).kept ≡ w.kept
    unfolding on_state
    first-kept = refl

    first-another : (on_state w (free_vertex w.state v)).another ≡ w.another
    unfolding on_state
    first-another = refl

    first-keeps : SameButHolders w.state (on_state w (free_vertex w.state v)).state
    unfolding on_state
    first-keeps = kept-free-vertex w.state v

    vertex-now : (u : ℕ) → vertex_holder_at z.state u ≡ vertex_holder_at (free_vertex w.state v) u
    unfolding on_state
    vertex-now u = rw fr.vertices

    side-in : (t : ℕ) → t < length c.graph.end → end_at c t ≡ v → member t (sides_at w.state v) ≡ true
    side-in t b e = rw at-v (graph-ok.at_in v t b e)

    side-out : (t : ℕ) → (t < length c.graph.end → end_at c t ≢ v) → member t (sides_at w.state v) ≡ false
    side-out t f = by-test (member t (sides_at w.state v)) (λ e. let a = graph-ok.at_out v t (rw at-v at e) in absurd (f a.0 a.1)) (λ e. e)

    -- what is kept now and was not
    new-relisted : (s : ℕ) → member s z.kept ≡ true → member s w.kept ≡ false
        → Relisted Q (view_during c k w) n v s × (weight_over c s ≤ growth_at c s + growth_at c (opposite s))
        × (weight_over c s ≡ 0 → z.another ≡ true)
    new-relisted s e f =
        ⊎_elim
        (λ (a : member s (on_state w (free_vertex w.state v)).kept ≡ true). clash (member s w.kept) (rw first-kept at a) f)
        (λ (a : (member (opposite s) (sides_at w.state v) ≡ true)
        × (p (on_state w (free_vertex w.state v)).state (opposite s) ≡ true)
        × (weight_over (on_state w (free_vertex w.state v)).state (opposite s) ≡ 0 → z.another ≡ true)).
        let b = when s (rw at-v at a.0) a.1 in
        (b.0, b.1, λ y. a.2 (rw ((kept_trans i.keeps first-keeps).graph, graph-ok.side-graph.same-weight s) y)))
        (fr.new s e)

    released : Released Q (view_during c k w) n (node_view_during c n k w st) v (holder_at z.state) (vertex_holder_at z.state) (listed_during c n z) st'
    released = record {
      vertex-freed = vertex-now v ∙ vertex-freed w.state v;
      vertex-kept = λ u a. vertex-now u ∙ vertex-other w.state v u a;
      side-freed = λ t b e. fr.freed t (side-in t b e);
      side-kept = λ t f. fr.other t (side-out t f) ∙ first-holder t;
      still = λ s e. or_cases (member s w.kept) (member s (boundary_of c n)) e
          (λ a. or_left (member s z.kept) (member s (boundary_of c n)) (fr.still s (rw first-kept a)))
          (λ a. or_right (member s z.kept) (member s (boundary_of c n)) a);
      relisted = λ s e f.
          or_cases (member s z.kept) (member s (boundary_of c n)) e
          (λ a. (new-relisted s a (or-neither-left (member s w.kept) (member s (boundary_of c n)) f)).0)
          (λ a. clash (member s (boundary_of c n)) a (or-neither-right (member s w.kept) (member s (boundary_of c n)) f));
      all-relisted = λ s b f.
          or_left (member s z.kept) (member s (boundary_of c n))
          (let o : opposite (opposite s) ≡ s = opposite-opposite s in
          rw o
          at
          (fr.all
          (λ t m. side-out (opposite t)
          (λ d e. let a = graph-ok.at_out v t (rw at-v at m) in
          graph-ok.side-graph.differ t a.0 (e ∙ sym a.1)))
          (opposite s) (side-in (opposite s) (graph-ok.side-graph.across s b.inside) b.at) (then-kept s b f)));
      stack-old = stack-old;
      stack-kept = stack-kept;
      stack_off = stack_off;
      stack-chain = stack-chain;
      apart = apart;
    }

    pub vertex-released : Shrinking st' z
    vertex-released = record {
      keeps = kept_trans i.keeps (kept_trans first-keeps fr.keeps);
      global = released-global Q graph-ok.side-graph (view_during c k w) n (node_view_during c n k w st) i.global
          i.node v own plain at-radius (holder_at z.state) (vertex_holder_at z.state)
          (listed_during c n z) st' released;
      node = released-node Q graph-ok.side-graph (view_during c k w) n (node_view_during c n k w st) i.global
          i.node v own plain at-radius (holder_at z.state) (vertex_holder_at z.state)
          (listed_during c n z) st' released;
      zero-calls-another = λ s e g d.
          by-test (member s w.kept)
          (λ a. fr.another (first-another ∙ i.zero-calls-another s a g d))
          (λ a.
          let b = new-relisted s e a in
          let zero : growth_at c (opposite s) ≡ 0 =
          zero-at-radius Q (view_during c k w) n (node_view_during c n k w st) i.global i.node v own plain at-radius
          (opposite s) (graph-ok.side-graph.across s b.0.inside) b.0.at in
          let le : weight_over c s ≤ growth_at c s + growth_at c (opposite s) = b.1 in
          b.2 (omega arith));
      sides = λ t.
          by-test (member t (sides_at w.state v))
          (λ m.
          let a = graph-ok.at_out v t (rw at-v at m) in
          let h : holder_at w.state t ≡ n + 1 = i.node.all-sides v own plain t a.0 a.1 in
          inr (
            ⊎_elim (λ (e : holder_at w.state t ≡ holder_at c t). sym e ∙ h)
                (λ (e : (holder_at c t ≡ n + 1) × (holder_at w.state t ≡ 0)). e.0) (i.sides t),
            fr.freed t m,
          ))
          (λ m.
          let e : holder_at z.state t ≡ holder_at w.state t = fr.other t m ∙ first-holder t in
          ⊎_elim (λ (f : holder_at w.state t ≡ holder_at c t). inl (e ∙ f))
          (λ (f : (holder_at c t ≡ n + 1) × (holder_at w.state t ≡ 0)). inr (f.0, e ∙ f.1)) (i.sides t));
      vertices = λ u.
          by_cases (dec_eq u v)
          (λ a. inr (
            rw a
                (⊎_elim (λ (e : vertex_holder_at w.state v ≡ vertex_holder_at c v). sym e ∙ own)
                (λ (e : (vertex_holder_at c v ≡ n + 1) × (vertex_holder_at w.state v ≡ 0)). e.0) (i.vertices v)),
            rw a (vertex-now v ∙ vertex-freed w.state v),
          ))
          (λ a.
          let e : vertex_holder_at z.state u ≡ vertex_holder_at w.state u = vertex-now u ∙ vertex-other w.state v u a in
          ⊎_elim (λ (f : vertex_holder_at w.state u ≡ vertex_holder_at c u). inl (e ∙ f))
          (λ (f : (vertex_holder_at c u ≡ n + 1) × (vertex_holder_at w.state u ≡ 0)). inr (f.0, e ∙ f.1))
          (i.vertices u));
    }

  -- ---- the tops of amount 0

  drop-one : (w : Work) (v : ℕ) (os : List Overgrown) (a : ℕ) → a ≡ 0
      → Shrinking (record { vertex = v; amount = a } ∷ os) w → distinct (v ∷ stacked os) ≡ true
      → Shrinking os (drop_step n w v)
  unfolding drop_step
  drop-one w v os a zero_a i d =
      let o : Overgrown = record { vertex = v; amount = a } in
      let og : OvergrownVertex Q (view_during c k w) n (node_view_during c n k w (o ∷ os)) v = i.node.overgrown-vertices v (member-head v (stacked os)) in
      let own : vertex_holder_at w.state v ≡ n + 1 = og.own in
      let first : Work = on_state w (free_vertex w.state v) in
      let fr : SidesFreed always (sides_at w.state v) first (fold drop_side first (sides_at w.state v)) =
      rw drop-freeing (free-sides always always-test (sides_at w.state v) first) in
      let chains : (k.depth v + a ≡ k.base n + dual_of c n) × Chain k.depth (k.depth v) os = parts i.node.chain in
      let at-radius : k.depth v ≡ k.base n + dual_of c n = omega (arith, chains.0) in
      rw (own, eq-eqb (n + 1) (n + 1) refl)
      (vertex-released w (o ∷ os) os i v own og.plain at-radius always (fold drop_side first (sides_at w.state v)) fr
      (λ s m e. across s og (graph-ok.at_out v (opposite s) m))
      (λ s b f. unfold always in refl)
      (λ u m. member-tail u v (stacked os) m)
      (λ u ne m. member-cons u v (stacked os) m (λ e. absurd (ne e)) (λ e. e))
      (distinct_head v (stacked os) d)
      (subst (λ (y : ℕ). Chain k.depth y os) at-radius chains.1)
      (λ u m t b e far.
      let cu : OvergrownVertex Q (view_during c k w) n (node_view_during c n k w (o ∷ os)) u = i.node.overgrown-vertices u (member-tail u v (stacked os) m) in
      let r₁ : k.rank (end_at c (opposite t)) < k.rank u = cu.earlier t b e in
      let r₂ : k.rank (end_at c (opposite (opposite t))) < k.rank v = og.earlier (opposite t) (graph-ok.side-graph.across t b) far in
      let r₃ : k.rank (end_at c t) < k.rank v = rw (opposite-opposite t) at r₂ in
      let r₄ : k.rank u < k.rank v = rw e at r₃ in
      let r₅ : k.rank v < k.rank u = rw far at r₁ in
      omega arith))
    where
      parts : {y : ℕ} → Chain k.depth y (record { vertex = v; amount = a } ∷ os) → (k.depth v + a ≡ y) × Chain k.depth (k.depth v) os
      parts (more e r) = (e, r)

      across : (s : ℕ)
          → OvergrownVertex Q (view_during c k w) n (node_view_during c n k w (record { vertex = v; amount = a } ∷ os)) v
          → (opposite s < length c.graph.end) × (end_at c (opposite s) ≡ v)
          → Relisted Q (view_during c k w) n v s × (weight_over c s ≤ growth_at c s + growth_at c (opposite s))
      across s og m =
          let far : holder_at w.state (opposite s) ≡ n + 1 = i.node.all-sides v og.own og.plain (opposite s) m.0 m.1 in
          let oo : opposite (opposite s) ≡ s = opposite-opposite s in
          let inside : s < length c.graph.end = rw oo at (graph-ok.side-graph.across (opposite s) m.0) in
          let same-weight : weight_over c (opposite s) ≡ weight_over c s = graph-ok.side-graph.same-weight s in
          ⊎_elim
          (λ (g : OutwardEdge Q (view_during c k w) n (node_view_during c n k w (record { vertex = v; amount = a } ∷ os)) (opposite s)).
          let full : growth_at c (opposite s) ≡ weight_over c (opposite s) = g.full in
          (record { inside = inside; at = m.1; near = rw oo at g.far; far = far }, omega arith))
          (λ (g : InwardEdge Q (view_during c k w) n (node_view_during c n k w (record { vertex = v; amount = a } ∷ os)) (opposite s)).
          let full : growth_at c s ≡ weight_over c (opposite s) = rw oo at g.full in
          (record { inside = inside; at = m.1; near = rw oo at g.far; far = far }, omega arith))
          (i.node.closed (opposite s) far (og.out (opposite s) m.0 m.1))

  pub drop_all : (st : List Overgrown) (w : Work) → distinct (stacked st) ≡ true → Shrinking st w
      → Shrinking (below_tops st) (fold (drop_step n) w (empty_tops st))
  unfolding below_tops empty_tops fold
  drop_all [] w d i = i
  drop_all (o ∷ os) w d i =
      by-test (eqb o.amount 0)
      (λ e. rw e
      (drop_all os (drop_step n w o.vertex) (distinct_tail o.vertex (stacked os) d)
      (drop-one w o.vertex os o.amount (eqb-true _ _ e) i d)))
      (λ e. rw e i)
