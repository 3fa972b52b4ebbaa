-- A growing pass over node n: one noted vertex is taken, and the invariant stays.
use Rattle.std.specs.Prelude.{ℕ, suc, ◌+◌, ◌<◌, ◌≡◌, ◌≢◌, ◌⊎◌, true, false, eqb}
use Rattle.std.proofs.Common.{arith, sym, subst, ◌∙◌}
use Rattle.std.proofs.Math.Decide.{ℕ_discrete as dec_eq}
use Rattle.std.proofs.Math.Path.{refl, ap}
use Rattle.std.proofs.Math.Logic.{inl, inr, ⊎_elim, by_cases}
use mathlib.Core.List.{List, [], ◌∷◌}
use Rattle.std.proofs.Math.ListN.{length}
use borrow.Author.Tests.{eqb-true, eqb-false, eq-eqb, ne_eqb}
use Rattle.graph.specs.Basic.{fold, member}
use Rattle.graph.specs.State.{State, Overgrown, opposite, end_at, growth_at, holder_at, grandson_at, vertex_holder_at, virtual_at, sides_at, weight_over, dual_of, held_vertex}
use Rattle.graph.specs.laws.State.{if-cases, kept_trans, kept-held-vertex, opposite-opposite}
use Rattle.graph.specs.inner.Kept.{SameButHolders}
use Rattle.graph.specs.laws.Members.{by-test, clash, member-head, member-tail, member-cons}
use Rattle.pass.specs.Work.{Work, on_state, push}
use Rattle.pass.specs.Grow.{take_side, take_vertex, take_step, grow_scanned}
use Rattle.reachable.specs.Cluster.{SideGraph, Global, NodeInvariant}
use Rattle.reachable.specs.laws.invariant.TakenVertex.{update, update_other, NewStack, pushed, same-stack, TakenVertex}
use Rattle.reachable.specs.laws.invariant.Take.{taken-global, taken-node, taken-listed-held}
use Rattle.pass.proofs.laws.Fits.{vertex-held}
use Rattle.reachable.specs.laws.grow.TakeSides.{vertex-other, vertex-sides, none_free, some-free, SidesTaken, take-sides}
use Rattle.reachable.specs.Invariant.{Labels, side_graph_of, view_of, NodeInvariantOf, BoundaryHeld}
use Rattle.reachable.specs.laws.state.GraphOk.{GraphOk}
use Rattle.reachable.specs.laws.grow.Scan.{Scanning}
use Rattle.reachable.specs.laws.grow.Taking.{noted, counted_holder, counted-free, counted-held, listed_in, Listing, in_kept, pending, listing-of, of-listing, not-listing, seen, node_view_in, Growing}

module _ (c : State) (n : ℕ) (k : Labels) (graph-ok : GraphOk c.graph) (g : Global (side_graph_of c.graph) (view_of c k)) (i : NodeInvariantOf c k n) (boundary-held : BoundaryHeld c n)
    (sc : Scanning c n (grow_scanned c n) []) (holders : length c.sides.holder ≡ length c.graph.end) (vertex-holders : (t : ℕ) → end_at c t < length c.vertices.vertex_holder) where
  abbrev Q : SideGraph
  Q = side_graph_of c.graph

  -- ---- one vertex is taken

  module _ (w : Work) (s : ℕ) (r : List ℕ) (j : Growing c n k w (s ∷ r)) (free : vertex_holder_at w.state (end_at c (opposite s)) ≡ 0) (d : ℕ) where
    vertex_taken : Work
    vertex_taken = on_state w (held_vertex w.state (end_at c (opposite s)) n d)

    sides_done : Work
    sides_done = fold (take_side n d) (on_state w (held_vertex w.state (end_at c (opposite s)) n d)) (sides_at w.state (end_at c (opposite s)))

    at-v : sides_at w.state (end_at c (opposite s)) ≡ sides_at c (end_at c (opposite s))
    at-v = rw j.keeps.graph

    vertex-keeps : SameButHolders w.state vertex_taken.state
    unfolding vertex_taken on_state
    vertex-keeps = kept-held-vertex w.state (end_at c (opposite s)) n d

    vertex-holder : (t : ℕ) → holder_at vertex_taken.state t ≡ holder_at w.state t
    unfolding vertex_taken on_state
    vertex-holder t = rw (vertex-sides w.state (end_at c (opposite s)) n d)

    vertex-kept : vertex_taken.kept ≡ w.kept
    unfolding vertex_taken on_state
    vertex-kept = refl

    vertex-over : vertex_taken.over ≡ w.over
    unfolding vertex_taken on_state
    vertex-over = refl

    vertex-vertices : (u : ℕ) → vertex_holder_at vertex_taken.state u ≡ vertex_holder_at (held_vertex w.state (end_at c (opposite s)) n d) u
    unfolding vertex_taken on_state
    vertex-vertices u = refl

    sides-taken : SidesTaken n (sides_at w.state (end_at c (opposite s))) vertex_taken sides_done
    unfolding vertex_taken sides_done
    sides-taken = take-sides n d (sides_at w.state (end_at c (opposite s))) vertex_taken
        (λ t m. rw (vertex-keeps.holder, j.keeps.holder, holders) (graph-ok.at_out (end_at c (opposite s)) t (rw at-v at m)).0)

    listed-first : member s (noted c n) ≡ true
    listed-first = j.sub s (member-head s r)

    side-in : (t : ℕ) → t < length c.graph.end → end_at c t ≡ end_at c (opposite s) → member t (sides_at w.state (end_at c (opposite s))) ≡ true
    side-in t b e = rw at-v (graph-ok.at_in (end_at c (opposite s)) t b e)

    side-out : (t : ℕ) → (t < length c.graph.end → end_at c t ≢ end_at c (opposite s)) → member t (sides_at w.state (end_at c (opposite s))) ≡ false
    side-out t f = by-test (member t (sides_at w.state (end_at c (opposite s)))) (λ e. let a = graph-ok.at_out (end_at c (opposite s)) t (rw at-v at e) in absurd (f a.0 a.1)) (λ e. e)

    -- a listed side does not stand at v
    off_list : (t : ℕ) → end_at c t ≡ end_at c (opposite s) → Listing c n w t → ⊥
    off_list t e l =
        let a : counted_holder c n w t ≡ n + 1 = j.held t (of-listing c n w t l) in
        let b : counted_holder c n w t ≡ 0 = counted-free c n w t (rw e free) in
        omega arith

    vertex-another : vertex_taken.another ≡ w.another
    unfolding vertex_taken on_state
    vertex-another = refl

    module _ (z : Work) (state : z.state ≡ sides_done.state) (kept : z.kept ≡ sides_done.kept) (again : z.another ≡ sides_done.another) where
      v-taken : vertex_holder_at z.state (end_at c (opposite s)) ≡ n + 1
      v-taken = rw (state, sides-taken.vertices) (vertex-vertices (end_at c (opposite s)) ∙ vertex-held w.state (end_at c (opposite s)) n d (rw j.keeps.vertex_holder (vertex-holders (opposite s))))

      v-other : (u : ℕ) → u ≢ end_at c (opposite s) → vertex_holder_at z.state u ≡ vertex_holder_at w.state u
      v-other u a = rw (state, sides-taken.vertices) (vertex-vertices u ∙ vertex-other w.state (end_at c (opposite s)) n d u a)

      v-held : (u : ℕ) → vertex_holder_at w.state u ≢ 0 → vertex_holder_at z.state u ≡ vertex_holder_at w.state u
      v-held u e = v-other u (λ a. e (rw a free))

      h-held : (t : ℕ) → holder_at w.state t ≢ 0 → holder_at z.state t ≡ holder_at w.state t
      h-held t e = rw state (sides-taken.held t (λ a. e (sym (vertex-holder t) ∙ a)) ∙ vertex-holder t)

      h-other : (t : ℕ) → (t < length c.graph.end → end_at c t ≢ end_at c (opposite s)) → holder_at z.state t ≡ holder_at w.state t
      h-other t f = rw state (sides-taken.other t (side-out t f) ∙ vertex-holder t)

      h-taken : (t : ℕ) → t < length c.graph.end → end_at c t ≡ end_at c (opposite s) → holder_at w.state t ≡ 0 → holder_at z.state t ≡ n + 1
      h-taken t b e f = rw state (sides-taken.occupied t (side-in t b e) (vertex-holder t ∙ f))

      kept-still : (t : ℕ) → member t w.kept ≡ true → member t z.kept ≡ true
      kept-still t m = rw kept (sides-taken.still t (rw vertex-kept m))

      kept_new : (t : ℕ) → member t z.kept ≡ true → (member t w.kept ≡ true) ⊎ ((t < length c.graph.end) × (end_at c t ≡ end_at c (opposite s)) × (holder_at w.state t ≡ 0) × (weight_over c t ≡ 0 → z.another ≡ true))
      kept_new t m =
          ⊎_elim
          (λ (a : member t vertex_taken.kept ≡ true). inl (rw vertex-kept at a))
          (λ (a : (member t (sides_at w.state (end_at c (opposite s))) ≡ true) × (holder_at vertex_taken.state t ≡ 0) × (weight_over vertex_taken.state t ≡ 0 → sides_done.another ≡ true)).
          let b = graph-ok.at_out (end_at c (opposite s)) t (rw at-v at a.0) in
          inr (b.0, b.1, sym (vertex-holder t) ∙ a.1, λ q. again ∙ a.2 (rw (vertex-keeps.graph, j.keeps.graph) q)))
          (sides-taken.new t (rw kept at m))

      kept-all : (t : ℕ) → t < length c.graph.end → end_at c t ≡ end_at c (opposite s) → holder_at w.state t ≡ 0 → member t z.kept ≡ true
      kept-all t b e f = rw kept (sides-taken.all t (side-in t b e) (vertex-holder t ∙ f))

      -- no kept side is noted
      apart-now : (t : ℕ) → member t z.kept ≡ true → member t (noted c n) ≡ false
      apart-now t m =
          ⊎_elim
          (λ (a : member t w.kept ≡ true). j.apart t a)
          (λ (a : (t < length c.graph.end) × (end_at c t ≡ end_at c (opposite s)) × (holder_at w.state t ≡ 0) × (weight_over c t ≡ 0 → z.another ≡ true)).
          by-test (member t (noted c n)) (λ b. absurd (omega (arith, (j.both-held t b).0, a.2))) (λ b. b))
          (kept_new t m)

      -- a side at v that is held already stands across a noted one
      across-noted : (t : ℕ) → end_at c t ≡ end_at c (opposite s) → holder_at w.state t ≢ 0 → member (opposite t) (noted c n) ≡ true
      across-noted t e f = j.across-noted t f (rw e free)

      side-now : (t : ℕ) → t < length c.graph.end → end_at c t ≡ end_at c (opposite s) → holder_at z.state t ≡ n + 1
      side-now t b e =
          by_cases (dec_eq (holder_at w.state t) 0)
          (λ a. h-taken t b e a)
          (λ a. h-held t a ∙ (rw (opposite-opposite t) at (j.both-held (opposite t) (across-noted t e a)).1))

      -- an edge that is full, seen from its other side
      full-turned : (t : ℕ) → growth_at c t + growth_at c (opposite t) ≡ weight_over c t → growth_at c (opposite t) + growth_at c t ≡ weight_over c (opposite t)
      full-turned t e = omega (arith, graph-ok.side-graph.same-weight t)

      -- a side at v is listed now only if it was free
      listed_at : (t : ℕ) → t < length c.graph.end → end_at c t ≡ end_at c (opposite s) → Listing c n z t → holder_at w.state t ≡ 0
      listed_at t b e l =
          elim l [
            | in_kept a ↦ ⊎_elim (λ (m : member t w.kept ≡ true). absurd (off_list t e (in_kept m)))
                (λ (m : (t < length c.graph.end) × (end_at c t ≡ end_at c (opposite s)) × (holder_at w.state t ≡ 0)
                × (weight_over c t ≡ 0 → z.another ≡ true)).
                m.2)
                (kept_new t a)
            | pending a f ↦ absurd (off_list t e (pending a (sym (v-other (end_at c (opposite t)) (λ q. graph-ok.side-graph.differ t b (q ∙ sym e))) ∙ f)))
          ]

      module _ (new-stack : NewStack (side_graph_of c.graph) (end_at c (opposite s)) (listed_in c n z) w.over z.over) where
        taken-vertex : TakenVertex Q (seen c n k w j.labels) n (node_view_in c n k w) (end_at c (opposite s)) (counted_holder c n z) (vertex_holder_at z.state) (listed_in c n z) z.over
        taken-vertex = record {
          vertex-taken = v-taken;
          vertex-kept = v-other;
          side-taken = λ t b e. counted-held c n z t (rw e (λ a. omega (arith, v-taken))) ∙ side-now t b e;
          side-kept = λ t f.
              by_cases (dec_eq (end_at c t) (end_at c (opposite s)))
              (λ e.
              -- past the last side
              let out : holder_at w.state t ≡ 0 =
              by_cases (dec_eq (holder_at w.state t) 0) (λ a. a)
              (λ a.
              let b : opposite (opposite t) < length c.graph.end = graph-ok.side-graph.across (opposite t) (i.within (opposite t) (sc.noted (opposite t) (across-noted t e a)).listed) in
              absurd (f (rw (opposite-opposite t) at b) e)) in
              counted-held c n z t (rw e (λ a. omega (arith, v-taken))) ∙ h-other t f ∙ out ∙ sym (counted-free c n w t (rw e free)))
              (λ e.
              let same : vertex_holder_at z.state (end_at c t) ≡ vertex_holder_at w.state (end_at c t) = v-other (end_at c t) e in
              by_cases (dec_eq (vertex_holder_at w.state (end_at c t)) 0)
              (λ a. counted-free c n z t (same ∙ a) ∙ sym (counted-free c n w t a))
              (λ a. counted-held c n z t (λ b. a (sym same ∙ b)) ∙ h-other t f ∙ sym (counted-held c n w t a)));
          filled = λ t e f.
              elim (listing-of c n w t e) [
                | in_kept a ↦ clash (listed_in c n z t) (of-listing c n z t (in_kept (kept-still t a))) f
                | pending a b ↦
                    let at : end_at c (opposite t) ≡ end_at c (opposite s) =
                    by_cases (dec_eq (end_at c (opposite t)) (end_at c (opposite s))) (λ q. q)
                    (λ q. clash (listed_in c n z t) (of-listing c n z t (pending a (v-other (end_at c (opposite t)) q ∙ b))) f) in
                    record {
                      at = at;
                      full = (sc.noted t a).full;
                      across = not-listing c n z (opposite t) (λ l.
                          let inside : opposite t < length c.graph.end = graph-ok.side-graph.across t (i.within t (sc.noted t a).listed) in
                          omega (arith, listed_at (opposite t) inside at l, (j.both-held t a).1));
                    }
              ];
          fresh = λ t e f.
              elim (listing-of c n z t e) [
                | in_kept a ↦
                    ⊎_elim
                    (λ (m : member t w.kept ≡ true). clash (listed_in c n w t) (of-listing c n w t (in_kept m)) f)
                    (λ (m : (t < length c.graph.end) × (end_at c t ≡ end_at c (opposite s)) × (holder_at w.state t ≡ 0) × (weight_over c t ≡ 0 → z.another ≡ true)). (m.0, m.1))
                    (kept_new t a)
                | pending a b ↦
                    let off : end_at c (opposite t) ≢ end_at c (opposite s) = λ q. let y : vertex_holder_at z.state (end_at c (opposite s)) ≡ 0 = rw q at b in omega (arith, v-taken) in
                    clash (listed_in c n w t) (of-listing c n w t (pending a (sym (v-other (end_at c (opposite t)) off) ∙ b))) f
              ];
          rest = λ t b e f.
              let h : holder_at w.state t ≢ 0 = λ a. clash (listed_in c n z t) (of-listing c n z t (in_kept (kept-all t b e a))) f in
              let m : member (opposite t) (noted c n) ≡ true = across-noted t e h in
              let oo : opposite (opposite t) ≡ t = opposite-opposite t in (
                of-listing c n w (opposite t) (pending m (rw (oo, e) free)),
                not-listing c n z (opposite t) (λ l.
                    elim l [
                      | in_kept a ↦ clash (member (opposite t) (noted c n)) m (apart-now (opposite t) a)
                      | pending a q ↦ let y : vertex_holder_at z.state (end_at c (opposite s)) ≡ 0 = rw (oo, e) at q in omega (arith, v-taken)
                    ]),
              );
          open-edge = λ t b e a l w₀ full.
              let h : holder_at w.state t ≡ 0 = listed_at t b e (listing-of c n z t a) in
              let oo : opposite (opposite t) ≡ t = opposite-opposite t in
              elim (listing-of c n w (opposite t) l) [
                | in_kept m ↦
                    let h₀ : holder_at c t ≡ 0 = ⊎_elim (λ (y : holder_at w.state t ≡ holder_at c t). sym y ∙ h) (λ (y : (holder_at c t ≡ 0) × (holder_at w.state t ≡ n + 1)). y.0) (j.sides t) in
                    let f₁ : growth_at c (opposite t) + growth_at c (opposite (opposite t)) ≡ weight_over c (opposite t) = rw oo (full-turned t full) in
                    let real : virtual_at c (end_at c (opposite (opposite t))) ≡ 0 = rw (oo, e) (sc.noted s listed-first).real in
                    let q : weight_over c (opposite t) ≡ 0 = (j.nothing-to-take (opposite t) m (rw oo h₀) f₁ real).0 in
                    w₀ (sym (graph-ok.side-graph.same-weight t) ∙ q)
                | pending m y ↦ let k₁ : holder_at w.state (opposite (opposite t)) ≡ n + 1 = (j.both-held (opposite t) m).1 in let k₂ : holder_at w.state t ≡ n + 1 = rw oo at k₁ in omega arith
              ];
          through = opposite s;
          through-in = graph-ok.side-graph.across s (i.within s (sc.noted s listed-first).listed);
          through-at = refl;
          through-out = not-listing c n z (opposite s) (λ l.
              omega (arith, listed_at (opposite s) (graph-ok.side-graph.across s (i.within s (sc.noted s listed-first).listed)) refl l, (j.both-held s listed-first).1));
          stack = new-stack;
        }

        labels-now : Labels
        labels-now =
            record {
              depth = update j.labels.depth (end_at c (opposite s)) (k.base n + dual_of c n);
              rank = update j.labels.rank (end_at c (opposite s)) j.labels.next_rank;
              owner = update j.labels.owner (end_at c (opposite s)) n;
              next_rank = suc j.labels.next_rank;
              base = j.labels.base;
            }

        take-global : Global Q (seen c n k z labels-now)
        unfolding labels-now
        take-global =
            taken-global Q graph-ok.side-graph (seen c n k w j.labels) n (node_view_in c n k w) j.global j.node j.held
            (end_at c (opposite s)) free (counted_holder c n z) (vertex_holder_at z.state) (listed_in c n z) z.over taken-vertex

        take-node : NodeInvariant Q (seen c n k z labels-now) n (node_view_in c n k z)
        unfolding labels-now
        take-node =
            taken-node Q graph-ok.side-graph (seen c n k w j.labels) n (node_view_in c n k w) j.global j.node j.held
            (end_at c (opposite s)) free (counted_holder c n z) (vertex_holder_at z.state) (listed_in c n z) z.over taken-vertex

        take-listed-held : (t : ℕ) → listed_in c n z t ≡ true → counted_holder c n z t ≡ n + 1
        take-listed-held =
            taken-listed-held Q graph-ok.side-graph (seen c n k w j.labels) n (node_view_in c n k w) j.global j.node j.held
            (end_at c (opposite s)) free (counted_holder c n z) (vertex_holder_at z.state) (listed_in c n z) z.over taken-vertex

        take_same : (u : ℕ) → vertex_holder_at c u ≢ 0 → (labels-now.depth u ≡ k.depth u) × (labels-now.rank u ≡ k.rank u) × (labels-now.owner u ≡ k.owner u)
        unfolding labels-now
        take_same u e =
            let b = j.same u e in
            let h : vertex_holder_at w.state u ≢ 0 =
            λ q. ⊎_elim (λ (a : vertex_holder_at w.state u ≡ vertex_holder_at c u). e (sym a ∙ q))
            (λ (a : (vertex_holder_at c u ≡ 0) × (vertex_holder_at w.state u ≡ n + 1)). e a.0) (j.vertices u) in
            let ne : u ≢ end_at c (opposite s) = λ a. h (rw a free) in (
              update_other j.labels.depth (end_at c (opposite s)) (k.base n + dual_of c n) u ne ∙ b.0,
              update_other j.labels.rank (end_at c (opposite s)) j.labels.next_rank u ne ∙ b.1,
              update_other j.labels.owner (end_at c (opposite s)) n u ne ∙ b.2,
            )

        take-base : labels-now.base ≡ k.base
        unfolding labels-now
        take-base = j.base

        taken-growing : Growing c n k z r
        taken-growing = record {
          labels = labels-now;
          keeps = rw state (kept_trans j.keeps (kept_trans vertex-keeps sides-taken.keeps));
          global = take-global;
          node = take-node;
          held = take-listed-held;
          across-noted = λ t e f.
              let off : end_at c t ≢ end_at c (opposite s) = λ q. let y : vertex_holder_at z.state (end_at c (opposite s)) ≡ 0 = rw q at f in omega (arith, v-taken) in
              j.across-noted t (λ a. e (h-other t (λ b. off) ∙ a)) (sym (v-other (end_at c t) off) ∙ f);
          both-held = λ t m.
              let b = j.both-held t m in
              (h-held t (λ a. omega (arith, b.0)) ∙ b.0, h-held (opposite t) (λ a. omega (arith, b.1)) ∙ b.1);
          apart = apart-now;
          sub = λ t m. j.sub t (member-tail t s r m);
          done = λ t m.
              ⊎_elim
              (λ (a : member t (s ∷ r) ≡ true). member-cons t s r a (λ b. inr (rw b (λ q. omega (arith, v-taken)))) (λ b. inl b))
              (λ (a : vertex_holder_at w.state (end_at c (opposite t)) ≢ 0). inr (λ q. a (sym (v-held (end_at c (opposite t)) a) ∙ q)))
              (j.done t m);
          sides = λ t.
              by_cases (dec_eq (holder_at w.state t) 0)
              (λ a.
              ⊎_elim
              (λ (b : holder_at w.state t ≡ holder_at c t).
              by-test (member t (sides_at w.state (end_at c (opposite s))))
              (λ m. let y = graph-ok.at_out (end_at c (opposite s)) t (rw at-v at m) in inr (sym b ∙ a, h-taken t y.0 y.1 a))
              (λ m. inl (rw state (sides-taken.other t m ∙ vertex-holder t ∙ b))))
              (λ (b : (holder_at c t ≡ 0) × (holder_at w.state t ≡ n + 1)). absurd (omega (arith, b.1)))
              (j.sides t))
              (λ a. ⊎_elim (λ (b : holder_at w.state t ≡ holder_at c t). inl (h-held t a ∙ b)) (λ (b : (holder_at c t ≡ 0) × (holder_at w.state t ≡ n + 1)). inr (b.0, h-held t a ∙ b.1)) (j.sides t));
          vertices = λ u.
              by_cases (dec_eq u (end_at c (opposite s)))
              (λ a. inr (
                rw a
                    (⊎_elim (λ (b : vertex_holder_at w.state (end_at c (opposite s)) ≡ vertex_holder_at c (end_at c (opposite s))). sym b ∙ free)
                    (λ (b : (vertex_holder_at c (end_at c (opposite s)) ≡ 0) × (vertex_holder_at w.state (end_at c (opposite s)) ≡ n + 1)). b.0)
                    (j.vertices (end_at c (opposite s)))),
                rw a v-taken,
              ))
              (λ a. ⊎_elim (λ (b : vertex_holder_at w.state u ≡ vertex_holder_at c u). inl (v-other u a ∙ b))
              (λ (b : (vertex_holder_at c u ≡ 0) × (vertex_holder_at w.state u ≡ n + 1)). inr (b.0, v-other u a ∙ b.1))
              (j.vertices u));
          real = λ u.
              by_cases (dec_eq u (end_at c (opposite s)))
              (λ a. inr (rw a (sc.noted s listed-first).real))
              (λ a. ⊎_elim (λ (e : vertex_holder_at w.state u ≡ vertex_holder_at c u). inl (v-other u a ∙ e)) (λ (e : virtual_at c u ≡ 0). inr e) (j.real u));
          nothing-to-take = λ t m e f y.
              ⊎_elim
              (λ (a : member t w.kept ≡ true). let b = j.nothing-to-take t a e f y in (b.0, again ∙ sides-taken.another (vertex-another ∙ b.1)))
              (λ (a : (t < length c.graph.end) × (end_at c t ≡ end_at c (opposite s)) × (holder_at w.state t ≡ 0) × (weight_over c t ≡ 0 → z.another ≡ true)).
              let h : holder_at c t ≡ 0 = ⊎_elim (λ (b : holder_at w.state t ≡ holder_at c t). sym b ∙ a.2) (λ (b : (holder_at c t ≡ 0) × (holder_at w.state t ≡ n + 1)). b.0) (j.sides t) in
              let g₁ : growth_at c t ≡ 0 = g.free t h in
              let g₂ : growth_at c (opposite t) ≡ 0 = g.free (opposite t) e in
              let w₀ : weight_over c t ≡ 0 = omega arith in
              (w₀, a.3 w₀))
              (kept_new t m);
          base = take-base;
          same = take_same;
        }

    -- with a free side, and without
    stack-pushed : ((t : ℕ) → member t (sides_at w.state (end_at c (opposite s))) ≡ true → holder_at vertex_taken.state t ≢ 0) → Growing c n k (push sides_done (end_at c (opposite s))) r
    unfolding push
    stack-pushed f =
        taken-growing (push sides_done (end_at c (opposite s))) refl refl refl
        (subst
        (λ (o : List Overgrown). NewStack Q (end_at c (opposite s)) (listed_in c n (push sides_done (end_at c (opposite s)))) w.over
        (record { vertex = end_at c (opposite s); amount = 0 } ∷ o))
        (sym (sides-taken.over ∙ vertex-over))
        (pushed (λ t b e. not-listing c n (push sides_done (end_at c (opposite s))) t (λ l. f t (side-in t b e) (vertex-holder t ∙ listed_at (push sides_done (end_at c (opposite s))) refl refl refl t b e l)))))

    stack-kept : (t : ℕ) → member t (sides_at w.state (end_at c (opposite s))) ≡ true → holder_at vertex_taken.state t ≡ 0 → Growing c n k sides_done r
    stack-kept t m e =
        let a = graph-ok.at_out (end_at c (opposite s)) t (rw at-v at m) in
        taken-growing sides_done refl refl refl
        (subst (NewStack Q (end_at c (opposite s)) (listed_in c n sides_done) w.over) (sym (sides-taken.over ∙ vertex-over))
        (same-stack t a.0 a.1 (of-listing c n sides_done t (in_kept (kept-all sides_done refl refl refl t a.0 a.1 (sym (vertex-holder t) ∙ e))))))

    take-vertex : Growing c n k (take_vertex n d w (end_at c (opposite s))) r
    unfolding take_vertex vertex_taken sides_done
    take-vertex =
        elim sides-taken.met [
          | none_free p f ↦ rw (eq-eqb (length sides_done.kept) (length w.kept) (p ∙ ap (λ (l : List ℕ). length l) vertex-kept)) (stack-pushed f)
          | some-free t m e p ↦ rw (ne_eqb (length sides_done.kept) (length w.kept) (λ q. omega (arith, p, ap (λ (l : List ℕ). length l) vertex-kept))) (stack-kept t m e)
        ]

  pub take_step_lem : (w : Work) (s : ℕ) (r : List ℕ) → Growing c n k w (s ∷ r) → Growing c n k (take_step n w s) r
  unfolding take_step
  take_step_lem w s r j =
      let e : end_at w.state (opposite s) ≡ end_at c (opposite s) = rw j.keeps.graph in
      if-cases (λ (z : Work). Growing c n k z r) (eqb (vertex_holder_at w.state (end_at w.state (opposite s))) 0)
      (λ a.
      let z : vertex_holder_at w.state (end_at w.state (opposite s)) ≡ 0 = eqb-true _ _ a in
      rw e (take-vertex w s r j (rw e at z) (grandson_at w.state s)))
      (λ a.
      let z : vertex_holder_at w.state (end_at w.state (opposite s)) ≢ 0 = eqb-false _ _ a in
      let h : vertex_holder_at w.state (end_at c (opposite s)) ≢ 0 = rw e at z in
      record {
        labels = j.labels;
        keeps = j.keeps;
        global = j.global;
        node = j.node;
        held = j.held;
        across-noted = j.across-noted;
        both-held = j.both-held;
        apart = j.apart;
        sub = λ t m. j.sub t (member-tail t s r m);
        done = λ t m. ⊎_elim (λ (b : member t (s ∷ r) ≡ true). member-cons t s r b (λ q. inr (rw q h)) (λ q. inl q)) (λ (b : vertex_holder_at w.state (end_at c (opposite t)) ≢ 0). inr b) (j.done t m);
        sides = j.sides;
        vertices = j.vertices;
        nothing-to-take = j.nothing-to-take;
        real = j.real;
        base = j.base;
        same = j.same;
      })
