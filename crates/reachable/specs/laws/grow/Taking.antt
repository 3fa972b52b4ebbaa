-- A growing pass over node n, its second loop: what holds while vertices are taken, and that it holds at first. A side at a free
-- vertex counts as free, and a noted side as listed as long as the vertex behind it is free.
use Rattle.std.specs.Prelude.{ℕ, ◌+◌, ◌≡◌, refl, ◌≢◌, ◌⊎◌, Bool, true, false, ◌&&◌, ◌||◌, List, [], if◌then◌else◌}
use Rattle.std.proofs.Common.{arith, sym, ◌∙◌, inl, inr, ⊎_elim, eqb-true, eq-eqb, ne_eqb}
use Rattle.std.proofs.Math.Decide.{ℕ_discrete as dec_eq}
use Rattle.std.proofs.Math.Logic.{by_cases}
use Rattle.std.proofs.Math.Dec.{eqb}
use Rattle.graph.specs.Basic.{member}
use Rattle.graph.specs.State.{State, opposite, end_at, growth_at, holder_at, vertex_holder_at, defect_at, virtual_at, weight_over, dual_of, boundary_of}
use Rattle.graph.specs.laws.State.{and_left, and_right, opposite-opposite}
use Rattle.graph.specs.inner.Kept.{SameButHolders}
use Rattle.graph.specs.laws.Members.{by-test, clash, both, or_cases, or_left, or_right, member-nil}
use Rattle.pass.specs.Work.{Work}
use Rattle.pass.specs.Grow.{grow_scanned}
use Rattle.reachable.specs.Cluster.{View, NodeView, Global, NodeInvariant}
use Rattle.reachable.specs.laws.invariant.Depth.{within-weight-by}
use Rattle.reachable.specs.laws.invariant.Frame.{Frame, frame-node, fewer-node}
use Rattle.reachable.specs.Invariant.{Labels, side_graph_of, view_of, node_view_of, NodeInvariantOf, BoundaryHeld}
use Rattle.reachable.specs.laws.state.GraphOk.{GraphOk}
use Rattle.reachable.specs.laws.grow.Scan.{Noted, Scanning}

module _ (c : State) (n : ℕ) where
  abbrev pub noted : List ℕ
  noted = (grow_scanned c n).noted

  -- a side at a free vertex counts as free
  unfoldable pub counted_holder : Work → ℕ → ℕ
  counted_holder w t = if eqb (vertex_holder_at w.state (end_at c t)) 0 then 0 else holder_at w.state t

  pub counted-free : (w : Work) (t : ℕ) → vertex_holder_at w.state (end_at c t) ≡ 0 → counted_holder w t ≡ 0
  unfolding counted_holder
  counted-free w t e = rw e

  pub counted-held : (w : Work) (t : ℕ) → vertex_holder_at w.state (end_at c t) ≢ 0 → counted_holder w t ≡ holder_at w.state t
  unfolding counted_holder
  counted-held w t e = rw (ne_eqb (vertex_holder_at w.state (end_at c t)) 0 e)

  -- a side is listed: kept, or noted with its vertex behind still free
  unfoldable pub listed_in : Work → ℕ → Bool
  listed_in w s = member s w.kept || (member s noted && eqb (vertex_holder_at w.state (end_at c (opposite s))) 0)

  pub data Listing (w : Work) (s : ℕ) : Type 0 where
    in_kept : member s w.kept ≡ true → Listing w s
    pending : member s noted ≡ true → vertex_holder_at w.state (end_at c (opposite s)) ≡ 0 → Listing w s

  pub listing-of : (w : Work) (s : ℕ) → listed_in w s ≡ true → Listing w s
  unfolding listed_in
  listing-of w s e =
      let p = member s noted in
      let q = eqb (vertex_holder_at w.state (end_at c (opposite s))) 0 in
      or_cases (member s w.kept) (p && q) e (λ a. in_kept a) (λ a. pending (and_left p q a) (eqb-true _ _ (and_right p q a)))

  pub of-listing : (w : Work) (s : ℕ) → Listing w s → listed_in w s ≡ true
  unfolding listed_in
  of-listing w s (in_kept a) = or_left (member s w.kept) (member s noted && eqb (vertex_holder_at w.state (end_at c (opposite s))) 0) a
  of-listing w s (pending a b) =
      or_right (member s w.kept) (member s noted && eqb (vertex_holder_at w.state (end_at c (opposite s))) 0)
      (both (member s noted) (eqb (vertex_holder_at w.state (end_at c (opposite s))) 0) a (eq-eqb _ _ b))

  pub not-listing : (w : Work) (s : ℕ) → (Listing w s → ⊥) → listed_in w s ≡ false
  not-listing w s f = by-test (listed_in w s) (λ e. absurd (f (listing-of w s e))) (λ e. e)

  module _ (k : Labels) where
    abbrev pub seen : Work → Labels → View
    seen w h =
        record {
          holder = counted_holder w;
          vertex_holder = vertex_holder_at w.state;
          growth = growth_at c;
          defect = defect_at c;
          depth = h.depth;
          rank = h.rank;
          owner = h.owner;
          next_rank = h.next_rank;
        }

    abbrev pub node_view_in : Work → NodeView
    node_view_in w = record { listed = listed_in w; stack = w.over; base = k.base n; dual = dual_of c n }

    pub record Growing (w : Work) (r : List ℕ) : Type 0 where
      pub labels : Labels
      pub keeps : SameButHolders c w.state
      pub global : Global (side_graph_of c.graph) (seen w labels)
      pub node : NodeInvariant (side_graph_of c.graph) (seen w labels) n (node_view_in w)
      pub held : (s : ℕ) → listed_in w s ≡ true → counted_holder w s ≡ n + 1
      -- sides that are held at a free vertex stand across noted ones, which are held on both sides
      pub across-noted : (t : ℕ) → holder_at w.state t ≢ 0 → vertex_holder_at w.state (end_at c t) ≡ 0 → member (opposite t) noted ≡ true
      pub both-held : (s : ℕ) → member s noted ≡ true → (holder_at w.state s ≡ n + 1) × (holder_at w.state (opposite s) ≡ n + 1)
      pub apart : (s : ℕ) → member s w.kept ≡ true → member s noted ≡ false
      pub sub : (s : ℕ) → member s r ≡ true → member s noted ≡ true
      pub done : (s : ℕ) → member s noted ≡ true → (member s r ≡ true) ⊎ (vertex_holder_at w.state (end_at c (opposite s)) ≢ 0)
      -- what was held is as it was
      pub sides : (t : ℕ) → (holder_at w.state t ≡ holder_at c t) ⊎ ((holder_at c t ≡ 0) × (holder_at w.state t ≡ n + 1))
      pub vertices : (u : ℕ) → (vertex_holder_at w.state u ≡ vertex_holder_at c u) ⊎ ((vertex_holder_at c u ≡ 0) × (vertex_holder_at w.state u ≡ n + 1))
      -- a kept side behind which something is to be taken calls for another pass
      pub nothing-to-take : (s : ℕ) → member s w.kept ≡ true → holder_at c (opposite s) ≡ 0
          → growth_at c s + growth_at c (opposite s) ≡ weight_over c s → virtual_at c (end_at c (opposite s)) ≡ 0
          → (weight_over c s ≡ 0) × (w.another ≡ true)
      -- no virtual vertex is taken
      pub real : (u : ℕ) → (vertex_holder_at w.state u ≡ vertex_holder_at c u) ⊎ (virtual_at c u ≡ 0)
      pub base : labels.base ≡ k.base
      pub same : (u : ℕ) → vertex_holder_at c u ≢ 0 → (labels.depth u ≡ k.depth u) × (labels.rank u ≡ k.rank u) × (labels.owner u ≡ k.owner u)

    module _ (graph-ok : GraphOk c.graph) (g : Global (side_graph_of c.graph) (view_of c k))
        (i : NodeInvariantOf c k n) (boundary-held : BoundaryHeld c n) (sc : Scanning c n (grow_scanned c n) []) where
      begin-vertex-holder : (u : ℕ) → vertex_holder_at (grow_scanned c n).state u ≡ vertex_holder_at c u
      begin-vertex-holder u = rw sc.vertices

      free-behind : (s : ℕ) → member s noted ≡ true → vertex_holder_at c (end_at c (opposite s)) ≡ 0
      free-behind s m =
          let a : Noted c n (grow_scanned c n) s = sc.noted s m in
          by_cases (dec_eq (vertex_holder_at c (end_at c (opposite s))) 0) (λ e. e)
          (λ e. absurd (g.held-vertex (opposite s) (graph-ok.side-graph.across s (i.within s a.listed)) e a.free))

      begin-holder : (t : ℕ) → counted_holder (grow_scanned c n) t ≡ holder_at c t
      begin-holder t =
          by_cases (dec_eq (vertex_holder_at c (end_at c t)) 0)
          (λ e.
          let z : holder_at c t ≡ 0 = by_cases (dec_eq (holder_at c t) 0) (λ a. a) (λ a. absurd (g.held-side t a e)) in
          counted-free (grow_scanned c n) t (begin-vertex-holder (end_at c t) ∙ e) ∙ sym z)
          (λ e.
          counted-held (grow_scanned c n) t (λ a. e (sym (begin-vertex-holder (end_at c t)) ∙ a))
          ∙ ⊎_elim
          (λ (a : holder_at (grow_scanned c n).state t ≡ holder_at c t). a)
          (λ (a : (holder_at c t ≡ 0) × (member (opposite t) noted ≡ true)).
          let f : vertex_holder_at c (end_at c (opposite (opposite t))) ≡ 0 = free-behind (opposite t) a.1 in
          absurd (e (rw (opposite-opposite t) at f)))
          (sc.holder t))

      begin-frame : Frame (side_graph_of c.graph) (view_of c k) (seen (grow_scanned c n) k) n
      begin-frame = record {
        holder = λ t e. begin-holder t ∙ e;
        holder-back = λ t e. sym (begin-holder t) ∙ e;
        vertex_holder = λ u e. begin-vertex-holder u ∙ e;
        vertex-holder-back = λ u e. sym (begin-vertex-holder u) ∙ e;
        growth = λ t e. refl;
        end = λ t e. record { defect = refl; depth = refl; rank = refl; owner = refl };
        vertex = λ u e. record { defect = refl; depth = refl; rank = refl; owner = refl };
      }

      begin-listed : (s : ℕ) → listed_in (grow_scanned c n) s ≡ true → member s (boundary_of c n) ≡ true
      begin-listed s e = elim (listing-of (grow_scanned c n) s e) [ in_kept a ↦ (sc.kept s a).0 | pending a b ↦ (sc.noted s a).listed ]

      listed-begin : (s : ℕ) → member s (boundary_of c n) ≡ true → listed_in (grow_scanned c n) s ≡ true
      listed-begin s e =
          ⊎_elim
          (λ (a : member s [] ≡ true). member-nil s a)
          (λ (a : (member s (grow_scanned c n).kept ≡ true) ⊎ (member s noted ≡ true)).
          ⊎_elim
          (λ (b : member s (grow_scanned c n).kept ≡ true). of-listing (grow_scanned c n) s (in_kept b))
          (λ (b : member s noted ≡ true). of-listing (grow_scanned c n) s (pending b (begin-vertex-holder (end_at c (opposite s)) ∙ free-behind s b)))
          a)
          (sc.kept-or-noted s e)

      pub begin : Growing (grow_scanned c n) noted
      begin = record {
        labels = k;
        keeps = sc.keeps;
        global = record {
          side-below = λ t e. g.side-below t (λ a. e (begin-holder t ∙ a));
          held-side = λ t e a. g.held-side t (λ b. e (begin-holder t ∙ b)) (sym (begin-vertex-holder (end_at c t)) ∙ a);
          held-vertex = λ t b e a. g.held-vertex t b (λ d. e (begin-vertex-holder (end_at c t) ∙ d)) (sym (begin-holder t) ∙ a);
          free = λ t e. g.free t (sym (begin-holder t) ∙ e);
          defects = λ u e a. g.defects u e (sym (begin-vertex-holder u) ∙ a);
          ranks = g.ranks;
          within-weight = λ t b. within-weight-by (g.within-weight t b) (begin-holder t) (begin-holder (opposite t));
          differ = g.differ;
        };
        node = fewer-node (side_graph_of c.graph) (seen (grow_scanned c n) k) n (node_view_of c k n) (node_view_in (grow_scanned c n))
            (frame-node (side_graph_of c.graph) (view_of c k) (seen (grow_scanned c n) k) n
            (node_view_of c k n) begin-frame i boundary-held)
            sc.over refl refl begin-listed
            (λ s e f. clash (listed_in (grow_scanned c n) s) (listed-begin s e) f);
        held = λ s e. begin-holder s ∙ boundary-held s (begin-listed s e);
        across-noted = λ t e v.
            ⊎_elim
            (λ (a : holder_at (grow_scanned c n).state t ≡ holder_at c t). absurd (g.held-side t (λ b. e (a ∙ b)) (sym (begin-vertex-holder (end_at c t)) ∙ v)))
            (λ (a : (holder_at c t ≡ 0) × (member (opposite t) noted ≡ true)). a.1)
            (sc.holder t);
        both-held = λ s m.
            let a : Noted c n (grow_scanned c n) s = sc.noted s m in
            let h : holder_at c s ≡ n + 1 = boundary-held s a.listed in (
              ⊎_elim (λ (b : holder_at (grow_scanned c n).state s ≡ holder_at c s). b ∙ h)
                  (λ (b : (holder_at c s ≡ 0) × (member (opposite s) noted ≡ true)). absurd (omega (arith, b.0)))
                  (sc.holder s),
              a.held,
            );
        apart = λ s m. (sc.kept s m).1;
        sub = λ s m. m;
        done = λ s m. inl m;
        sides = λ t.
            ⊎_elim
            (λ (a : holder_at (grow_scanned c n).state t ≡ holder_at c t). inl a)
            (λ (a : (holder_at c t ≡ 0) × (member (opposite t) noted ≡ true)). inr (a.0, rw (opposite-opposite t) at (sc.noted (opposite t) a.1).held))
            (sc.holder t);
        vertices = λ u. inl (begin-vertex-holder u);
        nothing-to-take = λ s m e f v. absurd ((sc.kept s m).3 e f v);
        real = λ u. inl (begin-vertex-holder u);
        base = refl;
        same = λ u e. (refl, refl, refl);
      }
