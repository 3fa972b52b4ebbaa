-- A round by a length that every active node has left is refused 9 or 12 only. Each node's preparation then changes nothing, and no other node's
-- growth takes what is left: sides are moved by the node that holds them, and a Shrink node across has drawn back before.
use Rattle.std.specs.Prelude.{ℕ, ◌+◌, ◌-◌, ◌/◌, ◌≤◌, ◌<◌, ◌≡◌, ◌≢◌, Bool, ◌&&◌, get_or}
use native.Mathlib.Omega.{arith}
use Rattle.std.proofs.Math.Decide.{ℕ_discrete as dec_eq}
use Rattle.std.proofs.Math.Path.{refl}
use Rattle.std.proofs.Common.{sym, ap, subst, ◌∙◌, ⊎_elim, get_or-set_other}
use Rattle.std.proofs.Math.Logic.{by_cases}
use Rattle.std.proofs.Math.Bool.{true, false}
use mathlib.Core.List.{List, [], ◌∷◌}
use Rattle.std.proofs.Math.Dec.{eqb, ltb}
use borrow.Author.Tests.{eqb-false, ne_eqb, le-ltb, ltb-false}
use Rattle.graph.specs.Basic.{any, member, distinct}
use Rattle.graph.specs.State.{State, Graph, Overgrown, opposite, passable, end_at, side_count, node_count, growth_at, holder_at, grow_state_of, parent_of, dual_of, boundary_of, overgrown_of, grown_over, weight_over, growing, shrinking, up, down}
use Rattle.graph.specs.Node.{moved}
use Rattle.graph.specs.Active.{renewed, active_in}
use Rattle.graph.specs.laws.State.{if-both, opposite-opposite}
use Rattle.graph.specs.laws.Members.{by-test, clash, member-head, member-tail, member-cons, distinct_head, distinct_tail}
use Rattle.graph.specs.laws.Shape.{sound-active}
use Rattle.graph.specs.laws.Active.{active-in, in-active, active-in-once}
use Rattle.pass.specs.Prepare.{prepare_node}
use Rattle.pass.specs.Grow.{reaches}
use Rattle.pass.specs.Shrink.{empty_tops, below_tops}
use Rattle.pass.proofs.laws.Idle.{TopLeft, shrink-idle, grow-idle}
use Rattle.growth.specs.Growth.{top_is, passes_weight, passes_limit, falls_short, grow_check, moved_stack, grow_apply}
use Rattle.growth.proofs.laws.Growth.{apply-in, apply-out}
use Rattle.update_length.specs.laws.Long.{LeftUp}
use Rattle.calls.specs.Calls.{grow_toward}
use Rattle.calls.specs.Round.{Tried, refusal_of, try_all, sound_again, in_turn, moving, moved_all}
use Rattle.calls.proofs.laws.Sounds.{Applied, apply-applied}
use Rattle.calls.proofs.laws.Trial.{begun, try-keeps, again-sound}
use Rattle.reachable.specs.Cluster.{OutwardEdge, InwardEdge}
use Rattle.reachable.specs.Invariant.{Invariant, side_graph_of, view_of, node_view_of}
use Rattle.reachable.specs.laws.prepare.Preparation.{invariant-numbers}
use Rattle.reachable.specs.laws.Active.{renewed-invariant}
use Rattle.reachable.specs.laws.Calls.{grow-toward-invariant}
use Rattle.reachable.specs.laws.state.Live.{invariant-sound}
use Rattle.reachable.specs.laws.TrialSteps.{none_from, toward-idle, refused-stays, next-among, zero-met, nine-met, try-none, not_in}
use Rattle.reachable.specs.laws.Round.{Among, toward-among, Along, toward-along, Free, listed_free, free-along}

-- ---- a length that a node has left

-- m can be taken from node n
pub record LongDown (m : ℕ) (c : State) (n : ℕ) : Type 0 where
  pub dual : m ≤ dual_of c n
  pub top : top_is (λ a. ltb a m) (overgrown_of c n) ≡ false
  pub growth : (s : ℕ) → member s (boundary_of c n) ≡ true → m ≤ growth_at c s

top_left : (m : ℕ) → 0 < m → (st : List Overgrown) → top_is (λ a. ltb a m) st ≡ false → TopLeft st
unfolding top_is empty_tops below_tops
top_left m z [] h = (refl, refl)
top_left m z (o ∷ os) h =
    let le : m ≤ o.amount = ltb-false _ _ h in
    let e : eqb o.amount 0 ≡ false = ne_eqb o.amount 0 (λ q. omega arith) in
    (rw e refl, rw e refl)

up_by : (l y : ℕ) → moved up l y ≡ y + l
unfolding moved
up_by l y = refl

down_by : (l y : ℕ) → moved down l y ≡ y - l
unfolding moved
down_by l y = refl

-- ---- the round, from the renewed state r

module _ (r : State) (g : Invariant r) (m : ℕ) where
  -- node p has not been moved: it is still to come, or is in Stay
  abbrev Waits : List ℕ → List ℕ → ℕ → Type 0
  Waits ms ns p = (grow_state_of r p ≡ shrinking → member p ms ≡ true) × (grow_state_of r p ≡ growing → member p ns ≡ true)

  -- the state d in the middle of a round; the Shrink nodes ms and the Grow nodes ns are still to come
  record Progress (ms ns : List ℕ) (d : State) : Type 0 where
    along : Along r d
    graph : d.graph ≡ r.graph
    holder : d.sides.holder ≡ r.sides.holder
    boundary : d.nodes.boundary ≡ r.nodes.boundary
    still : (t : ℕ) → ((p : ℕ) → holder_at r t ≡ p + 1 → Waits ms ns p) → growth_at d t ≡ growth_at r t
    most : (t p : ℕ) → holder_at r t ≡ p + 1 → grow_state_of r p ≢ shrinking → growth_at d t ≤ growth_at r t + m
    shrunk : (t p : ℕ) → p < node_count r → grow_state_of r p ≡ shrinking → member p ms ≡ false → member t (boundary_of r p) ≡ true → growth_at d t + m ≡ growth_at r t
    duals : (p : ℕ) → Waits ms ns p → (dual_of d p ≡ dual_of r p) × (overgrown_of d p ≡ overgrown_of r p)

  -- of any d in between
  module _ (ms ns : List ℕ) (d : State) (p : Progress ms ns d) (n : ℕ) (f : Free r n) where
    fd : Free d n
    fd = free-along p.along f

    list-eq : (q : ℕ) → boundary_of d q ≡ boundary_of r q
    list-eq q = ap (λ (l : List (List ℕ)). get_or l q []) p.boundary

    once : distinct (boundary_of d n) ≡ true
    once = ((invariant-numbers p.along.invariant).once n fd.inside fd.outer).sides

    holder-eq : (t : ℕ) → holder_at d t ≡ holder_at r t
    holder-eq t = ap (λ (l : List ℕ). get_or l t 0) p.holder

    -- what the node lists it holds
    own : (s : ℕ) → member s (boundary_of d n) ≡ true → holder_at r s ≡ n + 1
    own s i = g.clusters.boundary-held n f.inside f.outer s (rw (list-eq n) at i)

    -- its sides are as they were, if it waits
    own-still : Waits ms ns n → (s : ℕ) → member s (boundary_of d n) ≡ true → growth_at d s ≡ growth_at r s
    own-still w s i = p.still s (λ q e. let k : q ≡ n = let z = own s i in omega arith in rw k w)

    -- growth of node n by m in direction x
    abbrev a : ℕ → State
    a x = grow_apply d n x m

    -- moves no side that another holds
    apart : (x t : ℕ) → holder_at r t ≢ n + 1 → growth_at (a x) t ≡ growth_at d t
    apart x t ne = by-test (member t (boundary_of d n)) (λ i. absurd (ne (own t i))) (λ i. apply-out d n x m t i)

    listed : (x t : ℕ) → member t (boundary_of d n) ≡ true → growth_at (a x) t ≡ moved x m (growth_at d t)
    listed x t i =
        let b : t < side_count d = g' t i in
        apply-in d n x m t once (rw p.along.invariant.shape.growth b) i
      where
        g' : (t : ℕ) → member t (boundary_of d n) ≡ true → t < side_count d
        g' t i = (p.along.invariant.clusters.node n fd.inside fd.outer).within t i

    changes : (x : ℕ) → Applied n (moved x m (dual_of d n)) (moved_stack x m (overgrown_of d n)) d (a x)
    changes x = apply-applied d n x m

    others : (x q : ℕ) → q ≢ n → (dual_of (a x) q ≡ dual_of d q) × (overgrown_of (a x) q ≡ overgrown_of d q)
    others x q ne = (
      ap (λ (l : List ℕ). get_or l q 0) (changes x).dual ∙ get_or-set_other d.nodes.dual n q _ 0 ne,
      ap (λ (l : List (List Overgrown)). get_or l q []) (changes x).overgrown ∙ get_or-set_other d.nodes.overgrown n q _ [] ne,
    )

  -- ---- a Shrink node

  module _ (n : ℕ) (ms ns : List ℕ) (d : State) (p : Progress (n ∷ ms) ns d) (f : Free r n) (x : grow_state_of r n ≡ shrinking) (out : member n ms ≡ false) (z : 0 < m) (w : LongDown m r n) where
    waits-down : Waits (n ∷ ms) ns n
    waits-down = (λ e. member-head n ms, λ e. absurd (omega arith))

    left_down : (s : ℕ) → member s (boundary_of d n) ≡ true → m ≤ growth_at d s
    left_down s i = rw (own-still (n ∷ ms) ns d p n f waits-down s i) (w.growth s (rw (list-eq (n ∷ ms) ns d p n f n) at i))

    idle-down : (prepare_node d n down).state ≡ d
    idle-down =
        shrink-idle d n (rw (p.duals n waits-down).1 (top_left m z (overgrown_of r n) w.top))
        (λ s i e. let k = left_down s i in omega arith) (once (n ∷ ms) ns d p n f)

    check-down : grow_check d n down m ≡ 0
    unfolding grow_check falls_short
    check-down =
        let e₁ : ltb (dual_of d n) m ≡ false = le-ltb (dual_of d n) m (rw (p.duals n waits-down).0 w.dual) in
        let e₂ : top_is (λ y. ltb y m) (overgrown_of d n) ≡ false = rw (p.duals n waits-down).1 w.top in
        let e₃ : any (λ s. ltb (growth_at d s) m) (boundary_of d n) ≡ false = none_from (λ s. ltb (growth_at d s) m) (boundary_of d n) (λ s i. le-ltb (growth_at d s) m (left_down s i)) in
        rw (e₁, e₂, e₃) refl

    step_down : refusal_of (grow_toward d n down m).answer ≡ 0 → Progress ms ns (grow_toward d n down m).state
    step_down ok =
        let e : (grow_toward d n down m).state ≡ grow_apply d n down m = toward-idle d n down m idle-down ok in
        let al : Along r (grow_toward d n down m).state = toward-along r d n down m p.along in
        rw e (record {
          along = rw e at al;
          graph = (apply-applied d n down m).graph ∙ p.graph;
          holder = (apply-applied d n down m).holder ∙ p.holder;
          boundary = (apply-applied d n down m).boundary ∙ p.boundary;
          still = λ t k.
              let ne : holder_at r t ≢ n + 1 = λ q. clash (member n ms) ((k n q).0 x) out in
              apart (n ∷ ms) ns d p n f down t ne ∙ p.still t (λ q h. (λ y. member-tail q n ms ((k q h).0 y), λ y. (k q h).1 y));
          most = λ t q h y.
              let ne : holder_at r t ≢ n + 1 = λ i. let k : q ≡ n = omega arith in y (rw k x) in
              rw (apart (n ∷ ms) ns d p n f down t ne) (p.most t q h y);
          shrunk = λ t q b y k i.
              by_cases (dec_eq q n)
              (λ u.
              let i' : member t (boundary_of d n) ≡ true = rw (list-eq (n ∷ ms) ns d p n f n) (rw u at i) in
              let v : growth_at (grow_apply d n down m) t ≡ growth_at d t - m = listed (n ∷ ms) ns d p n f down t i' ∙ down_by m (growth_at d t) in
              let o : growth_at d t ≡ growth_at r t = own-still (n ∷ ms) ns d p n f waits-down t i' in
              let le : m ≤ growth_at d t = left_down t i' in
              omega arith)
              (λ u.
              let qo : Free r q = listed_free r g shrinking q (λ j. omega arith) (in-active r shrinking q (g.active-all q b (λ j. omega arith)) y) in
              let h : holder_at r t ≡ q + 1 = g.clusters.boundary-held q b qo.outer t i in
              let ne : holder_at r t ≢ n + 1 = λ j. u (omega arith) in
              let kk : member q (n ∷ ms) ≡ false = by-test (member q (n ∷ ms)) (λ j. member-cons q n ms j (λ v. absurd (u v)) (λ v. clash (member q ms) v k)) (λ j. j) in
              rw (apart (n ∷ ms) ns d p n f down t ne) (p.shrunk t q b y kk i));
          duals = λ q k.
              let ne : q ≢ n = λ u. clash (member n ms) (rw u at (k.0 (rw u x))) out in
              let o = others (n ∷ ms) ns d p n f down q ne in
              let v = p.duals q (λ y. member-tail q n ms (k.0 y), k.1) in
              (o.0 ∙ v.0, o.1 ∙ v.1);
        })

  -- ---- a Grow node, once every Shrink node has drawn back

  module _ (n : ℕ) (ns : List ℕ) (d : State) (p : Progress [] (n ∷ ns) d) (f : Free r n) (x : grow_state_of r n ≡ growing) (out : member n ns ≡ false) (z : 0 < m) (w : LeftUp m r n) where
    waits-up : Waits [] (n ∷ ns) n
    waits-up = (λ e. absurd (omega arith), λ e. member-head n ns)

    weight-eq : (s : ℕ) → weight_over d s ≡ weight_over r s
    weight-eq s = ap (λ (q : Graph). get_or q.weight (s / 2) 0) p.graph

    -- a side that another Shrink node holds is listed by it
    listed-across : (s q : ℕ) → holder_at r s ≡ n + 1 → holder_at r (opposite s) ≡ q + 1 → q ≢ n → q < node_count r → parent_of r q ≡ 0 → member (opposite s) (boundary_of r q) ≡ true
    listed-across s q hs ho ne b o =
        by-test (member (opposite s) (boundary_of r q)) (λ i. i)
        (λ i.
        let c = (g.clusters.node q b o).closed (opposite s) ho i in
        ⊎_elim
        (λ (e : OutwardEdge (side_graph_of r.graph) (view_of r g.labels) q (node_view_of r g.labels q) (opposite s)). absurd (ne (far e.far)))
        (λ (e : InwardEdge (side_graph_of r.graph) (view_of r g.labels) q (node_view_of r g.labels q) (opposite s)). absurd (ne (far e.far)))
        c)
      where
        far : holder_at r (opposite (opposite s)) ≡ q + 1 → q ≡ n
        far e = let k : holder_at r s ≡ q + 1 = rw (opposite-opposite s) at e in omega arith

    -- the room that is left at a side whose edge the node does not hold on both sides
    room-up : (s : ℕ) → member s (boundary_of d n) ≡ true → holder_at r (opposite s) ≢ n + 1 → grown_over d s + m ≤ weight_over d s
    room-up s i ne =
        let i' : member s (boundary_of r n) ≡ true = rw (list-eq [] (n ∷ ns) d p n f n) at i in
        let gs : growth_at d s ≡ growth_at r s = own-still [] (n ∷ ns) d p n f waits-up s i in
        let hs : holder_at r s ≡ n + 1 = own [] (n ∷ ns) d p n f s i in
        let we : weight_over d s ≡ weight_over r s = weight-eq s in
        let o : ℕ = opposite s in
        by_cases (dec_eq (holder_at r (opposite s)) 0)
        (λ e.
        let go : growth_at d (opposite s) ≡ growth_at r (opposite s) = p.still (opposite s) (λ q k. absurd (omega arith)) in
        let l : grown_over r s + m ≤ weight_over r s = w.free s i' e in
        omega arith)
        (λ e.
        let q : ℕ = holder_at r (opposite s) - 1 in
        let ho : holder_at r (opposite s) ≡ holder_at r (opposite s) - 1 + 1 = omega arith in
        let qn : holder_at r (opposite s) - 1 ≢ n = λ k. ne (omega arith) in
        across s (holder_at r (opposite s) - 1) i' gs hs we ho qn)
      where
        across : (s q : ℕ) → member s (boundary_of r n) ≡ true → growth_at d s ≡ growth_at r s → holder_at r s ≡ n + 1
            → weight_over d s ≡ weight_over r s → holder_at r (opposite s) ≡ q + 1 → q ≢ n → grown_over d s + m ≤ weight_over d s
        across s q i' gs hs we ho qn =
            by_cases (dec_eq (grow_state_of r q) shrinking)
            (λ y.
            let b' : opposite s < side_count r = g.clusters.global.side-below (opposite s) (λ k. omega arith) in
            let b : q < node_count r = let k = ((invariant-numbers g).sides (opposite s) b').holder in omega arith in
            let qo : Free r q = listed_free r g shrinking q (λ j. omega arith) (in-active r shrinking q (g.active-all q b (λ j. omega arith)) y) in
            let li : member (opposite s) (boundary_of r q) ≡ true = listed-across s q hs ho qn b qo.outer in
            let k : growth_at d (opposite s) + m ≡ growth_at r (opposite s) = p.shrunk (opposite s) q b y (not_in q) li in
            let bs : s < side_count r = g.clusters.global.side-below s (λ j. omega arith) in
            let ww : grown_over r s ≤ weight_over r s =
            ⊎_elim (λ (j : grown_over r s ≤ weight_over r s). j)
            (λ (j : (holder_at r s ≢ 0) × (holder_at r (opposite s) ≡ holder_at r s)). absurd (qn (let u = j.1 in omega arith)))
            (g.clusters.global.within-weight s bs) in
            omega arith)
            (λ y.
            by_cases (dec_eq (grow_state_of r q) growing)
            (λ v.
            let l : grown_over r s + (m + m) ≤ weight_over r s = w.grow s q i' ho qn v in
            let k : growth_at d (opposite s) ≤ growth_at r (opposite s) + m = p.most (opposite s) q ho y in
            omega arith)
            (λ v.
            let l : grown_over r s + m ≤ weight_over r s = w.stay s q i' ho qn y v in
            let go : growth_at d (opposite s) ≡ growth_at r (opposite s) =
            p.still (opposite s)
            (λ q' k. let u : q' ≡ q = omega arith in
            (λ j. absurd (y (sym (ap (grow_state_of r) u) ∙ j)), λ j. absurd (v (sym (ap (grow_state_of r) u) ∙ j)))) in
            omega arith))

    idle-up : (prepare_node d n up).state ≡ d
    unfolding reaches
    idle-up =
        grow-idle d n
        (λ s i.
        by_cases (dec_eq (holder_at d (opposite s)) 0)
        (λ e.
        let ne : holder_at r (opposite s) ≢ n + 1 = λ k. let u = holder-eq [] (n ∷ ns) d p n f (opposite s) in omega arith in
        let l : grown_over d s + m ≤ weight_over d s = room-up s i ne in
        let q : eqb (grown_over d s) (weight_over d s) ≡ false = ne_eqb (grown_over d s) (weight_over d s) (λ k. omega arith) in
        rw q refl)
        (λ e. let q : eqb (holder_at d (opposite s)) 0 ≡ false = ne_eqb (holder_at d (opposite s)) 0 e in rw q (and-false (eqb (grown_over d s) (weight_over d s)) (passable d (end_at d (opposite s))))))
      where
        and-false : (t u : Bool) → (t && false && u) ≡ false
        and-false true u = refl
        and-false false u = refl

    check_up : Among (0 ∷ 9 ∷ 12 ∷ []) (grow_check d n up m)
    unfolding grow_check passes_weight member
    check_up =
        let e : any (passes_weight d n m) (boundary_of d n) ≡ false = none_from (passes_weight d n m) (boundary_of d n) (λ s i.
        by-test (eqb (holder_at d (opposite s)) (n + 1))
        (λ k. rw k refl)
        (λ k.
        let ne : holder_at r (opposite s) ≢ n + 1 = λ u. let v = holder-eq [] (n ∷ ns) d p n f (opposite s) in eqb-false _ _ k (v ∙ u) in
        rw (k, le-ltb (weight_over d s) (grown_over d s + m) (room-up s i ne)) refl)) in
        rw e (if-both (Among (0 ∷ 9 ∷ 12 ∷ [])) (passes_limit d n m) (unfold member any in refl) (unfold member any in refl))

    step-up : refusal_of (grow_toward d n up m).answer ≡ 0 → Progress [] ns (grow_toward d n up m).state
    step-up ok =
        let e : (grow_toward d n up m).state ≡ grow_apply d n up m = toward-idle d n up m idle-up ok in
        let al : Along r (grow_toward d n up m).state = toward-along r d n up m p.along in
        rw e (record {
          along = rw e at al;
          graph = (apply-applied d n up m).graph ∙ p.graph;
          holder = (apply-applied d n up m).holder ∙ p.holder;
          boundary = (apply-applied d n up m).boundary ∙ p.boundary;
          still = λ t k.
              let ne : holder_at r t ≢ n + 1 = λ q. clash (member n ns) ((k n q).1 x) out in
              apart [] (n ∷ ns) d p n f up t ne ∙ p.still t (λ q h. ((k q h).0, λ y. member-tail q n ns ((k q h).1 y)));
          most = λ t q h y.
              by-test (member t (boundary_of d n))
              (λ i.
              let v : growth_at (grow_apply d n up m) t ≡ growth_at d t + m = listed [] (n ∷ ns) d p n f up t i ∙ up_by m (growth_at d t) in
              let o : growth_at d t ≡ growth_at r t = own-still [] (n ∷ ns) d p n f waits-up t i in
              omega arith)
              (λ i. rw (apply-out d n up m t i) (p.most t q h y));
          shrunk = λ t q b y k i.
              let qo : Free r q = listed_free r g shrinking q (λ j. omega arith) (in-active r shrinking q (g.active-all q b (λ j. omega arith)) y) in
              let h : holder_at r t ≡ q + 1 = g.clusters.boundary-held q b qo.outer t i in
              let ne : holder_at r t ≢ n + 1 = λ j. let u : q ≡ n = omega arith in let v : grow_state_of r n ≡ shrinking = rw u at y in omega arith in
              rw (apart [] (n ∷ ns) d p n f up t ne) (p.shrunk t q b y k i);
          duals = λ q k.
              let ne : q ≢ n = λ u. clash (member n ns) (rw u at (k.1 (rw u x))) out in
              let o = others [] (n ∷ ns) d p n f up q ne in
              let v = p.duals q (k.0, λ y. member-tail q n ns (k.1 y)) in
              (o.0 ∙ v.0, o.1 ∙ v.1);
        })

  -- ---- all of them

  module _ (z : 0 < m) (downs : (n : ℕ) → member n (active_in r shrinking) ≡ true → LongDown m r n) (ups : (n : ℕ) → member n (active_in r growing) ≡ true → LeftUp m r n) where
    -- the numbers that a round by m meets
    abbrev Met : Tried → Type 0
    Met t = Among (0 ∷ 9 ∷ 12 ∷ []) t.refusal

    grow-all : (ns : List ℕ) (d : State) → Progress [] ns d → distinct ns ≡ true → ((n : ℕ) → member n ns ≡ true → member n (active_in r growing) ≡ true) → Met (try_all (moving up m) (begun d) ns)
    unfolding moving
    grow-all [] d p w k = rw (try-none (moving up m) (begun d)) zero-met
    grow-all (n ∷ ns) d p w k =
        let i : member n (active_in r growing) ≡ true = k n (member-head n ns) in
        let f : Free r n = listed_free r g growing n (λ j. omega arith) i in
        let x : grow_state_of r n ≡ growing = (active-in r growing n i).1 in
        let fd' : Free d n = free-along p.along f in
        let out : member n ns ≡ false = distinct_head n ns w in
        let e : (prepare_node d n up).state ≡ d = idle-up n ns d p f x out z (ups n i) in
        let h : Among (0 ∷ 9 ∷ 12 ∷ []) (refusal_of (grow_toward d n up m).answer) =
        toward-among (0 ∷ 9 ∷ 12 ∷ []) zero-met nine-met d n up m fd' (rw e (check_up n ns d p f x out z (ups n i))) in
        next-among (0 ∷ 9 ∷ 12 ∷ []) (moving up m) d n ns Met
        (λ t ne q. rw q h)
        (λ ok. grow-all ns (grow_toward d n up m).state (step-up n ns d p f x out z (ups n i) ok) (distinct_tail n ns w) (λ q j. k q (member-tail q n ns j)))

    -- the Shrink nodes: refused 9 at most, or all drawn back
    abbrev Drawn : List ℕ → Tried → Type 0
    Drawn ns t = Met t × (t.refusal ≡ 0 → Progress [] ns t.state)

    shrink-all : (ns ms : List ℕ) (d : State) → Progress ms ns d → distinct ms ≡ true → ((n : ℕ) → member n ms ≡ true → member n (active_in r shrinking) ≡ true) → Drawn ns (try_all (moving down m) (begun d) ms)
    unfolding moving
    shrink-all ns [] d p w k = rw (try-none (moving down m) (begun d)) ((zero-met, λ e. p))
    shrink-all ns (n ∷ ms) d p w k =
        let i : member n (active_in r shrinking) ≡ true = k n (member-head n ms) in
        let f : Free r n = listed_free r g shrinking n (λ j. omega arith) i in
        let x : grow_state_of r n ≡ shrinking = (active-in r shrinking n i).1 in
        let fd' : Free d n = free-along p.along f in
        let out : member n ms ≡ false = distinct_head n ms w in
        let e : (prepare_node d n down).state ≡ d = idle-down n ms ns d p f x out z (downs n i) in
        let y : grow_check d n down m ≡ 0 = check-down n ms ns d p f x out z (downs n i) in
        let h : Among (0 ∷ 9 ∷ 12 ∷ []) (refusal_of (grow_toward d n down m).answer) =
        toward-among (0 ∷ 9 ∷ 12 ∷ []) zero-met nine-met d n down m fd' (rw (e, y) zero-met) in
        next-among (0 ∷ 9 ∷ 12 ∷ []) (moving down m) d n ms (Drawn ns)
        (λ t ne q. (rw q h, λ v. absurd (ne v)))
        (λ ok. shrink-all ns ms (grow_toward d n down m).state (step_down n ms ns d p f x out z (downs n i) ok) (distinct_tail n ms w) (λ q j. k q (member-tail q n ms j)))

    begins : Progress (active_in r shrinking) (active_in r growing) r
    begins = record {
      along = record { invariant = g; class = refl; grow_state = refl; parent = refl };
      graph = refl;
      holder = refl;
      boundary = refl;
      still = λ t k. refl;
      most = λ t q h y. omega arith;
      shrunk = λ t q b y k i. clash (member q (active_in r shrinking)) (in-active r shrinking q (g.active-all q b (λ j. omega arith)) y) k;
      duals = λ q k. (refl, refl);
    }

-- ---- the theorem

pub round-relied : (c : State) → Invariant c → (m : ℕ) → 0 < m
    → ((n : ℕ) → member n (active_in (renewed c) shrinking) ≡ true → LongDown m (renewed c) n)
    → ((n : ℕ) → member n (active_in (renewed c) growing) ≡ true → LeftUp m (renewed c) n)
    → Among (0 ∷ 9 ∷ 12 ∷ []) (moved_all m c).refusal
unfolding moved_all in_turn moving
round-relied c gc m z downs ups =
    let r : State = renewed c in
    let g : Invariant r = renewed-invariant c gc in
    let ms : List ℕ = active_in r shrinking in
    let ns : List ℕ = active_in r growing in
    let t : Tried = try_all (moving down m) (begun r) ms in
    let b = shrink-all r g m z downs ups ns ms r (begins r g m z downs ups) (active-in-once r shrinking (sound-active r g.sounds)) (λ n i. i) in
    let gt : Invariant t.state = try-keeps Invariant (moving down m) (λ d n h. grow-toward-invariant d h n down m) (begun r) ms g in
    let e : sound_again ms ns t ≡ t = again-sound ms ns t (invariant-sound gt) in
    by_cases (dec_eq t.refusal 0)
    (λ k.
    let q : t ≡ begun t.state = ap (λ (j : ℕ). record { refusal = j; state = t.state }) k in
    rw e
    (subst (λ (u : Tried). Among (0 ∷ 9 ∷ 12 ∷ []) (try_all (moving up m) u ns).refusal) (sym q)
    (grow-all r g m z downs ups ns t.state (b.1 k) (active-in-once r growing (sound-active r g.sounds)) (λ n i. i))))
    (λ k. rw e (subst (λ (u : Tried). Among (0 ∷ 9 ∷ 12 ∷ []) u.refusal) (sym (refused-stays (moving up m) t ns k)) b.0))
