-- On a state that has the invariant, as every reached one has, every test is passed.
use Rattle.std.specs.Prelude.{ℕ, zero, suc, ◌+◌, ◌<◌, ◌≡◌, Bool, true, ◌&&◌, ◌||◌, not, List, [], ◌∷◌, ℤ, pos, negsuc, ltb, get_or}
use Rattle.std.proofs.Math.Path.{refl}
use Rattle.std.proofs.Common.{sym, ap, ◌∙◌, ⊎_elim}
use Rattle.std.proofs.Math.Bool.{false}
use Rattle.std.proofs.Math.Dec.{eqb}
use borrow.Author.Tests.{eqb-true, eq-eqb}
use Rattle.graph.specs.Basic.{all, member}
use Rattle.graph.specs.State.{State, Overgrown, vertex_count, node_count, end_at, growth_at, holder_at, sides_at, defect_at, vertex_holder_at, parent_of, grow_state_of, boundary_of, overgrown_of, stay, up, down}
use Rattle.graph.specs.laws.State.{and_right}
use Rattle.graph.specs.laws.Members.{by-test, both, or_left, or_right, all_from, all-unmap, member-head, member-tail, member-cons, member-nil}
use Rattle.pass.specs.Shrink.{empty_tops, shrink_pass}
use Rattle.pass.specs.Prepare.{one_pass, prepare_node}
use Rattle.pass.specs.KeepsSound.{own_side, own_vertex, may_go, side_may_go, pass_own, passes_own, holds_lists, keeps_sound}
use Rattle.pass.proofs.laws.KeepsSound.{passes-more, passes-last}
use Rattle.pass.proofs.laws.Passes.{Passed}
use Rattle.pass.proofs.laws.Prepare.{pass_state, one_down, prepare-passed}
use Rattle.answers.specs.Outcome.{Answer}
use Rattle.calls.specs.Refuse.{node_refusal, store_short}
use Rattle.calls.specs.Insert.{blossom_refusal, prepare_step}
use Rattle.calls.specs.Each.{max_update_length, signed_for, toward}
use Rattle.calls.specs.Keeps.{prepare_keeps, length_keeps, toward_keeps, grow_keeps, follow_keeps, moves_keeps, advance_keeps, circle_keeps, blossom_keeps}
use Rattle.calls.proofs.laws.Accepted.{NodeAccepted, node-accepted, BlossomAccepted, blossom-accepted}
use Rattle.calls.proofs.laws.Keeps.{refused-or-of, answer-cases}
use Rattle.reachable.specs.Cluster.{stacked}
use Rattle.reachable.specs.Invariant.{Labels, Clusters, Invariant}
use Rattle.reachable.specs.Numbers.{SoundNumbers}
use Rattle.reachable.specs.laws.Calls.{length-invariant}
use Rattle.reachable.specs.laws.state.Views.{clusters-all}
use Rattle.reachable.specs.laws.state.Numbers.{numbers-graph-ok}
use Rattle.reachable.specs.laws.prepare.FinishedState.{NodeReady, shrinking-done, shrink-ready}
use Rattle.reachable.specs.laws.prepare.Preparation.{HeldReady, PreparedDown, prepare-down, ready-to-prepare, invariant-numbers}
use Rattle.soundness_theorem.specs.laws.Freed.{noted-free, vertex-noted}

-- ---- one pass

tops-stacked : (st : List Overgrown) (v : ℕ) → member v (empty_tops st) ≡ true → member v (stacked st) ≡ true
unfolding empty_tops
tops-stacked [] v m = m
tops-stacked (o ∷ os) v m =
    by-test (eqb o.amount 0)
    (λ e.
    member-cons v o.vertex (empty_tops os) (rw e at m) (λ q. rw q (member-head o.vertex (stacked os)))
    (λ q. member-tail v o.vertex (stacked os) (tops-stacked os v q)))
    (λ e. member-nil v (rw e at m))

module _ (n : ℕ) (c : State) (k : Labels) (y : NodeReady n c k) where
  -- the node's own vertex that is no defect has the node's own sides
  own-plain : (v : ℕ) → vertex_holder_at c v ≡ n + 1 → defect_at c v ≡ 0 → own_vertex n c v ≡ true
  unfolding own_vertex own_side
  own-plain v own plain =
      both (eqb (vertex_holder_at c v) (n + 1)) (all (own_side n c) (sides_at c v))
      (eq-eqb _ _ own)
      (all_from (own_side n c) (sides_at c v)
      (λ t m.
      let a = (numbers-graph-ok c y.numbers).at_out v t m in
      or_right (eqb (holder_at c t) 0) (eqb (holder_at c t) (n + 1))
      (eq-eqb _ _ ((y.clusters.node n y.inside y.outer).all-sides v own plain t a.0 a.1))))

  top-goes : (v : ℕ) → member v (empty_tops (overgrown_of c n)) ≡ true → may_go n c v ≡ true
  unfolding may_go
  top-goes v m =
      let og = (y.clusters.node n y.inside y.outer).overgrown-vertices v (tops-stacked (overgrown_of c n) v m) in
      or_right (eqb (vertex_holder_at c v) 0) (own_vertex n c v) (own-plain v og.own og.plain)

  -- what a boundary side of growth 0 notes is free in the end, so it was free or the node's own
  side-goes : (s : ℕ) → member s (boundary_of c n) ≡ true → side_may_go n c s ≡ true
  unfolding side_may_go may_go
  side-goes s m =
      by-test (eqb (growth_at c s) 0 && eqb (defect_at c (end_at c s)) 0)
      (λ e.
      let free : vertex_holder_at (shrink_pass c n).state (end_at c s) ≡ 0 = noted-free n c (end_at c s) (vertex-noted c n s m e) in
      let plain : defect_at c (end_at c s) ≡ 0 = eqb-true _ _ (and_right (eqb (growth_at c s) 0) (eqb (defect_at c (end_at c s)) 0) e) in
      or_right (not (eqb (growth_at c s) 0 && eqb (defect_at c (end_at c s)) 0)) (eqb (vertex_holder_at c (end_at c s)) 0 || own_vertex n c (end_at c s))
      (⊎_elim
      (λ (a : vertex_holder_at (shrink_pass c n).state (end_at c s) ≡ vertex_holder_at c (end_at c s)).
      or_left (eqb (vertex_holder_at c (end_at c s)) 0) (own_vertex n c (end_at c s)) (eq-eqb _ _ (sym a ∙ free)))
      (λ (a : (vertex_holder_at c (end_at c s) ≡ n + 1) × (vertex_holder_at (shrink_pass c n).state (end_at c s) ≡ 0)).
      or_right (eqb (vertex_holder_at c (end_at c s)) 0) (own_vertex n c (end_at c s)) (own-plain (end_at c s) a.0 plain))
      ((shrinking-done n c k y).vertices (end_at c s))))
      (λ e.
      or_left (not (eqb (growth_at c s) 0 && eqb (defect_at c (end_at c s)) 0)) (eqb (vertex_holder_at c (end_at c s)) 0 || own_vertex n c (end_at c s))
      (rw e))

  ready-pass : pass_own c n ≡ true
  unfolding pass_own
  ready-pass =
      both (all (may_go n c) (empty_tops (overgrown_of c n))) (all (side_may_go n c) (boundary_of c n))
      (all_from (may_go n c) (empty_tops (overgrown_of c n)) top-goes)
      (all_from (side_may_go n c) (boundary_of c n) side-goes)

-- ---- all passes

ready-passes : (fuel n : ℕ) (c : State) (k : Labels) → NodeReady n c k → passes_own fuel c n ≡ true
ready-passes zero n c k y = unfold passes_own in refl
ready-passes (suc fuel) n c k y =
    let next : NodeReady n (pass_state c n down) k = rw (one_down c n down refl) (shrink-ready n c k y) in
    by-test (one_pass c n down).another
    (λ e. passes-more n fuel c e
    ∙ both (pass_own c n) (passes_own fuel (pass_state c n down) n) (ready-pass n c k y)
    (ready-passes fuel n (pass_state c n down) k next))
    (λ e. passes-last n fuel c e ∙ ready-pass n c k y)

-- ---- the end

held-lists : (n : ℕ) (b : State) (i : Labels) (c : State) → HeldReady n b i c → holds_lists c n ≡ true
unfolding holds_lists
held-lists n b i c f =
    both (all (λ s. eqb (holder_at c s) (n + 1)) (boundary_of c n)) (all (λ (o : Overgrown). eqb (vertex_holder_at c o.vertex) (n + 1)) (overgrown_of c n))
    (all_from (λ s. eqb (holder_at c s) (n + 1)) (boundary_of c n) (λ s m. eq-eqb _ _ (f.boundary-held s m)))
    (all-unmap (λ v. eqb (vertex_holder_at c v) (n + 1)) (λ (o : Overgrown). o.vertex) (overgrown_of c n)
    (all_from (λ v. eqb (vertex_holder_at c v) (n + 1)) (stacked (overgrown_of c n))
    (λ v m. eq-eqb _ _ ((f.ready.clusters.node n f.ready.inside f.ready.outer).overgrown-vertices v m).own)))

-- ---- a preparation for shrinking

module _ (n : ℕ) (c : State) (k : Labels) (f : SoundNumbers c) (h : Clusters c k) (b : n < node_count c) (o : parent_of c n ≡ 0) where
  before : HeldReady n c k c
  before = ready-to-prepare n c k f h b o

  after : PreparedDown n c k (prepare_node c n down).state
  after = prepare-down n down c k refl c before

  clusters-keep : keeps_sound c n ≡ true
  unfolding keeps_sound
  clusters-keep =
      both (passes_own (suc (vertex_count c)) c n) (holds_lists (prepare_node c n down).state n)
      (ready-passes (suc (vertex_count c)) n c before.labels before.ready)
      (held-lists n c k (prepare_node c n down).state after.held-ready)

invariant-keeps : (c : State) → Invariant c → (n : ℕ) → n < node_count c → parent_of c n ≡ 0 → keeps_sound c n ≡ true
invariant-keeps c g n b o = clusters-keep n c g.labels (invariant-numbers g) g.clusters b o

circle-keeps : (ms : List ℕ) (c : State) (k : Labels) → SoundNumbers c → Clusters c k → ((m : ℕ) → member m ms ≡ true → m < node_count c)
    → ((m : ℕ) → member m ms ≡ true → parent_of c m ≡ 0) → circle_keeps c ms ≡ true
unfolding circle_keeps prepare_step
circle-keeps [] c k f h inside outer = refl
circle-keeps (m ∷ ms) c k f h inside outer =
    let b : m < node_count c = inside m (member-head m ms) in
    let o : parent_of c m ≡ 0 = outer m (member-head m ms) in
    let s : HeldReady m c k (prepare_node c m down).state = (after m c k f h b o).held-ready in
    let p : Passed m c (prepare_node c m down).state = prepare-passed c m down in
    both (keeps_sound c m) (circle_keeps (prepare_node c m down).state ms)
    (clusters-keep m c k f h b o)
    (circle-keeps ms (prepare_node c m down).state s.labels s.ready.numbers (clusters-all s.ready.clusters s.boundary-held)
    (λ i j. rw p.grow_state (inside i (member-tail i m ms j)))
    (λ i j. ap (λ (l : List ℕ). get_or l i 0) p.parent ∙ outer i (member-tail i m ms j)))

-- ---- each call

module _ (c : State) (g : Invariant c) where
  pub prepare-passes : (n d : ℕ) → prepare_keeps c n d ≡ true
  unfolding prepare_keeps
  prepare-passes n d =
      refused-or-of (node_refusal c n (ltb up d) (store_short c (n ∷ []) 1)) (eqb d up || keeps_sound c n)
      (λ e.
      let a : NodeAccepted c n (ltb up d) (store_short c (n ∷ []) 1) = node-accepted c n (ltb up d) (store_short c (n ∷ []) 1) e in
      or_right (eqb d up) (keeps_sound c n) (invariant-keeps c g n a.inside a.outer))

  pub length-passes : (n d : ℕ) (first : Bool) → length_keeps c n d first ≡ true
  unfolding length_keeps
  length-passes n d first = or_right (not first) (prepare_keeps c n d) (prepare-passes n d)

  pub grow-passes : (n : ℕ) (l : ℤ) → grow_keeps c n l ≡ true
  unfolding grow_keeps toward_keeps
  grow-passes n (pos l) = refl
  grow-passes n (negsuc l) =
      refused-or-of (node_refusal c n false (store_short c (n ∷ []) 1)) (keeps_sound c n)
      (λ e.
      let a : NodeAccepted c n false (store_short c (n ∷ []) 1) = node-accepted c n false (store_short c (n ∷ []) 1) e in
      invariant-keeps c g n a.inside a.outer)

  follow-passes : (n x : ℕ) (a : Answer) → follow_keeps c n x a ≡ true
  follow-passes n x =
      answer-cases (λ (a : Answer). follow_keeps c n x a ≡ true) (λ l e. unfold follow_keeps in (grow-passes n (signed_for x l))) (λ a f. (f c n x).1)

  pub blossom-passes : (x : ℕ) (circle : List ℕ) → blossom_keeps c x circle ≡ true
  unfolding blossom_keeps
  blossom-passes x circle =
      refused-or-of (blossom_refusal c x circle) (circle_keeps c circle)
      (λ e.
      let a : BlossomAccepted c x circle = blossom-accepted c x circle e in
      circle-keeps circle c g.labels (invariant-numbers g) g.clusters a.inside a.outer)

module _ (c : State) (g : Invariant c) (n : ℕ) where
  moves-passes : (x : ℕ) → moves_keeps c n x ≡ true
  unfolding moves_keeps
  moves-passes x =
      both (length_keeps c n (toward x) true)
      (follow_keeps (max_update_length c n (toward x) true).state n x (max_update_length c n (toward x) true).answer)
      (length-passes c g n (toward x) true)
      (follow-passes (max_update_length c n (toward x) true).state (length-invariant c g n (toward x) true) n x
      (max_update_length c n (toward x) true).answer)

  pub advance-passes : advance_keeps c n ≡ true
  unfolding advance_keeps
  advance-passes =
      refused-or-of (node_refusal c n false false) (eqb (grow_state_of c n) stay || moves_keeps c n (grow_state_of c n))
      (λ e. or_right (eqb (grow_state_of c n) stay) (moves_keeps c n (grow_state_of c n)) (moves-passes (grow_state_of c n)))
