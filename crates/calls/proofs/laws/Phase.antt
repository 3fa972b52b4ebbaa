-- What a trial has on every sound state, reached or not. While Shrink nodes are moved the state may lose its soundness, but it can be read, and every
-- outermost node can be shrunk. Once it is tested again, Grow nodes are moved on sound states.
use Rattle.std.specs.Prelude.{◌≡◌, ℕ, ◌-◌, ◌*◌, ◌<◌, ◌≤◌, true, false, ltb, ◌≢◌, List, [], ◌∷◌, map, length, nat_lt, slice_index, slice_index_or, slice_set}
use Rattle.std.proofs.Common.{arith, ap, ◌∙◌, get_or-set_same, get_or-set_other, ltb-true}
use Rattle.std.proofs.Math.Decide.{ℕ_discrete as dec_eq, dec_lt}
use Rattle.std.specs.Prelude.{refl}
use Rattle.std.proofs.Math.Logic.{by_cases}
use Rattle.std.proofs.Math.Seq.{set_out}
use Rattle.graph.specs.Basic.{all, member}
use Rattle.graph.specs.State.{State, Overgrown, vertex_count, edge_count, side_count, node_count, growth_at, parent_of, dual_of, boundary_of, overgrown_of, with_active, up, down}
use Rattle.graph.specs.Node.{moved}
use Rattle.graph.specs.Open.{dual_limit}
use Rattle.graph.specs.Sound.{sound}
use Rattle.graph.specs.inner.Form.{sides_ok}
use Rattle.graph.specs.Active.{renewed}
use Rattle.graph.specs.inner.Kept.{SameButHolders}
use Rattle.graph.specs.laws.Members.{by-test, all_map, all-unmap, all-member}
use Rattle.graph.specs.laws.Shape.{sound-end, sound-sides, sound-active}
use Rattle.graph.specs.Shape.{Shape}
use Rattle.graph.specs.laws.Active.{with-active-sound, renewed-sound}
use Rattle.pass.specs.Work.{Work, finish_pass}
use Rattle.pass.specs.Shrink.{below_tops, shrink_pass}
use Rattle.pass.specs.Prepare.{prepare_node}
use Rattle.pass.specs.inner.Ready.{Shrinkable}
use Rattle.pass.proofs.laws.Fits.{Listed, shrink-pass-listed, below-tops-le, shrink-over}
use Rattle.pass.proofs.laws.GrowSound.{finish-boundary, finish-overgrown}
use Rattle.pass.proofs.laws.Passes.{Passed, passed-refl, passed-trans, shrink-passed, shrink-pass-keeps}
use Rattle.pass.proofs.laws.Prepare.{pass_state, one_down, ends-passed, prepare-passed, prepare-leaves}
use Rattle.pass.proofs.laws.Ready.{sound-shrinkable, tops-inside}
use Rattle.answers.specs.Answer.{Reply, says}
use Rattle.growth.specs.Growth.{grow_check, moved_stack, grow_apply}
use Rattle.growth.proofs.laws.Growth.{apply-in, apply-out}
use Rattle.calls.specs.Refuse.{node_refusal, store_short}
use Rattle.calls.specs.Calls.{prepare_dual_node_growth, grow_prepared, grow_toward}
use Rattle.calls.specs.Round.{try_all, preparing}
use Rattle.calls.proofs.laws.Accepted.{unless-cases, NodeAccepted, node-accepted}
use Rattle.pass.proofs.laws.Holders.{Holders, shrink-pass-holders}
use Rattle.calls.proofs.laws.Readable.{sound-readable}
use Rattle.calls.proofs.laws.Shapes.{shape-prepared, shape-apply, shape-toward, shape-renewed}
use Rattle.calls.proofs.laws.Sounds.{Applied, apply-applied, moved-vertices, moved-count, prepare-up-sound, grow-up-sound}
use Rattle.calls.proofs.laws.Trial.{begun, try-keeps}
use Rattle.calls.specs.inner.Phase.{Phase}

pub sound-phase : (c : State) → Shape c → 1 ≤ vertex_count c → sound c ≡ true → Phase c
sound-phase c z v h = record {
  shape = z;
  ends = λ s. rw z.vertex_holder (sound-end c z h v s);
  sides = λ u. rw (← z.end) (sound-sides c z h u);
  readable = sound-readable c z h;
  able = λ n b o. sound-shrinkable c z v n b (record { sounds = h; outer = o });
}

-- ---- preparation

-- between two passes over node n, from c₀ on
record Inner (n : ℕ) (c₀ c : State) : Type 0 where
  passed : Passed n c₀ c
  holders : Holders (node_count c₀) c
  able : Shrinkable c n

inner-pass : (n : ℕ) (c₀ : State) → Phase c₀ → n < node_count c₀ → (c : State) → Inner n c₀ c → Inner n c₀ (finish_pass (shrink_pass c n) n)
unfolding sides_ok
inner-pass n c₀ p b c i =
    let w : Work = shrink_pass c n in
    let q : Passed n c₀ c = i.passed in
    let k : SameButHolders c w.state = shrink-pass-keeps c n in
    let pair : side_count c ≡ 2 * edge_count c₀ = rw q.graph p.shape.end in
    let l : Listed (edge_count c₀) c w = shrink-pass-listed (edge_count c₀) n c (λ v. rw q.graph (p.sides v)) (rw pair at i.able.sides) in
    let x : boundary_of (finish_pass w n) n ≡ w.kept = finish-boundary w n (rw (k.nodes, q.boundary, p.shape.boundary) b) in
    let y : overgrown_of (finish_pass w n) n ≡ below_tops (overgrown_of c n) =
    finish-overgrown w n (rw (k.nodes, q.overgrown, p.shape.overgrown) b) ∙ shrink-over c n in
    let s : Passed n c (finish_pass w n) = shrink-passed c n in
    record {
      passed = passed-trans q s;
      holders = shrink-pass-holders (node_count c₀) c n i.holders;
      able = record {
        sides = rw (x, s.graph, pair) l.inside;
        once = rw x l.once;
        stack = rw (y, s.graph) (tops-inside (λ (o : Overgrown). ltb o.vertex (vertex_count c)) (overgrown_of c n) i.able.stack);
        size = rw (y, s.graph) (omega (arith, below-tops-le (overgrown_of c n), i.able.size));
      };
    }

pub shrinkable-other : (n : ℕ) (c d : State) → Passed n c d → (m : ℕ) → m ≢ n → Shrinkable c m → Shrinkable d m
unfolding sides_ok
shrinkable-other n c d p m ne s = record {
  sides = rw (p.graph, p.boundaries m ne) s.sides;
  once = rw (p.boundaries m ne) s.once;
  stack = rw (p.graph, p.overgrowns m ne) s.stack;
  size = rw (p.graph, p.overgrowns m ne) s.size;
}

pub phase-prepared : (c : State) → Phase c → (n : ℕ) → n < node_count c → parent_of c n ≡ 0 → Phase (prepare_node c n down).state
phase-prepared c p n b o =
    let d : State = (prepare_node c n down).state in
    let step : (e : State) → Inner n c e → Inner n c (pass_state e n down) = λ e i. rw (one_down e n down refl) (inner-pass n c p b e i) in
    let i : Inner n c d =
    prepare-leaves n down (Inner n c) (Inner n c) (λ e j q. step e j) (λ e j q. step e j) c p.ends
    p.shape.vertex_holder
    (record { passed = passed-refl n c; holders = p.readable.holders; able = p.able n b o }) in
    let q : Passed n c d = i.passed in
    record {
      shape = shape-prepared c n down p.shape;
      ends = ends-passed n c d q p.ends;
      sides = λ v. rw q.graph (p.sides v);
      readable =
          record {
            holders = λ s. rw q.grow_state (i.holders s);
            growths = λ s. rw q.growth (p.readable.growths s);
            duals = λ m. rw q.dual (p.readable.duals m);
          };
      able = λ m h u. by_cases (dec_eq m n) (λ e. rw e i.able) (λ e. shrinkable-other n c d q m e (p.able m (rw q.grow_state at h) (rw q.parent at u)));
    }

-- ---- growth downward

down_by : (l y : ℕ) → moved down l y ≡ y - l
unfolding moved
down_by l y = refl

set-le : (l : List ℕ) (n y k m : ℕ) → y ≤ k → slice_index l m ≤ k → slice_index (slice_set l n y) m ≤ k
set-le l n y k m h i =
    by_cases (dec_eq m n)
    (λ e. by_cases (dec_lt n (length l)) (λ b. rw (e, get_or-set_same l n y 0 b) h) (λ b. rw (set_out l n y (omega arith)) i))
    (λ e. rw (get_or-set_other l n m y 0 e) i)

pub phase-moved : (c : State) → Phase c → (n l : ℕ) → n < node_count c → parent_of c n ≡ 0 → Phase (grow_apply c n down l)
unfolding sides_ok
phase-moved c p n l b o =
    let a : State = grow_apply c n down l in
    let q : Applied n (moved down l (dual_of c n)) (moved_stack down l (overgrown_of c n)) c a = apply-applied c n down l in
    let s : Shrinkable c n = p.able n b o in
    record {
      shape = shape-apply c n down l p.shape;
      ends = λ t. rw (q.graph, q.vertices) (p.ends t);
      sides = λ v. rw q.graph (p.sides v);
      readable = record {
        holders = λ t. rw (q.holder, q.grow_state) (p.readable.holders t);
        growths = λ t.
            by-test (member t (boundary_of c n))
            (λ i.
            let h : t < side_count c = ltb-true _ _ (all-member (λ x. ltb x (side_count c)) (boundary_of c n) t s.sides i) in
            let e : growth_at (grow_apply c n down l) t ≡ growth_at c t - l =
            apply-in c n down l t s.once (rw p.shape.growth h) i ∙ down_by l (growth_at c t) in
            let g = p.readable.growths t in
            omega arith)
            (λ i. rw (apply-out c n down l t i) (p.readable.growths t));
        duals = λ m. rw q.dual
            (set-le c.nodes.dual n (moved down l (dual_of c n)) dual_limit m
            (let g = p.readable.duals n in let e = down_by l (dual_of c n) in omega arith) (p.readable.duals m));
      };
      able = λ m h u.
          let r : Shrinkable c m = p.able m (rw q.grow_state at h) (rw q.parent at u) in
          by_cases (dec_eq m n)
          (λ e.
          let st : overgrown_of (grow_apply c n down l) n ≡ moved_stack down l (overgrown_of c n) =
          ap (λ (k : List (List Overgrown)). slice_index_or k n []) q.overgrown
          ∙ get_or-set_same c.nodes.overgrown n (moved_stack down l (overgrown_of c n)) []
          (rw p.shape.overgrown b) in
          rw e (record {
            sides = rw (q.graph, q.boundary) s.sides;
            once = rw q.boundary s.once;
            stack = rw (st, q.graph) (moved_inside (vertex_count c) l (overgrown_of c n) s.stack);
            size = rw (st, q.graph, moved-count down l (overgrown_of c n)) s.size;
          }))
          (λ e.
          let st : overgrown_of (grow_apply c n down l) m ≡ overgrown_of c m =
          ap (λ (k : List (List Overgrown)). slice_index_or k m []) q.overgrown
          ∙ get_or-set_other c.nodes.overgrown n m (moved_stack down l (overgrown_of c n)) [] e in
          record {
            sides = rw (q.graph, q.boundary) r.sides;
            once = rw q.boundary r.once;
            stack = rw (st, q.graph) r.stack;
            size = rw (st, q.graph) r.size;
          });
    }
  where
    moved_inside : (v l : ℕ) (st : List Overgrown) → all (λ (x : Overgrown). ltb x.vertex v) st ≡ true
        → all (λ (x : Overgrown). ltb x.vertex v) (moved_stack down l st) ≡ true
    moved_inside v l st h =
        let k : all (λ u. ltb u v) (map (λ (x : Overgrown). x.vertex) st) ≡ true = all_map (λ u. ltb u v) (λ (x : Overgrown). x.vertex) st h in
        all-unmap (λ u. ltb u v) (λ (x : Overgrown). x.vertex) (moved_stack down l st) (rw (moved-vertices down l st) k)

-- ---- the calls of a trial

pub phase-prepare : (c : State) (n : ℕ) → Phase c → Phase (prepare_dual_node_growth c n down).state
unfolding prepare_dual_node_growth says
phase-prepare c n p =
    unless-cases (λ (r : Reply). Phase r.state) (node_refusal c n (nat_lt up down) (store_short c (n ∷ []) 1)) c _ (λ e. p)
    (λ e. let a : NodeAccepted c n (nat_lt up down) (store_short c (n ∷ []) 1) = node-accepted c n (nat_lt up down)
    (store_short c (n ∷ []) 1) e in
    phase-prepared c p n a.inside a.outer)

pub phase-toward : (c : State) (n l : ℕ) → Phase c → Phase (grow_toward c n down l).state
unfolding grow_toward grow_prepared says
phase-toward c n l p =
    let d : State = (prepare_node c n down).state in
    let q : Passed n c d = prepare-passed c n down in
    unless-cases (λ (r : Reply). Phase r.state) (node_refusal c n false (store_short c (n ∷ []) 1)) c _ (λ e. p)
    (λ e.
    let a : NodeAccepted c n false (store_short c (n ∷ []) 1) = node-accepted c n false (store_short c (n ∷ []) 1) e in
    let r : Phase (prepare_node c n down).state = phase-prepared c p n a.inside a.outer in
    unless-cases (λ (x : Reply). Phase x.state) (grow_check (prepare_node c n down).state n down l) (prepare_node c n down).state _ (λ k. r)
    (λ k. phase-moved (prepare_node c n down).state r n l (rw q.grow_state a.inside) (rw q.parent a.outer)))

-- ---- the shrinking part of a trial from any sound state, after any number of nodes

pub renewed-phase : (c : State) → Shape c → 1 ≤ vertex_count c → sound c ≡ true → Phase (renewed c)
renewed-phase c z v h =
    sound-phase (renewed c) (shape-renewed c z) (unfold renewed with_active in v)
    (unfold renewed in (with-active-sound c _ h (unfold renewed in (renewed-sound c (sound-active c h)))))

pub shrinking-prepares : (c : State) → Phase c → (ms : List ℕ) → Phase (try_all (preparing down) (begun c) ms).state
unfolding preparing
shrinking-prepares c p ms = try-keeps Phase (preparing down) (λ d n q. phase-prepare d n q) (begun c) ms p

-- ---- the growing part, from a state that is sound again

pub record StillSound (c : State) : Type 0 where
  pub shape : Shape c
  pub one : 1 ≤ vertex_count c
  pub sounds : sound c ≡ true

pub still-prepare : (c : State) (n : ℕ) → StillSound c → StillSound (prepare_dual_node_growth c n up).state
unfolding prepare_dual_node_growth says
still-prepare c n p =
    unless-cases (λ (r : Reply). StillSound r.state) (node_refusal c n (nat_lt up up) (store_short c (n ∷ []) 1)) c _ (λ e. p)
    (λ e.
    let a : NodeAccepted c n (nat_lt up up) (store_short c (n ∷ []) 1) = node-accepted c n (nat_lt up up) (store_short c (n ∷ []) 1) e in
    record {
      shape = shape-prepared c n up p.shape;
      one = rw (prepare-passed c n up).graph p.one;
      sounds = prepare-up-sound c p.shape p.sounds p.one n a.inside a.outer a.room;
    })

toward-graph : (c : State) (n d l : ℕ) → (grow_toward c n d l).state.graph ≡ c.graph
unfolding grow_toward grow_prepared says
toward-graph c n d l =
    unless-cases (λ (r : Reply). r.state.graph ≡ c.graph) (node_refusal c n false (store_short c (n ∷ []) 1)) c _ (λ e. refl)
    (λ e. unless-cases (λ (r : Reply). r.state.graph ≡ c.graph) (grow_check (prepare_node c n d).state n d l)
    (prepare_node c n d).state _ (λ k. (prepare-passed c n d).graph)
    (λ k. (apply-applied (prepare_node c n d).state n d l).graph ∙ (prepare-passed c n d).graph))

pub still-toward : (c : State) (n l : ℕ) → StillSound c → StillSound (grow_toward c n up l).state
still-toward c n l p =
    record {
      shape = shape-toward c n up l p.shape;
      one = rw (toward-graph c n up l) p.one;
      sounds = grow-up-sound c p.shape p.sounds p.one n l;
    }

pub growing-prepares : (c : State) → StillSound c → (ns : List ℕ) → StillSound (try_all (preparing up) (begun c) ns).state
unfolding preparing
growing-prepares c p ns = try-keeps StillSound (preparing up) (λ d n q. still-prepare d n q) (begun c) ns p
