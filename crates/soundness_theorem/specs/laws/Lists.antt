-- A sound state in parts: numbers in range, and outermost nodes with what they list; kept by a preparation for shrinking that passes the test.
use Rattle.std.specs.Prelude.{ℕ, zero, suc, ◌+◌, ◌≤◌, ◌<◌, ◌≡◌, refl, ◌≢◌, true, false, List, [], ◌∷◌, length, get_or}
use Rattle.std.proofs.Common.{arith, sym, ap, ◌∙◌, eqb-true, eq-eqb}
use Rattle.std.proofs.Math.Decide.{ℕ_discrete as dec_eq}
use Rattle.std.proofs.Math.Logic.{by_cases}
use Rattle.std.proofs.Math.Dec.{eqb}
use Rattle.graph.specs.Basic.{all}
use Rattle.graph.specs.State.{State, Graph, Overgrown, vertex_count, side_count, node_count, holder_at, vertex_holder_at, parent_of, boundary_of, overgrown_of, down}
use Rattle.graph.specs.laws.State.{and_left, and_right}
use Rattle.graph.specs.laws.Members.{by-test, all_weaker}
use Rattle.graph.specs.Sound.{entries_of, entries, sound}
use Rattle.graph.specs.laws.Shape.{node-facts, sound-node, OwnLists, own-facts}
use Rattle.graph.specs.Shape.{Shape}
use Rattle.graph.specs.laws.Sounds.{own-test, sound-test}
use Rattle.pass.specs.Work.{Work, finish_pass}
use Rattle.pass.specs.Shrink.{shrink_pass}
use Rattle.pass.specs.Prepare.{one_pass, prepare_from, prepare_node}
use Rattle.pass.specs.KeepsSound.{pass_own, passes_own, holds_lists, keeps_sound}
use Rattle.pass.proofs.laws.KeepsSound.{passes-more, passes-last}
use Rattle.pass.proofs.laws.Passes.{Passed, shrink-passed}
use Rattle.pass.proofs.laws.Prepare.{pass_state, one_down, prepare-more, prepare-last, prepare-passed, prepare-leaves}
use Rattle.calls.specs.Refuse.{store_short}
use Rattle.calls.proofs.laws.Accepted.{store_kept}
use Rattle.reachable.specs.laws.state.Numbers.{numbers_of, numbers-end}
use Rattle.reachable.specs.Numbers.{SoundNumbers, NodeNumbers}
use Rattle.reachable.specs.laws.prepare.FinishedState.{shrink-numbers}
use Rattle.reachable.specs.laws.prepare.Preparation.{entries-le}
use Rattle.reachable.specs.laws.prepare.PassDone.{finish-sides, finish-vertices}
use Rattle.soundness_theorem.specs.laws.Freed.{OwnFreed, own-refl, own-trans, pass-own}

-- ---- a sound state but for how many entries there are

pub record SoundLists (c : State) : Type 0 where
  pub numbers : SoundNumbers c
  pub own : (m : ℕ) → m < node_count c → parent_of c m ≡ 0 → OwnLists c m

pub lists_of : (c : State) → Shape c → 1 ≤ vertex_count c → sound c ≡ true → SoundLists c
lists_of c z v1 h = record { numbers = numbers_of c z v1 h; own = λ m i out. own-facts c m ((node-facts c m (sound-node c h m i)).own out) }

pub lists-sound : (c : State) → SoundLists c → entries c ≤ c.store_limit → sound c ≡ true
lists-sound c y le =
    let f : SoundNumbers c = y.numbers in
    sound-test c (record {
      count = f.count;
      store = le;
      edge = f.edges;
      vertex = f.vertices;
      side = f.sides;
      node = λ m i.
          let x : NodeNumbers c m = f.nodes m i in
          record {
            class = x.class;
            grow_state = x.grow_state;
            parent = x.parent;
            dual = x.dual;
            boundary = x.boundary;
            overgrown = x.overgrown;
            own = λ out. own-test c m (y.own m i out);
          };
      active = f.active;
      mark = f.mark;
    })

-- the lists of a node are its own still, if they are the same and it holds what it held
pub own-moved : (c d : State) (m : ℕ) → boundary_of d m ≡ boundary_of c m → overgrown_of d m ≡ overgrown_of c m
    → ((s : ℕ) → holder_at c s ≡ m + 1 → holder_at d s ≡ m + 1) → ((v : ℕ) → vertex_holder_at c v ≡ m + 1 → vertex_holder_at d v ≡ m + 1)
    → OwnLists c m → OwnLists d m
own-moved c d m e f g h q = record {
  sides-once = rw e q.sides-once;
  vertices-once = rw f q.vertices-once;
  sides-held =
      rw e
      (all_weaker (λ s. eqb (holder_at c s) (m + 1)) (λ s. eqb (holder_at d s) (m + 1)) (λ s t. eq-eqb _ _ (g s (eqb-true _ _ t)))
      (boundary_of c m) q.sides-held);
  vertices-held =
      rw f
      (all_weaker (λ (x : Overgrown). eqb (vertex_holder_at c x.vertex) (m + 1)) (λ (x : Overgrown). eqb (vertex_holder_at d x.vertex) (m + 1))
      (λ x t. eq-eqb _ _ (h x.vertex (eqb-true _ _ t))) (overgrown_of c m) q.vertices-held);
}

-- ---- the passes of a preparation for shrinking

own-finish : (n : ℕ) (c : State) (w : Work) → OwnFreed n c w.state → OwnFreed n c (finish_pass w n)
own-finish n c w o = record {
  sides = λ t h. rw (finish-sides n c w) (o.sides t h);
  vertices = λ v h. rw (finish-vertices n c w) (o.vertices v h);
}

module _ (n fuel : ℕ) (c : State) (h : passes_own (suc fuel) c n ≡ true) where
  first-own : pass_own c n ≡ true
  first-own =
      by-test (one_pass c n down).another
      (λ e. and_left (pass_own c n) (passes_own fuel (pass_state c n down) n) (sym (passes-more n fuel c e) ∙ h))
      (λ e. sym (passes-last n fuel c e) ∙ h)

  others-own : (one_pass c n down).another ≡ true → passes_own fuel (pass_state c n down) n ≡ true
  others-own e = and_right (pass_own c n) (passes_own fuel (pass_state c n down) n) (sym (passes-more n fuel c e) ∙ h)

  -- the first of them
  first-freed : OwnFreed n c (pass_state c n down)
  first-freed = rw (one_down c n down refl) (own-finish n c (shrink_pass c n) (pass-own c n first-own))

passes-own : (fuel : ℕ) (c : State) (n k : ℕ) → passes_own fuel c n ≡ true → OwnFreed n c (prepare_from fuel c n down k).state
passes-own zero c n k h = unfold prepare_from in (own-refl n c)
passes-own (suc fuel) c n k h =
    by-test (one_pass c n down).another
    (λ e.
    rw (prepare-more fuel c n down k e)
    (own-trans n c (pass_state c n down) (prepare_from fuel (pass_state c n down) n down (k + 1)).state (first-freed n fuel c h)
    (passes-own fuel (pass_state c n down) n (k + 1) (others-own n fuel c h e))))
    (λ e. rw (prepare-last fuel c n down k e) (first-freed n fuel c h))

-- ---- numbers, before each pass over an outermost node

record Numbered (n : ℕ) (c : State) : Type 0 where
  numbers : SoundNumbers c
  inside : n < node_count c
  outer : parent_of c n ≡ 0

pass-numbered : (n : ℕ) (c : State) → Numbered n c → Numbered n (pass_state c n down)
pass-numbered n c y =
    let p : Passed n c (finish_pass (shrink_pass c n) n) = shrink-passed c n in
    rw (one_down c n down refl)
    (record {
      numbers = shrink-numbers n c y.numbers y.inside y.outer;
      inside = rw p.grow_state y.inside;
      outer = ap (λ (l : List ℕ). get_or l n 0) p.parent ∙ y.outer;
    })

prepared-numbered : (n : ℕ) (c : State) → Numbered n c → Numbered n (prepare_node c n down).state
prepared-numbered n c y =
    prepare-leaves n down (Numbered n) (Numbered n) (λ x p q. pass-numbered n x p) (λ x p q. pass-numbered n x p) c
    (λ s. rw y.numbers.shape.vertex_holder (numbers-end c y.numbers s)) y.numbers.shape.vertex_holder y

-- ---- the preparation

module _ (c : State) (y : SoundLists c) (n : ℕ) (b : n < node_count c) (outer : parent_of c n ≡ 0) where
  abbrev ready : State
  ready = (prepare_node c n down).state

  passed : Passed n c ready
  passed = prepare-passed c n down

  numbered : Numbered n ready
  numbered = prepared-numbered n c (record { numbers = y.numbers; inside = b; outer = outer })

  -- the lists of another outermost node
  own-there : OwnFreed n c ready → (m : ℕ) → m < node_count c → m ≢ n → parent_of c m ≡ 0 → OwnLists ready m
  own-there o m i ne out =
      own-moved c ready m (passed.boundaries m ne) (passed.overgrowns m ne)
      (λ s e. o.sides s (λ x. ne (omega arith)) ∙ e) (λ v e. o.vertices v (λ x. ne (omega arith)) ∙ e) (y.own m i out)

  -- the node's own
  own-here : holds_lists ready n ≡ true → OwnLists ready n
  unfolding holds_lists
  own-here t =
      let a = all (λ s. eqb (holder_at ready s) (n + 1)) (boundary_of ready n) in
      let d = all (λ (o : Overgrown). eqb (vertex_holder_at ready o.vertex) (n + 1)) (overgrown_of ready n) in
      record {
        sides-once = (numbered.numbers.once n numbered.inside numbered.outer).sides;
        vertices-once = (numbered.numbers.once n numbered.inside numbered.outer).vertices;
        sides-held = and_left a d t;
        vertices-held = and_right a d t;
      }

  -- if only what the node held is freed, and in the end it holds what it lists, all lists are held as they were
  freed-lists : OwnFreed n c ready → holds_lists ready n ≡ true → SoundLists ready
  freed-lists o t = record {
    numbers = numbered.numbers;
    own = λ m i out.
        by_cases (dec_eq m n) (λ e. rw e (own-here t))
        (λ e. own-there o m (rw passed.grow_state at i) e (sym (ap (λ (l : List ℕ). get_or l m 0) passed.parent) ∙ out));
  }

  -- so by the test
  pub prepared-lists : keeps_sound c n ≡ true → SoundLists (prepare_node c n down).state
  unfolding keeps_sound prepare_node
  prepared-lists t =
      let a = passes_own (suc (vertex_count c)) c n in
      let d = holds_lists (prepare_from (suc (vertex_count c)) c n down 0).state n in
      freed-lists (passes-own (suc (vertex_count c)) c n 0 (and_left a d t)) (and_right a d t)

  pub prepared-within : store_short c (n ∷ []) 1 ≡ false → entries (prepare_node c n down).state ≤ (prepare_node c n down).state.store_limit
  prepared-within room =
      let le : entries_of ready n ≤ side_count ready + vertex_count ready = entries-le ready numbered.numbers n numbered.inside numbered.outer in
      let e : side_count ready + vertex_count ready ≡ side_count c + vertex_count c = ap (λ (g : Graph). length g.end + length g.virtual) passed.graph in
      store_kept c ready n passed b room (omega arith)
