-- Calls that keep a sound state sound, whatever sound state it is: preparation for growing, growth, set state, clear.
-- (Preparation for shrinking keeps it on states that calls reach; that needs the invariant of such states.)
use Rattle.std.specs.Prelude.{◌≡◌, ℕ, ◌+◌, ◌<◌, ◌≤◌, true, false, ltb, ◌≢◌, List, [], ◌∷◌, map, length, get_or, ◌==◌, nat_eq, nat_le, nat_lt, slice_index, slice_index_or, slice_set}
use native.Mathlib.Omega.{arith}
use Rattle.std.proofs.Math.Decide.{ℕ_discrete as dec_eq, dec_lt}
use Rattle.std.proofs.Math.Path.{refl, ap}
use Rattle.std.proofs.Common.{sym, subst, ◌∙◌, length-set, get_or-set_same, get_or-set_other, ltb-false, le-leb, leb-true}
use Rattle.std.proofs.lemmas.List.{set-get_or}
use Rattle.std.proofs.Math.Seq.{set_out}
use Rattle.graph.specs.Basic.{fold, all, member, distinct, sum_below}
use Rattle.graph.specs.State.{State, Graph, Vertices, Nodes, Overgrown, NodeClass, defect_vertex, blossom, removed, vertex_count, edge_count, side_count, node_count, growth_at, holder_at, grandson_at, vertex_holder_at, class_of, grow_state_of, parent_of, dual_of, boundary_of, overgrown_of, with_nodes, with_grow_state, with_dual, with_overgrown, up}
use Rattle.graph.specs.Open.{dual_limit, growth_limit}
use Rattle.graph.specs.Sound.{node_or_none, stored_defect, class_sound, parent_sound, over_sound, entries_of, entries, sound}
use Rattle.graph.specs.laws.Members.{by-test, all_weaker, all_map, all-unmap, both}
use Rattle.graph.specs.laws.State.{and_left, and_right}
use Rattle.graph.specs.laws.Shape.{SoundNode, OwnLists, own-facts}
use Rattle.graph.specs.Shape.{SoundSide, SoundVertex, SoundEdge, Shape}
use Rattle.graph.specs.laws.Active.{active-kept}
use Rattle.graph.specs.laws.Sounds.{Sound, sound-facts, sound-test, own-test}
use Rattle.pass.specs.Work.{finish_pass}
use Rattle.pass.specs.Grow.{grow_pass}
use Rattle.pass.proofs.laws.Passes.{Passed, passed-refl, passed-trans}
use Rattle.pass.proofs.laws.Fits.{Sized, sound-sized}
use Rattle.pass.proofs.laws.GrowSound.{grow-pass-sound, grow-pass-entries}
use Rattle.answers.specs.Outcome.{Done}
use Rattle.answers.specs.Answer.{Reply, says}
use Rattle.calls.specs.Refuse.{store_short, node_refusal, unless}
use Rattle.pass.specs.Prepare.{prepare_node}
use Rattle.graph.specs.Node.{moved}
use Rattle.growth.specs.Growth.{moved_stack, move_side, grow_check, grow_apply, top_is}
use Rattle.calls.specs.Calls.{grow_prepared, grow_toward}
use Rattle.pass.proofs.laws.Prepare.{pass_state, one-passed, one_up, prepare-leaves}
use Rattle.calls.proofs.laws.Shapes.{shape-passed}
use Rattle.growth.proofs.laws.Growth.{Moved, sides-moved, apply-in, apply-out}
use Rattle.graph.specs.laws.Sums.{sum_same}
use Rattle.calls.proofs.laws.Accepted.{store_kept, unless-cases, NodeAccepted, node-accepted}
use Rattle.growth.proofs.laws.Accepted.{grow-accepted}

-- ---- preparation for growing

-- a state between two passes
pub record Ready (n : ℕ) (c e : State) : Type 0 where
  pub shape : Shape e
  pub sounds : sound e ≡ true
  pub passed : Passed n c e

module _ (c : State) (z : Shape c) (h : sound c ≡ true) (v1 : 1 ≤ vertex_count c) (n : ℕ) (b : n < node_count c)
    (outer : parent_of c n ≡ 0) (room : store_short c (n ∷ []) 1 ≡ false) where
  -- one growing pass
  ready-finish : (e : State) → Ready n c e → Ready n c (finish_pass (grow_pass e n) n)
  ready-finish e r =
      let p : Passed n c e = r.passed in
      let d : State = finish_pass (grow_pass e n) n in
      let q : Passed n e d = subst (λ w. Passed n e (finish_pass w n)) (one_up e n up refl) (one-passed e n up) in
      let v : vertex_count e ≡ vertex_count c = ap (λ (g : Graph). length g.virtual) p.graph in
      let s : side_count e ≡ side_count c = ap (λ (g : Graph). length g.end) p.graph in
      let m : node_count e ≡ node_count c = ap (λ (l : List ℕ). length l) p.grow_state in
      let b' : n < node_count e = omega arith in
      let o' : parent_of e n ≡ 0 = ap (λ (l : List ℕ). slice_index l n) p.parent ∙ outer in
      let v' : 1 ≤ vertex_count e = omega arith in
      let fits : entries_of d n ≤ side_count e + vertex_count e = grow-pass-entries e r.shape r.sounds v' n b' o' in
      let fits' : entries_of d n ≤ side_count c + vertex_count c = omega arith in
      let t : Passed n c d = passed-trans p q in
      let store : entries d ≤ d.store_limit = store_kept c d n t b room fits' in
      let limit : d.store_limit ≡ e.store_limit = q.store_limit in
      record { shape = shape-passed n e d q r.shape; sounds = grow-pass-sound e r.shape r.sounds v' n b' o' (omega arith); passed = t }

  ready-step : (e : State) → Ready n c e → Ready n c (pass_state e n up)
  ready-step e r = subst (λ w. Ready n c (finish_pass w n)) (sym (one_up e n up refl)) (ready-finish e r)

  pub prepare-up-ready : Ready n c (prepare_node c n up).state
  prepare-up-ready =
      let size : Sized (side_count c) (vertex_count c) c = sound-sized c z h v1 in
      prepare-leaves n up (Ready n c) (Ready n c) (λ e r q. ready-step e r) (λ e r q. ready-step e r) c
      (λ s. rw z.vertex_holder (size.ends s)) z.vertex_holder
      (record { shape = z; sounds = h; passed = passed-refl n c })

  pub prepare-up-sound : sound (prepare_node c n up).state ≡ true
  prepare-up-sound = prepare-up-ready.sounds

-- ---- clear

-- ---- growth

-- d is c with other growths and states, and another dual variable and stack of node n
pub record Applied (n y : ℕ) (o : List Overgrown) (c d : State) : Type 0 where
  pub graph : d.graph ≡ c.graph
  pub vertices : d.vertices ≡ c.vertices
  pub holder : d.sides.holder ≡ c.sides.holder
  pub grandson : d.sides.grandson ≡ c.sides.grandson
  pub class : d.nodes.class ≡ c.nodes.class
  pub grow_state : length d.nodes.grow_state ≡ length c.nodes.grow_state
  pub parent : d.nodes.parent ≡ c.nodes.parent
  pub boundary : d.nodes.boundary ≡ c.nodes.boundary
  pub node_limit : d.node_limit ≡ c.node_limit
  pub store_limit : d.store_limit ≡ c.store_limit
  pub active : d.active ≡ c.active
  pub dual : d.nodes.dual ≡ slice_set c.nodes.dual n y
  pub overgrown : d.nodes.overgrown ≡ slice_set c.nodes.overgrown n o

pub apply-applied : (c : State) (n d l : ℕ) → Applied n (moved d l (dual_of c n)) (moved_stack d l (overgrown_of c n)) c (grow_apply c n d l)
unfolding grow_apply with_overgrown with_dual with_nodes
apply-applied c n d l =
    let s : State = with_overgrown (with_dual c n (moved d l (dual_of c n))) n (moved_stack d l (overgrown_of c n)) in
    let m : Moved s (fold (move_side d l) s (boundary_of c n)) = sides-moved s d l (boundary_of c n) in
    record {
      graph = m.graph;
      vertices = m.vertices;
      holder = m.holder;
      grandson = m.grandson;
      class = ap (λ (x : Nodes). x.class) m.nodes;
      grow_state = ap (λ (x : Nodes). length x.grow_state) m.nodes;
      parent = ap (λ (x : Nodes). x.parent) m.nodes;
      boundary = ap (λ (x : Nodes). x.boundary) m.nodes;
      node_limit = m.node_limit;
      store_limit = m.store_limit;
      active = m.active;
      dual = ap (λ (x : Nodes). x.dual) m.nodes;
      overgrown = ap (λ (x : Nodes). x.overgrown) m.nodes;
    }

pub apply-states : (c : State) (n d l : ℕ) → (grow_apply c n d l).nodes.grow_state ≡ c.nodes.grow_state
unfolding grow_apply with_overgrown with_dual with_nodes
apply-states c n d l =
    let s : State = with_overgrown (with_dual c n (moved d l (dual_of c n))) n (moved_stack d l (overgrown_of c n)) in
    ap (λ (x : Nodes). x.grow_state) (sides-moved s d l (boundary_of c n)).nodes

module _ (c : State) (z : Shape c) (f : Sound c) (n : ℕ) (b : n < node_count c) (y : ℕ) (o : List Overgrown) (d : State)
    (p : Applied n y o c d) (small : y ≤ dual_limit) (tops : all (over_sound c) o ≡ true)
    (same : map (λ (x : Overgrown). x.vertex) o ≡ map (λ (x : Overgrown). x.vertex) (overgrown_of c n))
    (count : length o ≡ length (overgrown_of c n)) (growths : (s : ℕ) → s < side_count c → growth_at d s ≤ growth_limit)
    (states : (m : ℕ) → m < node_count c → grow_state_of d m ≤ 2) where
  v_count : vertex_count d ≡ vertex_count c
  v_count = ap (λ (g : Graph). length g.virtual) p.graph

  s-count : side_count d ≡ side_count c
  s-count = ap (λ (g : Graph). length g.end) p.graph

  -- the stacks: node n's, and every other node's
  stack-here : overgrown_of d n ≡ o
  stack-here = ap (λ (l : List (List Overgrown)). get_or l n []) p.overgrown ∙ get_or-set_same c.nodes.overgrown n o [] (rw z.overgrown b)

  stack-there : (m : ℕ) → m ≢ n → overgrown_of d m ≡ overgrown_of c m
  stack-there m ne = ap (λ (l : List (List Overgrown)). get_or l m []) p.overgrown ∙ get_or-set_other c.nodes.overgrown n m o [] ne

  sides-of : (m : ℕ) → boundary_of d m ≡ boundary_of c m
  sides-of m = ap (λ (l : List (List ℕ)). get_or l m []) p.boundary

  entries-same : (m : ℕ) → entries_of d m ≡ entries_of c m
  unfolding entries_of
  entries-same m =
      let k : length (overgrown_of d m) ≡ length (overgrown_of c m) =
      elim
      (dec_eq m n) [
        | yes e ↦ rw e (ap (λ (l : List Overgrown). length l) stack-here ∙ count)
        | no ne ↦ ap (λ (l : List Overgrown). length l) (stack-there m ne)
      ] in
      let i : length (boundary_of d m) ≡ length (boundary_of c m) = ap (λ (l : List ℕ). length l) (sides-of m) in
      omega arith

  all-entries : entries d ≡ entries c
  unfolding entries
  all-entries = ap (sum_below (entries_of d)) p.grow_state ∙ sum_same (entries_of d) (entries_of c) (node_count c) (λ i h. entries-same i)

  stored_same : (g : ℕ) → stored_defect d g ≡ stored_defect c g
  unfolding stored_defect
  stored_same g = rw (p.grow_state, p.class)

  place_same : (m : ℕ) (x : NodeClass) → class_sound d m x ≡ class_sound c m x
  unfolding class_sound
  place_same m (defect_vertex v) = rw v_count
  place_same m (blossom k) = refl
  place_same m removed = refl

  parent-same : (m : ℕ) → parent_sound d m ≡ parent_sound c m
  unfolding parent_sound node_or_none
  parent-same m = rw (p.parent, p.grow_state)

  over-same : (x : Overgrown) → over_sound c x ≡ true → over_sound d x ≡ true
  unfolding over_sound
  over-same x h = rw v_count h

  applied-edge : (e : ℕ) → e < edge_count d → SoundEdge d e
  applied-edge e h =
      let q : SoundEdge c e = f.edge e (rw p.graph at h) in
      record {
        left = rw p.graph q.left;
        right = rw p.graph q.right;
        differ = rw p.graph q.differ;
        weight = rw p.graph q.weight;
        original = rw p.graph q.original;
      }

  applied-vertex : (v : ℕ) → v < vertex_count d → SoundVertex d v
  applied-vertex v h =
      let q : SoundVertex c v = f.vertex v (rw p.graph at h) in
      record {
        virtual = rw p.graph q.virtual;
        defect = rw p.vertices q.defect;
        vertex_holder = rw (p.vertices, p.grow_state) q.vertex_holder;
        vertex_grandson = rw (p.vertices, p.grow_state) q.vertex_grandson;
        sides = rw p.graph q.sides;
      }

  applied-side : (s : ℕ) → s < side_count d → SoundSide d s
  applied-side s h =
      let q : SoundSide c s = f.side s (rw p.graph at h) in
      let hs : holder_at d s ≡ holder_at c s = ap (λ (l : List ℕ). slice_index l s) p.holder in
      let gs : grandson_at d s ≡ grandson_at c s = ap (λ (l : List ℕ). slice_index l s) p.grandson in
      record {
        growth = growths s (rw s-count at h);
        holder = rw (p.holder, p.grow_state) q.holder;
        grandson = rw (p.grandson, p.grow_state) q.grandson;
        defect = λ ne. stored_same (grandson_at d s) ∙ ap (stored_defect c) gs ∙ q.defect (λ e. ne (hs ∙ e));
      }

  own_same : (m : ℕ) → OwnLists c m → OwnLists d m
  own_same m q =
      let stack : map (λ (x : Overgrown). x.vertex) (overgrown_of d m)
      ≡ map (λ (x : Overgrown). x.vertex) (overgrown_of c m) =
      elim
      (dec_eq m n) [
        | yes e ↦ rw e (ap (map (λ (x : Overgrown). x.vertex)) stack-here ∙ same)
        | no ne ↦ ap (map (λ (x : Overgrown). x.vertex)) (stack-there m ne)
      ] in
      let held : all (λ v. nat_eq (vertex_holder_at d v) (m + 1)) (map (λ (x : Overgrown). x.vertex) (overgrown_of d m))
      ≡ true =
      ap (all (λ v. nat_eq (vertex_holder_at d v) (m + 1))) stack
      ∙ ap
      (λ (x : Vertices). all (λ v. nat_eq (slice_index x.vertex_holder v) (m + 1))
      (map (λ (x : Overgrown). x.vertex) (overgrown_of c m)))
      p.vertices
      ∙ all_map (λ v. nat_eq (vertex_holder_at c v) (m + 1)) (λ (x : Overgrown). x.vertex) (overgrown_of c m)
      q.vertices-held in
      record {
        sides-once = ap distinct (sides-of m) ∙ q.sides-once;
        vertices-once = ap distinct stack ∙ q.vertices-once;
        sides-held = ap (all (λ s. nat_eq (holder_at d s) (m + 1))) (sides-of m)
            ∙ ap (λ (l : List ℕ). all (λ s. nat_eq (slice_index l s) (m + 1)) (boundary_of c m)) p.holder ∙ q.sides-held;
        vertices-held = all-unmap (λ v. nat_eq (vertex_holder_at d v) (m + 1)) (λ (x : Overgrown). x.vertex) (overgrown_of d m) held;
      }

  applied-node : (m : ℕ) → m < node_count d → SoundNode d m
  applied-node m h =
      let q : SoundNode c m = f.node m (rw p.grow_state at h) in
      let par : parent_of d m ≡ parent_of c m = ap (λ (l : List ℕ). slice_index l m) p.parent in
      record {
        class = ap (λ (l : List NodeClass). class_sound d m (slice_index_or l m (defect_vertex 0))) p.class ∙ place_same m (class_of c m) ∙ q.class;
        grow_state = states m (rw p.grow_state at h);
        parent = parent-same m ∙ q.parent;
        dual = elim
            (dec_eq m n) [
              | yes e ↦ rw (p.dual, e, get_or-set_same c.nodes.dual n y 0 (rw z.dual b)) small
              | no ne ↦ rw (p.dual, get_or-set_other c.nodes.dual n m y 0 ne) q.dual
            ];
        boundary = ap (all (λ s. ltb s (side_count d))) (sides-of m) ∙ ap (λ k. all (λ s. ltb s k) (boundary_of c m)) s-count ∙ q.boundary;
        overgrown = elim
            (dec_eq m n) [
              | yes e ↦ rw e
                  (ap (all (over_sound d)) stack-here ∙ all_weaker (over_sound c) (over_sound d) over-same o tops)
              | no ne ↦ ap (all (over_sound d)) (stack-there m ne)
                  ∙ all_weaker (over_sound c) (over_sound d) over-same (overgrown_of c m) q.overgrown
            ];
        own = λ e. own-test d m (own_same m (own-facts c m (q.own (sym par ∙ e))));
      }

  pub applied-sound : Sound d
  applied-sound =
      let nodes : node_count d ≡ node_count c = p.grow_state in
      let n₁ : d.node_limit ≡ c.node_limit = p.node_limit in
      let s₁ : d.store_limit ≡ c.store_limit = p.store_limit in
      record {
        count = omega (arith, f.count);
        store = omega (arith, f.store, all-entries);
        edge = applied-edge;
        vertex = applied-vertex;
        side = applied-side;
        node = applied-node;
        active = active-kept c d p.active (omega arith) f.active;
        mark = rw p.graph f.mark;
      }

-- a moved number stays within a limit, if growth was accepted
pub moved-le : (d l x k : ℕ) → x ≤ k → ((d == up) ≡ true → x + l ≤ k) → moved d l x ≤ k
unfolding moved
moved-le d l x k h g = by-test (d == up) (λ e. rw e (g e)) (λ e. rw e (omega arith))

pub moved-vertices : (d l : ℕ) (o : List Overgrown) → map (λ (x : Overgrown). x.vertex) (moved_stack d l o) ≡ map (λ (x : Overgrown). x.vertex) o
unfolding moved_stack
moved-vertices d l [] = refl
moved-vertices d l (x ∷ xs) = refl

pub moved-count : (d l : ℕ) (o : List Overgrown) → length (moved_stack d l o) ≡ length o
unfolding moved_stack
moved-count d l [] = refl
moved-count d l (x ∷ xs) = refl

moved-tops : (c : State) (d l : ℕ) (o : List Overgrown) → all (over_sound c) o ≡ true
    → ((d == up) ≡ true → top_is (λ a. ltb dual_limit (a + l)) o ≡ false) → all (over_sound c) (moved_stack d l o) ≡ true
unfolding moved_stack top_is all over_sound
moved-tops c d l [] h g = refl
moved-tops c d l (x ∷ xs) h g =
    let top : over_sound c x ≡ true = and_left (over_sound c x) (all (over_sound c) xs) h in
    let amount : x.amount ≤ dual_limit = leb-true _ _ (and_right (nat_lt x.vertex (vertex_count c)) (nat_le x.amount dual_limit) top) in
    both (over_sound c (record { vertex = x.vertex; amount = moved d l x.amount })) (all (over_sound c) xs)
    (both (nat_lt x.vertex (vertex_count c)) (nat_le (moved d l x.amount) dual_limit)
    (and_left (nat_lt x.vertex (vertex_count c)) (nat_le x.amount dual_limit) top)
    (le-leb _ _ (moved-le d l x.amount dual_limit amount (λ e. ltb-false _ _ (g e)))))
    (and_right (over_sound c x) (all (over_sound c) xs) h)

-- accepted growth of an outermost node of a sound state leaves a sound state
pub apply-sound : (c : State) → Shape c → sound c ≡ true → (n d l : ℕ) → n < node_count c → parent_of c n ≡ 0
    → grow_check c n d l ≡ 0 → sound (grow_apply c n d l) ≡ true
apply-sound c z h n d l b outer ok =
    let f : Sound c = sound-facts c h in
    let q : SoundNode c n = f.node n b in
    let own : OwnLists c n = own-facts c n (q.own outer) in
    let small : moved d l (dual_of c n) ≤ dual_limit = moved-le d l (dual_of c n) dual_limit q.dual (λ e. (grow-accepted c n d l e ok).dual) in
    let tops : all (over_sound c) (moved_stack d l (overgrown_of c n)) ≡ true =
    moved-tops c d l (overgrown_of c n) q.overgrown (λ e. (grow-accepted c n d l e ok).top) in
    let growths : (s : ℕ) → s < side_count c → growth_at (grow_apply c n d l) s ≤ growth_limit =
    λ s r.
    by-test (member s (boundary_of c n))
    (λ m. let e : growth_at (grow_apply c n d l) s
    ≡ moved d l (growth_at c s) = apply-in c n d l s own.sides-once (rw z.growth r) m in
    let k : moved d l (growth_at c s) ≤ growth_limit =
    moved-le d l (growth_at c s) growth_limit (f.side s r).growth (λ u. (grow-accepted c n d l u ok).growth s m) in
    omega arith)
    (λ m. let e : growth_at (grow_apply c n d l) s ≡ growth_at c s = apply-out c n d l s m in
    let k : growth_at c s ≤ growth_limit = (f.side s r).growth in
    omega arith) in
    sound-test (grow_apply c n d l)
    (applied-sound c z f n b (moved d l (dual_of c n)) (moved_stack d l (overgrown_of c n)) (grow_apply c n d l)
    (apply-applied c n d l) small tops (moved-vertices d l (overgrown_of c n))
    (moved-count d l (overgrown_of c n)) growths (λ m r. rw (apply-states c n d l) (f.node m r).grow_state))

-- ---- set state

state-applied : (c : State) (n x : ℕ) → Applied n (dual_of c n) (overgrown_of c n) c (with_grow_state c n x)
unfolding with_grow_state with_nodes
state-applied c n x =
    record {
      graph = refl;
      vertices = refl;
      holder = refl;
      grandson = refl;
      class = refl;
      grow_state = length-set c.nodes.grow_state n x;
      parent = refl;
      boundary = refl;
      node_limit = refl;
      store_limit = refl;
      active = refl;
      dual = sym (set-get_or c.nodes.dual n 0);
      overgrown = sym (set-get_or c.nodes.overgrown n []);
    }

state-read : (c : State) (n x m : ℕ) → x ≤ 2 → grow_state_of c m ≤ 2 → grow_state_of (with_grow_state c n x) m ≤ 2
unfolding with_grow_state with_nodes
state-read c n x m h k =
    elim
    (dec_eq m n) [
      | no ne ↦ rw (get_or-set_other c.nodes.grow_state n m x 0 ne) k
      | yes e ↦ elim
          (dec_lt n (length c.nodes.grow_state)) [
            | yes b ↦ rw (e, get_or-set_same c.nodes.grow_state n x 0 b) h
            | no b ↦ rw (set_out c.nodes.grow_state n x (omega arith)) k
          ]
    ]

state-growths : (c : State) (n x s : ℕ) → growth_at (with_grow_state c n x) s ≡ growth_at c s
unfolding with_grow_state with_nodes
state-growths c n x s = refl

pub state-sound : (c : State) → Shape c → sound c ≡ true → (n x : ℕ) → n < node_count c → x ≤ 2 → sound (with_grow_state c n x) ≡ true
state-sound c z h n x b k =
    let f : Sound c = sound-facts c h in
    sound-test (with_grow_state c n x)
    (applied-sound c z f n b (dual_of c n) (overgrown_of c n) (with_grow_state c n x) (state-applied c n x) (f.node n b).dual (f.node n b).overgrown refl refl
    (λ s r. rw (state-growths c n x s) (f.side s r).growth) (λ m r. state-read c n x m k (f.node m r).grow_state))

-- ---- growth by a length above 0, as a call

pub grow-up-sound : (c : State) → Shape c → sound c ≡ true → 1 ≤ vertex_count c → (n l : ℕ) → sound (grow_toward c n up l).state ≡ true
unfolding grow_toward grow_prepared
grow-up-sound c z h v1 n l =
    let e : State = (prepare_node c n up).state in
    unless-cases (λ (r : Reply). sound r.state ≡ true) (node_refusal c n false (store_short c (n ∷ []) 1)) c
    (unless (grow_check e n up l) e (record { answer = Done; state = grow_apply e n up l }))
    (λ ne. unfold says in h)
    (λ ok.
    let a : NodeAccepted c n false (store_short c (n ∷ []) 1) = node-accepted c n false (store_short c (n ∷ []) 1) ok in
    let r : Ready n c e = prepare-up-ready c z h v1 n a.inside a.outer a.room in
    unless-cases (λ (r : Reply). sound r.state ≡ true) (grow_check e n up l) e (record { answer = Done; state = grow_apply e n up l })
    (λ ne. unfold says in r.sounds)
    (λ fine. apply-sound e r.shape r.sounds n up l (rw r.passed.grow_state a.inside)
    (ap (λ (l : List ℕ). slice_index l n) r.passed.parent ∙ a.outer) fine))
