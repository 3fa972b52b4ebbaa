-- What growth changes of what the history has: one node's dual variable; a round: those of all nodes that are not in Stay.
use Rattle.std.specs.Prelude.{ℕ, suc, ◌+◌, ◌-◌, ◌≤◌, ◌<◌, ◌≡◌, ◌≢◌, List, [], ◌∷◌, pos, negsuc, ◌+ℤ◌, eqb, length, get_or}
use Rattle.std.proofs.Common.{arith, sym, ◌∙◌, get_or-set_same, get_or-set_other, le-ltb}
use Rattle.std.proofs.Math.Path.{refl, ap}
use Rattle.std.proofs.Math.Bool.{true, false}
use Rattle.graph.specs.Basic.{fold, member, distinct}
use Rattle.graph.specs.State.{State, Nodes, node_count, grow_state_of, dual_of, boundary_of, overgrown_of, with_active, with_nodes, with_dual, with_overgrown, growing, shrinking, up, down}
use Rattle.graph.specs.Node.{moved}
use Rattle.graph.specs.Active.{renewed, active_in}
use Rattle.graph.specs.laws.Members.{by-test, clash, member-head, member-tail, member-cons, member-nil, distinct_head, distinct_tail}
use Rattle.graph.specs.laws.Shape.{sound-active}
use Rattle.graph.specs.Shape.{Shape}
use Rattle.graph.specs.laws.Active.{active-in, in-active, active-in-once}
use Rattle.pass.specs.Prepare.{prepare_node}
use Rattle.pass.proofs.laws.Passes.{Passed}
use Rattle.pass.proofs.laws.Prepare.{prepare-passed}
use Rattle.answers.specs.Answer.{Reply}
use Rattle.growth.specs.Growth.{grow_check, moved_stack, grow_apply}
use Rattle.growth.proofs.laws.Accepted.{shrink-accepted}
use Rattle.growth.proofs.laws.Growth.{Moved, sides-moved}
use Rattle.calls.specs.Refuse.{node_refusal, store_short}
use Rattle.calls.specs.Calls.{grow_prepared, grow_toward}
use Rattle.calls.specs.Round.{refusal_of, try_all, moving, moved_all}
use Rattle.calls.proofs.laws.Accepted.{node-accepted}
use Rattle.calls.proofs.laws.Shapes.{shape-toward}
use Rattle.calls.proofs.laws.Trial.{unless-accepted, begun, Stepped, try-step, Turned, turn-accepted}
use Rattle.reachable.specs.Invariant.{Invariant}
use Rattle.reachable.specs.laws.Active.{renewed-invariant}

-- d is c with the dual variable z at node n
pub record Changed (n z : ℕ) (c d : State) : Type 0 where
  pub graph : d.graph ≡ c.graph
  pub class : d.nodes.class ≡ c.nodes.class
  pub grow_state : d.nodes.grow_state ≡ c.nodes.grow_state
  pub parent : d.nodes.parent ≡ c.nodes.parent
  pub here : dual_of d n ≡ z
  pub there : (m : ℕ) → m ≢ n → dual_of d m ≡ dual_of c m

pub changed-none : (n : ℕ) (c : State) → Changed n (dual_of c n) c c
changed-none n c = record { graph = refl; class = refl; grow_state = refl; parent = refl; here = refl; there = λ m ne. refl }

-- growth changes the node's dual variable
pub growth-changes : (c : State) (n d l : ℕ) → n < length c.nodes.dual → Changed n (moved d l (dual_of c n)) c (grow_apply c n d l)
unfolding grow_apply with_overgrown with_dual with_nodes
growth-changes c n d l b =
    let y : ℕ = moved d l (dual_of c n) in
    let s : State = with_overgrown (with_dual c n y) n (moved_stack d l (overgrown_of c n)) in
    let m : Moved s (grow_apply c n d l) = sides-moved s d l (boundary_of c n) in
    record {
      graph = m.graph;
      class = ap (λ (x : Nodes). x.class) m.nodes;
      grow_state = ap (λ (x : Nodes). x.grow_state) m.nodes;
      parent = ap (λ (x : Nodes). x.parent) m.nodes;
      here = ap (λ (x : Nodes). get_or x.dual n 0) m.nodes ∙ get_or-set_same c.nodes.dual n y 0 b;
      there = λ k ne. ap (λ (x : Nodes). get_or x.dual k 0) m.nodes ∙ get_or-set_other c.nodes.dual n k y 0 ne;
    }

-- a natural number and a negative one within it
pub pos-minus : (y l : ℕ) → suc l ≤ y → pos y +ℤ negsuc l ≡ pos (y - suc l)
pos-minus y l h = rw (le-ltb y (suc l) h) refl

-- ---- one node of a round

-- node n grew: its dual variable moved, and had been enough
pub record GrownBy (d l n : ℕ) (c c' : State) : Type 0 where
  pub changed : Changed n (moved d l (dual_of c n)) c c'
  pub falls : eqb d up ≡ false → l ≤ dual_of c n

pub toward-grown : (c : State) → Shape c → (n d l : ℕ) → refusal_of (grow_toward c n d l).answer ≡ 0 → GrownBy d l n c (grow_toward c n d l).state
unfolding grow_toward grow_prepared
toward-grown c z n d l h =
    let b : State = (prepare_node c n d).state in
    let p : Passed n c b = prepare-passed c n d in
    let u = unless-accepted (node_refusal c n false (store_short c (n ∷ []) 1)) c _ h in
    let v = unless-accepted (grow_check b n d l) b _ (ap (λ (r : Reply). refusal_of r.answer) (sym u.1) ∙ h) in
    let hn : n < node_count c = (node-accepted c n false (store_short c (n ∷ []) 1) u.0).inside in
    let t : Changed n (moved d l (dual_of b n)) b (grow_apply b n d l) = growth-changes b n d l (rw (p.dual, z.dual) hn) in
    let y : dual_of b n ≡ dual_of c n = ap (λ (k : List ℕ). get_or k n 0) p.dual in
    rw (u.1 ∙ v.1) (record {
      changed = record {
        graph = t.graph ∙ p.graph;
        class = t.class ∙ p.class;
        grow_state = t.grow_state ∙ p.grow_state;
        parent = t.parent ∙ p.parent;
        here = t.here ∙ ap (moved d l) y;
        there = λ m ne. t.there m ne ∙ ap (λ (k : List ℕ). get_or k m 0) p.dual;
      };
      falls = λ x. rw (← y) (shrink-accepted b n d l x v.0).dual;
    })

-- ---- the nodes ns one after another

pub record EachMoved (d l : ℕ) (ns : List ℕ) (c c' : State) : Type 0 where
  pub shape : Shape c'
  pub graph : c'.graph ≡ c.graph
  pub class : c'.nodes.class ≡ c.nodes.class
  pub grow_state : c'.nodes.grow_state ≡ c.nodes.grow_state
  pub parent : c'.nodes.parent ≡ c.nodes.parent
  pub inside : (n : ℕ) → member n ns ≡ true → dual_of c' n ≡ moved d l (dual_of c n)
  pub falls : eqb d up ≡ false → (n : ℕ) → member n ns ≡ true → l ≤ dual_of c n
  pub outside : (n : ℕ) → member n ns ≡ false → dual_of c' n ≡ dual_of c n

pub each-moved : (d l : ℕ) (ns : List ℕ) (c : State) → Shape c → distinct ns ≡ true
    → (try_all (moving d l) (begun c) ns).refusal ≡ 0 → EachMoved d l ns c (try_all (moving d l) (begun c) ns).state
each-moved d l [] c z w h =
    unfold try_all fold in
    (record {
      shape = z;
      graph = refl;
      class = refl;
      grow_state = refl;
      parent = refl;
      inside = λ n m. member-nil n m;
      falls = λ x n m. member-nil n m;
      outside = λ n m. refl;
    })
each-moved d l (n ∷ ns) c z w h =
    let s : Stepped (moving d l) c n ns = try-step (moving d l) c n ns h in
    let c₁ : State = (grow_toward c n d l).state in
    let g : GrownBy d l n c c₁ = toward-grown c z n d l (unfold moving in s.first) in
    let e = s.next in
    let step : try_all (moving d l) (begun c) (n ∷ ns) ≡ try_all (moving d l) (begun c₁) ns = unfold moving in e in
    let r : EachMoved d l ns c₁ (try_all (moving d l) (begun c₁) ns).state =
    each-moved d l ns c₁ (shape-toward c n d l z) (distinct_tail n ns w) (rw step at h) in
    let out : member n ns ≡ false = distinct_head n ns w in
    let other : (m : ℕ) → member m ns ≡ true → m ≢ n = λ m i k. clash (member n ns) (rw k at i) out in
    rw step (record {
      shape = r.shape;
      graph = r.graph ∙ g.changed.graph;
      class = r.class ∙ g.changed.class;
      grow_state = r.grow_state ∙ g.changed.grow_state;
      parent = r.parent ∙ g.changed.parent;
      inside = λ m i. member-cons m n ns i
          (λ k. rw k (r.outside n out ∙ g.changed.here))
          (λ k. r.inside m k ∙ ap (moved d l) (g.changed.there m (other m k)));
      falls = λ x m i. member-cons m n ns i
          (λ k. rw k (g.falls x))
          (λ k. rw (← g.changed.there m (other m k)) (r.falls x m k));
      outside = λ m i.
          let ne : m ≢ n = λ k. clash (member m (n ∷ ns)) (rw k (member-head n ns)) i in
          let o : member m ns ≡ false = by-test (member m ns) (λ k. clash (member m (n ∷ ns)) (member-tail m n ns k) i) (λ k. k) in
          r.outside m o ∙ g.changed.there m ne;
    })

-- ---- the round

-- every Grow node moved up by l, every Shrink node down, no other
pub record AllMoved (l : ℕ) (c c' : State) : Type 0 where
  pub graph : c'.graph ≡ c.graph
  pub class : c'.nodes.class ≡ c.nodes.class
  pub grow_state : c'.nodes.grow_state ≡ c.nodes.grow_state
  pub parent : c'.nodes.parent ≡ c.nodes.parent
  pub grow : (n : ℕ) → n < node_count c → grow_state_of c n ≡ growing → dual_of c' n ≡ dual_of c n + l
  pub shrink : (n : ℕ) → n < node_count c → grow_state_of c n ≡ shrinking → dual_of c' n ≡ dual_of c n - l
  pub falls : (n : ℕ) → n < node_count c → grow_state_of c n ≡ shrinking → l ≤ dual_of c n
  pub other : (n : ℕ) → n < node_count c → grow_state_of c n ≢ growing → grow_state_of c n ≢ shrinking → dual_of c' n ≡ dual_of c n

pub round-moved : (c : State) → Invariant c → (l : ℕ) → (moved_all l c).refusal ≡ 0 → AllMoved l c (moved_all l c).state
unfolding moved_all
round-moved c g l h =
    let r : State = renewed c in
    let gr : Invariant r = renewed-invariant c g in
    let ms : List ℕ = active_in r shrinking in
    let ns : List ℕ = active_in r growing in
    let t : Turned (moving down l) (moving up l) c = turn-accepted (moving down l) (moving up l) c h in
    let a : State = (try_all (moving down l) (begun r) ms).state in
    let p : EachMoved down l ms r a = each-moved down l ms r gr.shape (active-in-once r shrinking (sound-active r gr.sounds)) t.shrunk in
    let q : EachMoved up l ns a (try_all (moving up l) (begun a) ns).state =
    each-moved up l ns a p.shape (active-in-once r growing (sound-active r gr.sounds)) t.grown in
    rw t.state (record {
      graph = q.graph ∙ p.graph ∙ same.0;
      class = q.class ∙ p.class ∙ same.1;
      grow_state = q.grow_state ∙ p.grow_state ∙ same.2;
      parent = q.parent ∙ p.parent ∙ same.3;
      grow = λ n b e. q.inside n (listed gr n b growing (λ z. omega arith) e) ∙ up_by (dual_of a n)
          ∙ ap (λ y. y + l) (p.outside n (unlisted n shrinking growing e (λ z. omega arith)) ∙ duals n);
      shrink = λ n b e. q.outside n (unlisted n growing shrinking e (λ z. omega arith))
          ∙ p.inside n (listed gr n b shrinking (λ z. omega arith) e) ∙ down_by (dual_of r n) ∙ ap (λ y. y - l) (duals n);
      falls = λ n b e. rw (← duals n) (p.falls refl n (listed gr n b shrinking (λ z. omega arith) e));
      other = λ n b x y. q.outside n (unlisted' n growing x) ∙ p.outside n (unlisted' n shrinking y) ∙ duals n;
    })
  where
    up_by : (y : ℕ) → moved up l y ≡ y + l
    up_by y = unfold moved in refl

    down_by : (y : ℕ) → moved down l y ≡ y - l
    down_by y = unfold moved in refl

    same : ((renewed c).graph ≡ c.graph) × ((renewed c).nodes.class ≡ c.nodes.class)
        × ((renewed c).nodes.grow_state ≡ c.nodes.grow_state) × ((renewed c).nodes.parent ≡ c.nodes.parent)
    same = unfold renewed with_active in ((refl, refl, refl, refl))

    duals : (n : ℕ) → dual_of (renewed c) n ≡ dual_of c n
    duals n = unfold renewed with_active in refl

    states : (n : ℕ) → grow_state_of (renewed c) n ≡ grow_state_of c n
    states n = unfold renewed with_active in refl

    listed : Invariant (renewed c) → (n : ℕ) → n < node_count c → (x : ℕ) → x ≢ 0 → grow_state_of c n ≡ x → member n (active_in (renewed c) x) ≡ true
    listed gr n b x ne e = in-active (renewed c) x n (gr.active-all n (rw same.2 b) (λ z. ne (sym e ∙ sym (states n) ∙ z))) (states n ∙ e)

    unlisted' : (n x : ℕ) → grow_state_of c n ≢ x → member n (active_in (renewed c) x) ≡ false
    unlisted' n x ne = by-test (member n (active_in (renewed c) x)) (λ i. absurd (ne (sym (states n) ∙ (active-in (renewed c) x n i).1))) (λ i. i)

    unlisted : (n x y : ℕ) → grow_state_of c n ≡ y → y ≢ x → member n (active_in (renewed c) x) ≡ false
    unlisted n x y e ne = unlisted' n x (λ z. ne (sym e ∙ z))
