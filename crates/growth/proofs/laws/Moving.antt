-- Growth number by number and side by side is growth.
use Rattle.std.specs.Prelude.{ℕ, zero, suc, ◌+◌, ◌-◌, ◌≤◌, ◌<◌, ◌≡◌, ◌≢◌, Bool, true, false, List, [], ◌∷◌, ℤ, ltb, length, get_or, take}
use Rattle.std.proofs.Common.{arith, sym, ◌∙◌, take_all, eq-eqb, ne_eqb, ltb-false}
use Rattle.std.proofs.Math.Decide.{ℕ_discrete as dec_eq}
use Rattle.std.proofs.Math.Path.{refl, ap}
use Rattle.std.proofs.lemmas.List.{set-get_or}
use Rattle.graph.specs.Basic.{fold, any, member, distinct}
use Rattle.graph.specs.State.{State, Overgrown, up, growth_at, dual_of, boundary_of, overgrown_of, with_nodes, with_dual, with_overgrown}
use Rattle.graph.specs.Node.{Movable, NodeMovable, moved, moved_top, grown_node, node_at, top_amount, with_top}
use Rattle.graph.specs.declared.dual_node.DualNode.{DualNode}
use Rattle.graph.specs.Layout.{state_of}
use Rattle.graph.specs.Form.{Formed}
use Rattle.graph.specs.inner.Form.{Becomes, sides_ok}
use Rattle.graph.specs.Open.{dual_limit, growth_limit}
use Rattle.graph.specs.laws.State.{fold_more}
use Rattle.graph.specs.laws.Row.{becomes-none, becomes-then}
use Rattle.graph.specs.laws.Members.{by-test, clash, member-at, member-cons, distinct_head, distinct_tail}
use Rattle.growth.specs.Growth.{passes_limit, falls_short, grow_check, top_is, moved_stack, move_side, grow_apply}
use Rattle.growth.specs.inner.Moving.{number_refuses, node_refuses, side_refuses, refuses, move_node, TopMoves, TopPut, SidesMovable, Growing, PreparedToMove}
use Rattle.growth.proofs.laws.Accepted.{GrowAccepted, grow-accepted, ShrinkAccepted, shrink-accepted}
use Rattle.growth.proofs.laws.Growth.{sides-moved, move-out}

-- ---- what refuses it

module _ (c : State) (n d l : ℕ) where
  pub refused-10 : d ≡ up → any (side_refuses c n l 10) (boundary_of c n) ≡ true → 10 ≡ grow_check c n d l
  unfolding grow_check side_refuses
  refused-10 e h = rw (e, h)

  pub refused-12 : d ≡ up → any (side_refuses c n l 10) (boundary_of c n) ≡ false → refuses c n l 12 ≡ true → 12 ≡ grow_check c n d l
  unfolding grow_check side_refuses refuses node_refuses number_refuses passes_limit
  refused-12 e h k = rw (e, h, k)

  pub grown-up : d ≡ up → any (side_refuses c n l 10) (boundary_of c n) ≡ false → refuses c n l 12 ≡ false → 0 ≡ grow_check c n d l
  unfolding grow_check side_refuses refuses node_refuses number_refuses passes_limit
  grown-up e h k = rw (e, h, k)

  pub refused-11 : d ≢ up → refuses c n l 11 ≡ true → 11 ≡ grow_check c n d l
  unfolding grow_check side_refuses refuses node_refuses number_refuses falls_short
  refused-11 e k = rw (ne_eqb d up e, k)

  pub grown-down : d ≢ up → refuses c n l 11 ≡ false → 0 ≡ grow_check c n d l
  unfolding grow_check side_refuses refuses node_refuses number_refuses falls_short
  grown-down e k = rw (ne_eqb d up e, k)

pub top-none : (p : ℕ → Bool) (o : List Overgrown) → length o ≡ 0 → top_is p o ≡ false
unfolding top_is
top-none p [] h = refl
top-none p (x ∷ o) h = absurd (omega arith)

pub top-some : (p : ℕ → Bool) (o : List Overgrown) → length o ≢ 0 → top_is p o ≡ p (top_amount o)
unfolding top_is top_amount
top-some p [] h = absurd (h refl)
top-some p (x ∷ o) h = refl

-- ---- what is not refused can be moved

moved_up : (d l x : ℕ) → d ≡ up → moved d l x ≡ x + l
unfolding moved
moved_up d l x e = rw e

moved_down : (d l x : ℕ) → d ≢ up → moved d l x ≡ x - l
unfolding moved
moved_down d l x e = rw (ne_eqb d up e)

pub growing-of : (c : State) (n d l : ℕ) → PreparedToMove c n → grow_check c n d l ≡ 0 → Growing c n d l
growing-of c n d l p ok =
    elim (dec_eq d up) [
      | yes e ↦
          let g : GrowAccepted c n l = grow-accepted c n d l (eq-eqb d up e) ok in
          let top : length (overgrown_of c n) ≢ 0 → top_amount (overgrown_of c n) + l ≤ dual_limit =
          λ h. ltb-false _ _ (sym (top-some (λ a. ltb dual_limit (a + l)) (overgrown_of c n) h) ∙ g.top) in
          record {
            dual = record { rises = λ u. omega (arith, g.dual); falls = λ u. absurd (u e) };
            dual-small = rw (moved_up d l (dual_of c n) e) g.dual;
            top = record { movable = λ h. record { rises = λ u. omega (arith, top h); falls = λ u. absurd (u e) }; small = λ u h. top h };
            each = record {
              sides = p.sides;
              once = p.once;
              side = λ s m. record { rises = λ u. omega (arith, g.growth s m); falls = λ u. absurd (u e) };
              side-small = λ s m. rw (moved_up d l (growth_at c s) e) (g.growth s m);
            };
          }
      | no e ↦
          let g : ShrinkAccepted c n l = shrink-accepted c n d l (ne_eqb d up e) ok in
          let top : length (overgrown_of c n) ≢ 0 → l ≤ top_amount (overgrown_of c n) =
          λ h. ltb-false _ _ (sym (top-some (λ a. ltb a l) (overgrown_of c n) h) ∙ g.top) in
          record {
            dual = record { rises = λ u. absurd (e u); falls = λ u. g.dual };
            dual-small = rw (moved_down d l (dual_of c n) e) (omega (arith, p.readable.duals n));
            top = record { movable = λ h. record { rises = λ u. absurd (e u); falls = λ u. top h }; small = λ u h. absurd (e u) };
            each = record {
              sides = p.sides;
              once = p.once;
              side = λ s m. record { rises = λ u. absurd (e u); falls = λ u. g.growth s m };
              side-small = λ s m. rw (moved_down d l (growth_at c s) e) (omega (arith, p.readable.growths s));
            };
          }
    ]

-- ---- the node

stack-moved : (d l : ℕ) (o : List Overgrown) → with_top (moved_top d l (length o) (top_amount o)) o ≡ moved_stack d l o
unfolding with_top moved_top top_amount moved_stack
stack-moved d l [] = refl
stack-moved d l (x ∷ o) = rw (ne_eqb (suc (length o)) 0 (λ e. absurd (omega arith)))

top-fits : (c : State) (n d l : ℕ) → TopMoves c n d l → length (overgrown_of c n) ≢ 0
    → top_amount (overgrown_of c n) < 9007199254740992
    → moved_top d l (length (overgrown_of c n)) (top_amount (overgrown_of c n)) < 9007199254740992
unfolding moved_top
top-fits c n d l g h k =
    rw (ne_eqb (length (overgrown_of c n)) 0 h)
    (elim (dec_eq d up) [
      | yes e ↦ rw (moved_up d l (top_amount (overgrown_of c n)) e) (omega (arith, g.small e h))
      | no e ↦ rw (moved_down d l (top_amount (overgrown_of c n)) e) (omega (arith, k))
    ])

-- a stack without entries is put back as it is
pub top-still : (b : List ℤ) (n : ℕ) (x : DualNode) → Formed b → TopPut (state_of b) n x → x.overgrown ≡ 0
    → Becomes b b (with_overgrown (state_of b) n (with_top x.top (overgrown_of (state_of b) n)))
unfolding with_overgrown with_nodes with_top
top-still b n x f p h =
    let e : with_top x.top (overgrown_of (state_of b) n) ≡ overgrown_of (state_of b) n = none (overgrown_of (state_of b) n) (sym p.stack ∙ h) in
    becomes-none b _ f (sym (rw (e, set-get_or (state_of b).nodes.overgrown n [])))
  where
    none : (o : List Overgrown) → length o ≡ 0 → with_top x.top o ≡ o
    none [] k = refl
    none (y ∷ o) k = absurd (omega arith)

-- node n can be grown as a record, and the record handed back
module _ (c : State) (n d l : ℕ) (g : Growing c n d l) where
  pub node-movable : NodeMovable d l (node_at c n)
  unfolding node_at
  node-movable = record { dual = g.dual; top = g.top.movable }

  module _ {x : DualNode} (e : x ≡ grown_node d l (node_at c n)) where
    grown-dual : x.dual ≡ moved d l (dual_of c n)
    unfolding grown_node node_at
    grown-dual = ap (λ (y : DualNode). y.dual) e

    grown-stack : x.overgrown ≡ length (overgrown_of c n)
    unfolding grown_node node_at
    grown-stack = ap (λ (y : DualNode). y.overgrown) e

    grown-top : x.top ≡ moved_top d l (length (overgrown_of c n)) (top_amount (overgrown_of c n))
    unfolding grown_node node_at
    grown-top = ap (λ (y : DualNode). y.top) e

    pub grown-small : x.dual < 9223372036854775808
    grown-small = rw grown-dual (omega (arith, g.dual-small))

    pub grown-put : (node_at c n).top < 9007199254740992 → TopPut (with_dual c n x.dual) n x
    unfolding with_dual with_nodes node_at
    grown-put k = record { stack = grown-stack; small = λ h. rw grown-top (top-fits c n d l g.top (λ z. h (grown-stack ∙ z)) k) }

    grown-state : with_overgrown (with_dual c n x.dual) n (with_top x.top (overgrown_of (with_dual c n x.dual) n)) ≡ move_node c n d l
    unfolding move_node with_dual with_nodes
    grown-state = rw (grown-dual, grown-top, stack-moved d l (overgrown_of c n))

    pub dual-then-top : {b₀ b₁ b : List ℤ} → Becomes b₀ b₁ (with_dual c n x.dual)
        → Becomes b₁ b (with_overgrown (state_of b₁) n (with_top x.top (overgrown_of (state_of b₁) n)))
        → Becomes b₀ b (move_node c n d l)
    dual-then-top p q = rw (← grown-state) (becomes-then p (rw p.state at q))

-- ---- the sides

before-not : (l : List ℕ) (i : ℕ) → distinct l ≡ true → i < length l → member (get_or l i 0) (take i l) ≡ false
before-not [] i h k = absurd (omega arith)
before-not (x ∷ l) zero h k = unfold member any in refl
before-not (x ∷ l) (suc i) h k =
    by-test (member (get_or l i 0) (x ∷ take i l))
    (λ e. member-cons (get_or l i 0) x (take i l) e
    (λ q. clash (member x l) (rw q at (member-at l i 0 (omega arith))) (distinct_head x l h))
    (λ m. clash (member (get_or l i 0) (take i l)) m (before-not l i (distinct_tail x l h) (omega arith))))
    (λ e. e)

-- the state when the first i sides are moved
abbrev pub moved_to : State → ℕ → ℕ → ℕ → ℕ → State
moved_to c n d l i = fold (move_side d l) c (take i (boundary_of c n))

moved-boundary : (c : State) (n d l i : ℕ) → boundary_of (moved_to c n d l i) n ≡ boundary_of c n
moved-boundary c n d l i = ap (λ x. get_or x.boundary n []) (sides-moved c d l (take i (boundary_of c n))).nodes

module _ (b₀ b : List ℤ) (n d l i : ℕ) (p : Becomes b₀ b (moved_to (state_of b₀) n d l i)) where
  pub same-boundary : boundary_of (state_of b) n ≡ boundary_of (state_of b₀) n
  same-boundary = rw p.state (moved-boundary (state_of b₀) n d l i)

  pub same-sides : sides_ok (state_of b₀) n ≡ true → sides_ok (state_of b) n ≡ true
  unfolding sides_ok
  same-sides h = rw (same-boundary, p.sides) h

  module _ (g : SidesMovable (state_of b₀) n d l) (k : i < length (boundary_of (state_of b₀) n)) where
    same-growth : growth_at (state_of b) (get_or (boundary_of (state_of b₀) n) i 0) ≡ growth_at (state_of b₀) (get_or (boundary_of (state_of b₀) n) i 0)
    same-growth = rw p.state (move-out d l (state_of b₀) (take i (boundary_of (state_of b₀) n)) _ (before-not (boundary_of (state_of b₀) n) i g.once k))

    pub next-movable : (s : ℕ) → s ≡ get_or (boundary_of (state_of b) n) i 0 → Movable d l (growth_at (state_of b) s)
    next-movable s e = rw (e, same-boundary, same-growth) (g.side _ (member-at (boundary_of (state_of b₀) n) i 0 k))

    pub next_small : (s : ℕ) → s ≡ get_or (boundary_of (state_of b) n) i 0 → moved d l (growth_at (state_of b) s) < 9223372036854775808
    next_small s e =
        rw (e, same-boundary, same-growth)
        (let h : moved d l (growth_at (state_of b₀) (get_or (boundary_of (state_of b₀) n) i 0))
        ≤ growth_limit = g.side-small _ (member-at (boundary_of (state_of b₀) n) i 0 k) in
        omega arith)

    pub next-moved : (b' : List ℤ) (s : ℕ) → s ≡ get_or (boundary_of (state_of b) n) i 0
        → Becomes b b' (move_side d l (state_of b) s) → Becomes b₀ b' (moved_to (state_of b₀) n d l (i + 1))
    next-moved b' s e q = record {
      formed = q.formed;
      state = q.state ∙ rw (e, same-boundary, p.state) (sym (fold_more (move_side d l) (state_of b₀) (boundary_of (state_of b₀) n) i 0 k));
      vertices = q.vertices ∙ p.vertices;
      edges = q.edges ∙ p.edges;
      sides = q.sides ∙ p.sides;
      nodes = q.nodes ∙ p.nodes;
      len = q.len ∙ p.len;
    }

-- before and after
pub none-moved : (b : List ℤ) (n d l : ℕ) → Formed b → Becomes b b (moved_to (state_of b) n d l 0)
unfolding fold
none-moved b n d l f = record { formed = f; state = refl; vertices = refl; edges = refl; sides = refl; nodes = refl; len = refl }

pub all_moved : (b₀ b : List ℤ) (n d l i : ℕ) → length (boundary_of (state_of b₀) n) ≤ i
    → Becomes b₀ b (moved_to (state_of b₀) n d l i)
    → Becomes b₀ b (fold (move_side d l) (state_of b₀) (boundary_of (state_of b₀) n))
all_moved b₀ b n d l i h p = rw (take_all i (boundary_of (state_of b₀) n) h) at p

-- the sides after the node
pub sides-after : (c : State) (n d l : ℕ) → SidesMovable c n d l → SidesMovable (move_node c n d l) n d l
unfolding move_node with_dual with_overgrown with_nodes sides_ok
sides-after c n d l g = record { sides = g.sides; once = g.once; side = g.side; side-small = g.side-small }

pub node-then-sides : (b₀ b₁ b : List ℤ) (n d l : ℕ) → Becomes b₀ b₁ (move_node (state_of b₀) n d l)
    → Becomes b₁ b (fold (move_side d l) (state_of b₁) (boundary_of (state_of b₁) n))
    → Becomes b₀ b (grow_apply (state_of b₀) n d l)
unfolding grow_apply move_node with_dual with_overgrown with_nodes
node-then-sides b₀ b₁ b n d l p q = record {
  formed = q.formed;
  state = q.state ∙ rw p.state;
  vertices = q.vertices ∙ p.vertices;
  edges = q.edges ∙ p.edges;
  sides = q.sides ∙ p.sides;
  nodes = q.nodes ∙ p.nodes;
  len = q.len ∙ p.len;
}
