-- Laws of the insertion of a defect.
use Rattle.std.specs.Prelude.{◌≡◌, ℕ, ◌+◌, ◌<◌, ◌≤◌, true, false, not, ◌||◌, ◌≢◌, List, [], ◌∷◌, ◌++◌, length, take, ℤ, pos, ◌==◌, nat_le, nat_lt, slice_index, slice_set}
use Rattle.std.proofs.Common.{add-one, arith, sym, ◌∙◌, take-suc, take_all}
use Rattle.std.proofs.Math.Path.{refl, ap, subst}
use Rattle.std.proofs.Math.Seq.{length-take-le}
use borrow.Author.Tests.{lt-ltb, eq-eqb, ne_eqb, le-leb, lt-leb}
use Rattle.graph.specs.Basic.{fold}
use Rattle.graph.specs.State.{State, NodeClass, defect_vertex, vertex_count, side_count, node_count, sides_at, with_vertices, with_sides, with_holder, with_grandson, with_defect, with_vertex_holder, with_vertex_grandson, with_nodes, with_node, held_side, held_vertex}
use Rattle.graph.specs.Sound.{entries_of, entries, active_sound}
use Rattle.graph.specs.Active.{join_active}
use Rattle.graph.specs.laws.Shape.{sound-active}
use Rattle.graph.specs.laws.Active.{active-kept}
use Rattle.graph.specs.Word.{numbers_at}
use Rattle.graph.specs.Layout.{state_of, class_from}
use Rattle.graph.specs.Form.{Formed}
use Rattle.graph.specs.inner.Form.{Becomes}
use Rattle.graph.specs.laws.Form.{laid-nodes}
use Rattle.graph.specs.inner.Insert.{Inserted}
use Rattle.graph.specs.laws.State.{kept_refl, kept_trans, kept-held-side, fold_more, fold_done, fold-keeps, kept-sides}
use Rattle.graph.specs.inner.Kept.{SameButHolders}
use Rattle.graph.specs.laws.Row.{becomes-none, becomes-then}
use Rattle.graph.specs.laws.SidesAt.{around-of, rising-of}
use Rattle.pass.specs.Scratch.{scratch_of}
use Rattle.pass.specs.inner.Scratch.{wiped}
use Rattle.pass.proofs.laws.Scratch.{hold-first, first-numbers, wipe-first}
use Rattle.answers.specs.Outcome.{Node, Refused}
use Rattle.answers.specs.Answer.{says}
use Rattle.calls.specs.inner.Front.{FrontHolds}
use Rattle.calls.proofs.laws.Front.{front-none, none-front, front-before}
use Rattle.calls.specs.Refuse.{store_short, unless}
use Rattle.calls.specs.Insert.{occupied, defect_refusal, hold_step, defect_put, insert_defect}
use Rattle.calls.specs.inner.Reply.{RepliesInsert, Usable}
use Rattle.calls.proofs.laws.Accepted.{DefectAccepted, defect-accepted, store-room, entries_none}

-- ---- what refuses it

-- a word that stands for a node or none
pub some-node : {h x : ℕ} → h ≡ x → h ≢ 0 → not (x == 0) ≡ true
some-node {h} {x} e n = rw (← e, ne_eqb h 0 n)

pub no_node : {h x : ℕ} → h ≡ x → h ≡ 0 → not (x == 0) ≡ false
no_node {h} {x} e n = rw (← e, eq-eqb h 0 n)

module _ (c : State) (v x : ℕ) where
  pub defect-refusal-3 : nat_le (vertex_count c) v || nat_lt 2 x ≡ true → 3 ≡ defect_refusal c v x
  unfolding defect_refusal
  defect-refusal-3 h = rw h

  module _ (e : nat_le (vertex_count c) v || nat_lt 2 x ≡ false) where
    pub defect-refusal-5 : occupied c v ≡ true → 5 ≡ defect_refusal c v x
    unfolding defect_refusal
    defect-refusal-5 h = rw (e, h)

    module _ (o : occupied c v ≡ false) where
      pub defect-refusal-8 : c.node_limit ≤ node_count c → 8 ≡ defect_refusal c v x
      unfolding defect_refusal
      defect-refusal-8 h = rw (e, o, le-leb c.node_limit (node_count c) h)

      pub defect-refusal-9 : node_count c < c.node_limit → store_short c [] 1 ≡ true → 9 ≡ defect_refusal c v x
      unfolding defect_refusal
      defect-refusal-9 k h = rw (e, o, lt-leb c.node_limit (node_count c) k, h)

      pub defect-refusal-0 : node_count c < c.node_limit → store_short c [] 1 ≡ false → 0 ≡ defect_refusal c v x
      unfolding defect_refusal
      defect-refusal-0 k h = rw (e, o, lt-leb c.node_limit (node_count c) k, h)

-- ---- the sides at the vertex

-- the first i sides at v are held by node n, and stand at the front of the scratch
pub record HeldSides (b₀ b t : List ℤ) (n v i : ℕ) : Type 0 where
  pub inside : v < vertex_count (state_of b₀)
  pub below : i ≤ length (sides_at (state_of b₀) v)
  pub room : length (sides_at (state_of b₀) v) ≤ side_count (state_of b₀)
  pub kept : SameButHolders (state_of b₀) (state_of b)
  pub block : Becomes b₀ b (fold (hold_step n) (state_of b₀) (take i (sides_at (state_of b₀) v)))
  pub holding : FrontHolds t (state_of b₀) (take i (sides_at (state_of b₀) v))

-- no vertex has more sides than there are
pub sides-room : (b : List ℤ) (v : ℕ) → Formed b → v < vertex_count (state_of b) → length (sides_at (state_of b) v) ≤ side_count (state_of b)
sides-room b v f h = let r = around-of b v f.laid (rising-of b f.wired) h in omega (arith, r.size, r.within)

pub held_none : {b t : List ℤ} (n v : ℕ) → Formed b → v < vertex_count (state_of b) → t ≡ scratch_of (state_of b) → HeldSides b b t n v 0
unfolding fold
held_none {b} {t} n v f h e = record {
  inside = h;
  below = omega arith;
  room = sides-room b v f h;
  kept = kept_refl (state_of b);
  block = becomes-none b (state_of b) f refl;
  holding = front-none f e;
}

module _ {b₀ b t : List ℤ} {n v i : ℕ} (q : HeldSides b₀ b t n v i) where
  -- the sides at v are still those
  pub held_same : sides_at (state_of b) v ≡ sides_at (state_of b₀) v
  held_same = kept-sides q.kept v

  pub held_more : {b' : List ℤ} (s : ℕ) → i < length (sides_at (state_of b₀) v) → s ≡ slice_index (sides_at (state_of b₀) v) i
      → Becomes b b' (held_side (state_of b) s n (n + 1)) → HeldSides b₀ b' (slice_set t i (pos s)) n v (i + 1)
  unfolding hold_step
  held_more {b'} s h e x =
      let l : List ℕ = sides_at (state_of b₀) v in
      let m : ℕ = side_count (state_of b₀) in
      let k : length (take i l) ≡ i = length-take-le i l q.below in
      let r : length l ≤ m = q.room in
      let z : held_side (state_of b) s n (n + 1) ≡ fold (hold_step n) (state_of b₀) (take (i + 1) l) =
      rw (q.block.state, e) (sym (fold_more (hold_step n) (state_of b₀) l i 0 h)) in
      let y : take (i + 1) l ≡ take i l ++ (s ∷ []) = rw (add-one, e) (take-suc l i 0 h) in
      let w : FrontHolds (slice_set t i (pos s)) (state_of b₀) (take i l ++ (s ∷ [])) = rw k at (hold-first q.holding s (omega (arith, k, h, r))) in
      record {
        inside = q.inside;
        below = omega (arith, h);
        room = r;
        kept = kept_trans q.kept (rw x.state (kept-held-side (state_of b) s n (n + 1)));
        block = subst (Becomes b₀ b') z (becomes-then q.block x);
        holding = rw y w;
      }

  -- the scratch is as long as it was
  pub held-size : {t₀ : List ℤ} → Formed b₀ → t₀ ≡ scratch_of (state_of b₀) → length t ≡ length t₀
  held-size f e = q.holding.size ∙ sym (front-none f e).size

  pub held-all-block : length (sides_at (state_of b₀) v) ≤ i → Becomes b₀ b (fold (hold_step n) (state_of b₀) (sides_at (state_of b₀) v))
  held-all-block h = rw (← fold_done (hold_step n) (state_of b₀) (sides_at (state_of b₀) v) i h) q.block

  pub held-all-scratch : length (sides_at (state_of b₀) v) ≤ i → FrontHolds t (state_of b₀) (sides_at (state_of b₀) v)
  held-all-scratch h = rw (take_all i (sides_at (state_of b₀) v) h) at q.holding

-- ---- the vertex with its sides

-- the state with node n holding the defect at v and the sides there
abbrev pub held_defect : State → ℕ → ℕ → State
held_defect c v n = fold (hold_step n) (held_vertex (with_defect c v 1) v n (n + 1)) (sides_at c v)

module _ {b₀ b₁ b₂ : List ℤ} (v n : ℕ) (p : Becomes b₀ b₁ (with_defect (state_of b₀) v 1)) (q : Becomes b₁ b₂ (held_vertex (state_of b₁) v n (n + 1))) where
  vertex-state : state_of b₂ ≡ held_vertex (with_defect (state_of b₀) v 1) v n (n + 1)
  vertex-state = q.state ∙ ap (λ (c : State). held_vertex c v n (n + 1)) p.state

  vertex-sides : sides_at (state_of b₂) v ≡ sides_at (state_of b₀) v
  unfolding held_vertex with_vertex_grandson with_vertex_holder with_defect with_vertices
  vertex-sides = ap (λ (c : State). sides_at c v) vertex-state

  pub defect-block : {b₃ : List ℤ} → Becomes b₂ b₃ (fold (hold_step n) (state_of b₂) (sides_at (state_of b₂) v)) → Becomes b₀ b₃ (held_defect (state_of b₀) v n)
  defect-block {b₃} r =
      let z : fold (hold_step n) (state_of b₂) (sides_at (state_of b₂) v) ≡ held_defect (state_of b₀) v n = rw (vertex-sides, vertex-state) in
      subst (Becomes b₀ b₃) z (becomes-then (becomes-then p q) r)

  pub defect-scratch : {t : List ℤ} → FrontHolds t (state_of b₂) (sides_at (state_of b₂) v) → FrontHolds t (state_of b₀) (sides_at (state_of b₀) v)
  defect-scratch h = front-before p (front-before q (rw vertex-sides at h))

  pub defect-count : {l : ℕ} → l ≡ length (sides_at (state_of b₂) v) → l ≡ length (sides_at (state_of b₀) v)
  defect-count e = e ∙ ap (λ (l : List ℕ). length l) vertex-sides

-- ---- the node

-- the graph, the nodes' lists and their number, the limits and the active list are the same
pub record SameLists (c d : State) : Type 0 where
  pub graph : d.graph ≡ c.graph
  pub boundary : d.nodes.boundary ≡ c.nodes.boundary
  pub overgrown : d.nodes.overgrown ≡ c.nodes.overgrown
  pub count : node_count d ≡ node_count c
  pub node_limit : d.node_limit ≡ c.node_limit
  pub store_limit : d.store_limit ≡ c.store_limit
  pub active : d.active ≡ c.active

pub same_refl : (c : State) → SameLists c c
same_refl c = record { graph = refl; boundary = refl; overgrown = refl; count = refl; node_limit = refl; store_limit = refl; active = refl }

same-hold : (n : ℕ) (c d : State) (t : ℕ) → SameLists c d → SameLists c (hold_step n d t)
unfolding hold_step held_side with_grandson with_holder with_sides
same-hold n c d t p =
    record {
      graph = p.graph;
      boundary = p.boundary;
      overgrown = p.overgrown;
      count = p.count;
      node_limit = p.node_limit;
      store_limit = p.store_limit;
      active = p.active;
    }

same-vertex : (n : ℕ) (c : State) (v : ℕ) → SameLists c (held_vertex (with_defect c v 1) v n (n + 1))
unfolding held_vertex with_vertex_grandson with_vertex_holder with_defect with_vertices
same-vertex n c v = record { graph = refl; boundary = refl; overgrown = refl; count = refl; node_limit = refl; store_limit = refl; active = refl }

same-defect : (n : ℕ) (c : State) (v : ℕ) → SameLists c (held_defect c v n)
same-defect n c v = fold-keeps (hold_step n) (SameLists c) (same-hold n c) (held_vertex (with_defect c v 1) v n (n + 1)) (sides_at c v) (same-vertex n c v)

same_entries : {c d : State} → SameLists c d → entries d ≡ entries c
unfolding entries entries_of
same_entries p = rw (p.count, p.boundary, p.overgrown)

-- what joining the active list asks of block b and its node n
abbrev pub Joins : List ℤ → ℕ → Type 0
Joins b n = Formed b × (active_sound (state_of b) ≡ true) × (n < node_count (state_of b))

-- a node n that was put behind the nodes of a state with the number of nodes and the active list of a sound one can join
pub new-joins : (b b₃ b₄ : List ℤ) (d : State) (n : ℕ) → n ≡ node_count (state_of b) → active_sound (state_of b) ≡ true
    → node_count (state_of b₃) ≡ node_count (state_of b) → (state_of b₃).active ≡ (state_of b).active → d.active ≡ (state_of b₃).active → Inserted b₃ b₄ d → Joins b₄ n
new-joins b b₃ b₄ d n en s m q e r =
    let k : node_count (state_of b) ≤ node_count (state_of b₄) = omega (arith, r.nodes, m) in
    let a : (state_of b₄).active ≡ (state_of b).active = ap (λ (c : State). c.active) r.state ∙ e ∙ q in
    (r.formed, active-kept (state_of b) (state_of b₄) a k s, omega (arith, en, r.nodes, m))

pub node-active : (c : State) (class : NodeClass) (x : ℕ) (l : List ℕ) → (with_node c class x l).active ≡ c.active
unfolding with_node with_nodes
node-active c class x l = refl

-- the reply of an insertion, once the node stands and has joined
pub inserted-joined : {b b₃ b₄ b₅ : List ℤ} {c d f : State} {n : ℕ} → Becomes b b₃ c → Inserted b₃ b₄ d → Becomes b₄ b₅ (join_active (state_of b₄) n)
    → n ≡ node_count (state_of b) → d ≡ f
    → RepliesInsert b b₅ (Node n) (record { answer = Node (node_count (state_of b)); state = join_active f (node_count (state_of b)) })
inserted-joined p r a en z = record {
  answer = ap Node en;
  formed = a.formed;
  state = a.state ∙ rw (r.state, z, en) refl;
  vertices = a.vertices ∙ r.vertices ∙ p.vertices;
  edges = a.edges ∙ r.edges ∙ p.edges;
  sides = a.sides ∙ r.sides ∙ p.sides;
  len = a.len ∙ r.len ∙ p.len;
}

class-defect : (m v : ℕ) → v < m → class_from m v ≡ defect_vertex v
unfolding class_from
class-defect m v h = rw (lt-ltb v m h)

module _ {b t : List ℤ} (u : Usable b t) (v x k : ℕ) (e : k ≡ defect_refusal (state_of b) v x) where
  pub defect-refused : k ≢ 0 → RepliesInsert b b (Refused k) (insert_defect (state_of b) v x)
  unfolding insert_defect unless says
  defect-refused h =
      rw (← e, ne_eqb k 0 h)
      (record { answer = refl; formed = u.formed; state = refl; vertices = refl; edges = refl; sides = refl; len = refl })

  module _ (h : k ≡ 0) where
    taken : DefectAccepted (state_of b) v x
    taken = defect-accepted (state_of b) v x (sym e ∙ h)

    pub defect-inside : v < vertex_count (state_of b)
    defect-inside = taken.inside

    pub defect-small : node_count (state_of b) < 1024
    defect-small = omega (arith, taken.count, laid-nodes b u.formed.laid)

    pub defect-class-small : v < 9223372036854775808
    defect-class-small = omega (arith, taken.inside, u.formed.vertices-max)

    pub defect-state-small : x < 9223372036854775808
    defect-state-small = omega (arith, taken.grow_state)

    module _ (n l : ℕ) {b₃ t₃ : List ℤ} (en : n ≡ node_count (state_of b)) (p : Becomes b b₃ (held_defect (state_of b) v n))
        (g : FrontHolds t₃ (state_of b) (sides_at (state_of b) v))
        (el : l ≡ length (sides_at (state_of b) v)) where
      still : SameLists (state_of b) (state_of b₃)
      still = rw p.state (same-defect n (state_of b) v)

      pub defect-count-left : node_count (state_of b₃) < (state_of b₃).node_limit
      defect-count-left = omega (arith, p.nodes, still.node_limit, taken.count)

      pub defect-read : l ≤ length t₃
      defect-read = omega (arith, el, g.keeps, g.size)

      pub defect-room : entries (state_of b₃) + l ≤ (state_of b₃).store_limit
      defect-room = omega (arith, el, g.keeps, same_entries still, still.store_limit, store-room (state_of b) [] 1 taken.room, entries_none (state_of b))

      -- the new node can join the active list
      pub defect-joins : {b₄ : List ℤ} → Inserted b₃ b₄ (with_node (state_of b₃) (class_from (vertex_count (state_of b₃)) v) x (numbers_at t₃ 0 l)) → Joins b₄ n
      defect-joins {b₄} r = new-joins b b₃ b₄ _ n en (sound-active (state_of b) u.sounds) still.count still.active (node-active (state_of b₃) _ x _) r

      pub defect-done : {b₄ b₅ : List ℤ} → Inserted b₃ b₄ (with_node (state_of b₃) (class_from (vertex_count (state_of b₃)) v) x (numbers_at t₃ 0 l))
          → Becomes b₄ b₅ (join_active (state_of b₄) n) → RepliesInsert b b₅ (Node n) (insert_defect (state_of b) v x)
      unfolding insert_defect unless defect_put
      defect-done {b₄} {b₅} r a =
          let y : class_from (vertex_count (state_of b₃)) v ≡ defect_vertex v =
          class-defect (vertex_count (state_of b₃)) v (omega (arith, p.vertices, taken.inside)) in
          let w : numbers_at t₃ 0 l ≡ sides_at (state_of b) v = rw el (first-numbers g) in
          let z : with_node (state_of b₃) (class_from (vertex_count (state_of b₃)) v) x (numbers_at t₃ 0 l)
          ≡ with_node (held_defect (state_of b) v (node_count (state_of b))) (defect_vertex v) x (sides_at (state_of b) v) =
          rw (y, w, p.state, en) in
          rw (← e, eq-eqb k 0 h) (inserted-joined p r a en z)

      pub defect-wiped : {t₅ : List ℤ} → t₅ ≡ wiped t₃ 0 l → t₅ ≡ t
      defect-wiped {t₅} i = i ∙ rw el (none-front u.formed (wipe-first g)) ∙ sym u.scratch
