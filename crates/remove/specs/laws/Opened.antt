-- Laws behind the opened state.
use Rattle.std.specs.Prelude.{ℕ, ◌+◌, ◌-◌, ◌≤◌, ◌<◌, ◌≡◌, refl, true, false, ℤ, length, take, drop, if◌then◌else◌}
use native.Mathlib.Omega.{arith}
use Rattle.std.proofs.Math.Numerals.{add-one}
use Rattle.std.proofs.Common.{sym, ◌∙◌, subst}
use Rattle.std.proofs.Math.Path.{ap}
use mathlib.Core.List.{List, []}
use Rattle.std.proofs.Math.Dec.{eqb}
use Rattle.std.proofs.Math.ListN.{get_or}
use Rattle.std.proofs.Math.Seq.{drop-length}
use Rattle.graph.specs.Basic.{fold, only, below}
use Rattle.graph.specs.State.{State, Nodes, node_count, parent_of, boundary_of, overgrown_of, removed, with_sides, with_holder, with_parent, with_class, with_grow_state}
use Rattle.graph.specs.Form.{Formed}
use Rattle.graph.specs.inner.Form.{Becomes, sides_ok}
use Rattle.graph.specs.Sound.{entries, entries_of}
use Rattle.graph.specs.Word.{numbers_at}
use Rattle.graph.specs.Layout.{stack_from, state_of}
use Rattle.graph.specs.inner.Replace.{with_lists}
use Rattle.graph.specs.laws.State.{if-both, fold-keeps, fold_more, fold_done, fold-snoc}
use Rattle.graph.specs.laws.Members.{by-test}
use Rattle.graph.specs.laws.Row.{becomes-then, becomes-none}
use Rattle.graph.specs.laws.Used.{entries-within}
use Rattle.active_list.specs.laws.Renewal.{only-snoc}
use Rattle.calls.specs.Remove.{members_of, unheld, free_step, return_step, member_step, removed_node, opened_blossom}
use Rattle.calls.proofs.laws.Remove.{one-rest, one-parent-off}
use Rattle.remove.specs.inner.Stops.{SidesIn, is_member}
use Rattle.remove.specs.inner.Opened.{set_holder}

-- ---- lists that hold sides

-- another block with the same lists and as many nodes and sides
pub sides-in : {b₀ b : List ℤ} {d : State} → Becomes b₀ b d → (state_of b).nodes.boundary ≡ (state_of b₀).nodes.boundary
    → SidesIn (state_of b₀) → SidesIn (state_of b)
unfolding sides_ok
sides-in p e f m h = rw (p.sides, e) (f m (omega (arith, p.nodes, h)))

-- the entries fit the store, those of one node counted twice
pub entries_fit : {b : List ℤ} → Formed b → (n : ℕ) → entries (state_of b) + 0 ≤ (state_of b).store_limit + entries_of (state_of b) n
entries_fit {b} f n = omega (arith, entries-within b f.laid f.listed)

-- ---- the sides of one node get another holder

abbrev holders : ℕ → State → List ℕ → State
holders x c l = fold (set_holder x) c l

holders-nodes : (x : ℕ) (c : State) (l : List ℕ) → (holders x c l).nodes ≡ c.nodes
unfolding set_holder with_holder with_sides
holders-nodes x c l = fold-keeps (set_holder x) (λ (d : State). d.nodes ≡ c.nodes) (λ d s e. e) c l refl

pub holders-lists : {b₀ b : List ℤ} (x : ℕ) (l : List ℕ) → Becomes b₀ b (fold (set_holder x) (state_of b₀) l)
    → (state_of b).nodes.boundary ≡ (state_of b₀).nodes.boundary
holders-lists {b₀} x l p = ap (λ (c : State). c.nodes.boundary) p.state ∙ ap (λ (y : Nodes). y.boundary) (holders-nodes x (state_of b₀) l)

pub record HoldersSet (b₀ b : List ℤ) (n x i : ℕ) : Type 0 where
  pub block : Becomes b₀ b (fold (set_holder x) (state_of b₀) (take i (boundary_of (state_of b₀) n)))
  pub within : i ≤ length (boundary_of (state_of b₀) n)

pub set-none : {b : List ℤ} (n x : ℕ) → Formed b → HoldersSet b b n x 0
unfolding fold
set-none {b} n x f = record { block = becomes-none b (state_of b) f refl; within = omega arith }

module _ {b₀ b : List ℤ} {n x i : ℕ} (p : HoldersSet b₀ b n x i) where
  set-nodes : (state_of b).nodes ≡ (state_of b₀).nodes
  set-nodes = ap (λ (c : State). c.nodes) p.block.state ∙ holders-nodes x (state_of b₀) (take i (boundary_of (state_of b₀) n))

  pub set-lists : (state_of b).nodes.boundary ≡ (state_of b₀).nodes.boundary
  set-lists = ap (λ (y : Nodes). y.boundary) set-nodes

  pub set-list : boundary_of (state_of b) n ≡ boundary_of (state_of b₀) n
  set-list = ap (λ (l : List (List ℕ)). get_or l n []) set-lists

  pub set_more : {b' : List ℤ} (s : ℕ) → i < length (boundary_of (state_of b₀) n) → s ≡ get_or (boundary_of (state_of b) n) i 0
      → Becomes b b' (with_holder (state_of b) s x) → HoldersSet b₀ b' n x (i + 1)
  unfolding set_holder
  set_more {b'} s h e q =
      let z : s ≡ get_or (boundary_of (state_of b₀) n) i 0 = e ∙ ap (λ (l : List ℕ). get_or l i 0) set-list in
      let w : with_holder (state_of b) s x ≡ fold (set_holder x) (state_of b₀) (take (i + 1) (boundary_of (state_of b₀) n)) =
      rw (p.block.state, z) (sym (fold_more (set_holder x) (state_of b₀) (boundary_of (state_of b₀) n) i 0 h)) in
      record { block = becomes-then p.block (subst (Becomes b b') w q); within = omega arith }

  pub set_all : length (boundary_of (state_of b₀) n) ≤ i → Becomes b₀ b (fold (set_holder x) (state_of b₀) (boundary_of (state_of b₀) n))
  set_all h = rw (← fold_done (set_holder x) (state_of b₀) (boundary_of (state_of b₀) n) i h) p.block

-- ---- a member holds its sides again

pub member-returned : {b₀ b b' : List ℤ} (m : ℕ) → Becomes b₀ b (fold (set_holder (m + 1)) (state_of b₀) (boundary_of (state_of b₀) m))
    → Becomes b b' (with_parent (state_of b) m 0) → Becomes b₀ b' (member_step (state_of b₀) m)
unfolding member_step return_step set_holder
member-returned {b₀} {b} {b'} m p q =
    becomes-then p (subst (Becomes b b') (ap (λ (c : State). with_parent c m 0) p.state) q)

pub node-returned : {b₀ b : List ℤ} (n m : ℕ) → is_member (state_of b₀) n m ≡ true → Becomes b₀ b (member_step (state_of b₀) m)
    → Becomes b₀ b (if is_member (state_of b₀) n m then member_step (state_of b₀) m else state_of b₀)
node-returned n m h p = rw h p

pub node-left : {b : List ℤ} (n m : ℕ) → Formed b → is_member (state_of b) n m ≡ false
    → Becomes b b (if is_member (state_of b) n m then member_step (state_of b) m else state_of b)
node-left {b} n m f h = rw h (becomes-none b (state_of b) f refl)

-- ---- all members

-- those below k hold their sides again
pub record Returned (b₀ b : List ℤ) (n k : ℕ) : Type 0 where
  pub block : Becomes b₀ b (fold member_step (state_of b₀) (only (is_member (state_of b₀) n) (below k)))
  pub lists : (state_of b).nodes.boundary ≡ (state_of b₀).nodes.boundary
  pub later : (j : ℕ) → k ≤ j → parent_of (state_of b) j ≡ parent_of (state_of b₀) j

pub returned-none : {b : List ℤ} (n : ℕ) → Formed b → Returned b b n 0
unfolding fold only below
returned-none {b} n f = record { block = becomes-none b (state_of b) f refl; lists = refl; later = λ j h. refl }

-- node k of the state c, where it lies in n
abbrev one : State → ℕ → ℕ → State
one c n k = if is_member c n k then member_step c k else c

one-lists : (c : State) (n k : ℕ) → (one c n k).nodes.boundary ≡ c.nodes.boundary
one-lists c n k = if-both (λ (d : State). d.nodes.boundary ≡ c.nodes.boundary) (is_member c n k) (one-rest c k).boundary refl

one_later : (c : State) (n k j : ℕ) → k < j → parent_of (one c n k) j ≡ parent_of c j
one_later c n k j h = if-both (λ (d : State). parent_of d j ≡ parent_of c j) (is_member c n k) (one-parent-off c k j (λ e. omega arith)) refl

module _ {b₀ b : List ℤ} {n k : ℕ} (p : Returned b₀ b n k) where
  same-member : is_member (state_of b) n k ≡ is_member (state_of b₀) n k
  unfolding is_member
  same-member = ap (λ y. eqb y (n + 1)) (p.later k (omega arith))

  one_more : one (state_of b) n k ≡ fold member_step (state_of b₀) (only (is_member (state_of b₀) n) (below (k + 1)))
  unfolding below
  one_more =
      rw (same-member, p.block.state, add-one, only-snoc (is_member (state_of b₀) n) (below k) k)
      (by-test (is_member (state_of b₀) n k)
      (λ e. rw e (sym (fold-snoc member_step (state_of b₀) (only (is_member (state_of b₀) n) (below k)) k)))
      (λ e. rw e))

  pub returned-more : {b' : List ℤ} → Becomes b b' (if is_member (state_of b) n k then member_step (state_of b) k else state_of b) → Returned b₀ b' n (k + 1)
  returned-more {b'} q = record {
    block = becomes-then p.block (subst (Becomes b b') one_more q);
    lists = ap (λ (c : State). c.nodes.boundary) q.state ∙ one-lists (state_of b) n k ∙ p.lists;
    later = λ j h. ap (λ (c : State). parent_of c j) q.state ∙ one_later (state_of b) n k j (omega arith) ∙ p.later j (omega arith);
  }

  pub returned-all : k ≡ node_count (state_of b₀) → Becomes b₀ b (fold member_step (state_of b₀) (members_of (state_of b₀) n))
  unfolding members_of is_member
  returned-all e = rw e at p.block

-- ---- the node itself

pub node-removed : {b₀ b₁ b₂ b₃ : List ℤ} (t : List ℤ) (n : ℕ) → Becomes b₀ b₁ (with_class (state_of b₀) n removed)
    → Becomes b₁ b₂ (with_grow_state (state_of b₁) n 0)
    → Becomes b₂ b₃ (with_lists (state_of b₂) n (numbers_at t 0 0) 0 (numbers_at t 0 0)) → Becomes b₀ b₃ (removed_node (state_of b₀) n)
unfolding removed_node with_lists numbers_at stack_from
node-removed {b₀} {b₁} {b₂} {b₃} t n p q r =
    let d : State = with_grow_state (with_class (state_of b₀) n removed) n 0 in
    let e : state_of b₂ ≡ d = q.state ∙ ap (λ (c : State). with_grow_state c n 0) p.state in
    let z : length (overgrown_of d n) - 0 ≡ length (overgrown_of d n) = omega arith in
    let none : drop (length (overgrown_of d n) - 0) (overgrown_of d n) ≡ [] = rw z (drop-length (overgrown_of d n)) in
    becomes-then p (becomes-then q (subst (Becomes b₂ b₃) (rw (e, none) refl) r))

-- ---- the blossom

same-members : (c d : State) (n : ℕ) → d.nodes ≡ c.nodes → members_of d n ≡ members_of c n
unfolding members_of
same-members c d n e =
    ap (λ (y : Nodes). only (λ m. eqb (get_or y.parent m 0) (n + 1)) (below (length y.grow_state))) e

pub blossom-opened : {b₀ b₁ b₂ b₃ : List ℤ} (n : ℕ) → Becomes b₀ b₁ (fold (set_holder 0) (state_of b₀) (boundary_of (state_of b₀) n))
    → Becomes b₁ b₂ (fold member_step (state_of b₁) (members_of (state_of b₁) n)) → Becomes b₂ b₃ (removed_node (state_of b₂) n)
    → Becomes b₀ b₃ (opened_blossom (state_of b₀) n)
unfolding opened_blossom unheld free_step set_holder
blossom-opened {b₀} {b₁} {b₂} {b₃} n p q r =
    let y : (state_of b₁).nodes ≡ (state_of b₀).nodes = ap (λ (c : State). c.nodes) p.state ∙ holders-nodes 0 (state_of b₀) (boundary_of (state_of b₀) n) in
    let e : members_of (state_of b₁) n ≡ members_of (state_of b₀) n = same-members (state_of b₀) (state_of b₁) n y in
    let w : state_of b₂ ≡ fold member_step (unheld (state_of b₀) n) (members_of (state_of b₀) n) =
    q.state ∙ ap (fold member_step (state_of b₁)) e ∙ ap (λ (c : State). fold member_step c (members_of (state_of b₀) n)) p.state in
    becomes-then p (becomes-then q (subst (Becomes b₂ b₃) (ap (λ (c : State). removed_node c n) w) r))
