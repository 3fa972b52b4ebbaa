-- Laws about the active list: what keeps it sound, and who stands in it.
use Rattle.std.specs.Prelude.{ℕ, ◌≤◌, ◌<◌, ◌≡◌, refl, ◌≢◌, Bool, true, ◌&&◌, not, List, [], ◌∷◌, eqb, leb, if◌then◌else◌}
use Rattle.std.proofs.Common.{arith, ◌∙◌, eqb-true, eq-eqb, ne_eqb, lt-ltb, ltb-true}
use Rattle.std.proofs.Math.Dec.{ltb}
use Rattle.std.proofs.lemmas.Bool.{eqb-false, not-true}
use Rattle.graph.specs.Basic.{all, only, member, distinct, all_below}
use Rattle.graph.specs.State.{State, NodeClass, defect_vertex, blossom, removed, class_of, vertex_count, edge_count, side_count, node_count, grow_state_of, with_active, stay}
use Rattle.graph.specs.Sound.{node_or_none, stored_defect, edge_sound, vertex_sound, side_sound, class_sound, parent_sound, over_sound, own_lists, node_sound, entries_of, entries, active_sound, sound}
use Rattle.graph.specs.Active.{joined_to, join_active, activated, is_active, renewed, active_in, ActiveAll}
use Rattle.graph.specs.laws.State.{and_left, and_right, if-both, if-cases}
use Rattle.graph.specs.laws.Members.{both, all_weaker, all_snoc, all-only, all-member, member-only, only-member, member-head, member-append-left, member-append-right, distinct-only, distinct_snoc, all-below-at, all-below-from}
use Rattle.graph.specs.Shape.{Shape}

-- ---- what the test says

module _ (c : State) (h : active_sound c ≡ true) where
  pub active-inside : all (λ n. ltb n (node_count c)) c.active ≡ true
  unfolding active_sound
  active-inside = and_left (all (λ n. ltb n (node_count c)) c.active) (distinct c.active) h

  pub active-once : distinct c.active ≡ true
  unfolding active_sound
  active-once = and_right (all (λ n. ltb n (node_count c)) c.active) (distinct c.active) h

  pub active-below : (n : ℕ) → member n c.active ≡ true → n < node_count c
  active-below n m = ltb-true _ _ (all-member (λ k. ltb k (node_count c)) c.active n active-inside m)

-- the test of a list l of nodes below k
abbrev ListOk : ℕ → List ℕ → Type 0
ListOk k l = (all (λ n. ltb n k) l ≡ true) × (distinct l ≡ true)

pub active-kept : (c d : State) → d.active ≡ c.active → node_count c ≤ node_count d → active_sound c ≡ true → active_sound d ≡ true
unfolding active_sound
active-kept c d e le h =
    rw e
    (both (all (λ n. ltb n (node_count d)) c.active) (distinct c.active)
    (all_weaker (λ n. ltb n (node_count c)) (λ n. ltb n (node_count d))
    (λ x t. let b : x < node_count c = ltb-true _ _ t in lt-ltb x (node_count d) (omega arith)) c.active
    (active-inside c h))
    (active-once c h))

joined-ok : (k : ℕ) (l : List ℕ) (n : ℕ) → n < k → ListOk k l → ListOk k (joined_to l n)
unfolding joined_to
joined-ok k l n b p =
    if-cases (ListOk k) (member n l)
    (λ e. p)
    (λ e. (all_snoc (λ m. ltb m k) l n p.0 (lt-ltb n k b), distinct_snoc l n p.1 e))

pub joined_in : (l : List ℕ) (n : ℕ) → member n (joined_to l n) ≡ true
unfolding joined_to
joined_in l n = if-cases (λ (k : List ℕ). member n k ≡ true) (member n l) (λ e. e) (λ e. member-append-right n l (n ∷ []) (member-head n []))

pub joined_keeps : (l : List ℕ) (n m : ℕ) → member m l ≡ true → member m (joined_to l n) ≡ true
unfolding joined_to
joined_keeps l n m h = if-both (λ (k : List ℕ). member m k ≡ true) (member n l) h (member-append-left m l (n ∷ []) h)

-- ---- the list is kept sound

pub join-sound : (c : State) (n : ℕ) → n < node_count c → active_sound c ≡ true → active_sound (join_active c n) ≡ true
unfolding active_sound join_active with_active
join-sound c n b h =
    let r : ListOk (node_count c) (joined_to c.active n) = joined-ok (node_count c) c.active n b (active-inside c h, active-once c h) in
    both (all (λ m. ltb m (node_count c)) (joined_to c.active n)) (distinct (joined_to c.active n)) r.0 r.1

pub activated-sound : (c : State) (n x : ℕ) → n < node_count c → active_sound c ≡ true → active_sound (activated c n x) ≡ true
unfolding active_sound activated with_active
activated-sound c n x b h =
    let r : ListOk (node_count c) (if eqb (grow_state_of c n) stay && not (eqb x stay) then joined_to c.active n else c.active) =
    if-both (ListOk (node_count c)) (eqb (grow_state_of c n) stay && not (eqb x stay))
    (joined-ok (node_count c) c.active n b (active-inside c h, active-once c h))
    (active-inside c h, active-once c h) in
    both (all (λ m. ltb m (node_count c)) _) (distinct _) r.0 r.1

pub renewed-sound : (c : State) → active_sound c ≡ true → active_sound (renewed c) ≡ true
unfolding active_sound renewed with_active
renewed-sound c h =
    both (all (λ m. ltb m (node_count c)) (only (is_active c) c.active)) (distinct (only (is_active c) c.active))
    (all-only (λ m. ltb m (node_count c)) (is_active c) c.active (active-inside c h))
    (distinct-only (is_active c) c.active (active-once c h))

-- ---- a state with another list

class_same : (c : State) (l : List ℕ) (n : ℕ) (k : NodeClass) → class_sound (with_active c l) n k ≡ class_sound c n k
unfolding class_sound with_active
class_same c l n (defect_vertex v) = refl
class_same c l n (blossom m) = refl
class_same c l n removed = refl

node-same : (c : State) (l : List ℕ) (n : ℕ) → node_sound (with_active c l) n ≡ node_sound c n
unfolding node_sound parent_sound over_sound own_lists node_or_none with_active
node-same c l n = rw (class_same c l n (class_of c n)) refl

pub with-active-sound : (c : State) (l : List ℕ) → sound c ≡ true → active_sound (with_active c l) ≡ true → sound (with_active c l) ≡ true
unfolding sound entries entries_of edge_sound vertex_sound side_sound stored_defect node_or_none with_active
with-active-sound c l h a =
    let rest : Bool =
    leb (node_count c) c.node_limit && leb (entries c) c.store_limit && all_below (edge_sound c) (edge_count c)
    && all_below (vertex_sound c) (vertex_count c) && all_below (side_sound c) (side_count c) in
    let nodes : Bool = all_below (node_sound c) (node_count c) in
    let nodes' : Bool = all_below (node_sound (with_active c l)) (node_count c) in
    let mark : Bool = leb c.graph.reweighted 1 in
    let h₀ : rest && nodes && active_sound c ≡ true = and_left (rest && nodes && active_sound c) mark h in
    let h₁ : rest && nodes ≡ true = and_left (rest && nodes) (active_sound c) h₀ in
    let k : nodes' ≡ true =
    all-below-from (node_sound (with_active c l)) (node_count c)
    (λ n b. node-same c l n ∙ all-below-at (node_sound c) (node_count c) n (and_right rest nodes h₁) b) in
    both (rest && nodes' && active_sound (with_active c l)) mark
    (both (rest && nodes') (active_sound (with_active c l)) (both rest nodes' (and_left rest nodes h₁) k) a)
    (and_right (rest && nodes && active_sound c) mark h)

-- ---- who stands in it: every node that is not in Stay

pub renewed-all : (c : State) → ActiveAll c → ActiveAll (renewed c)
unfolding renewed with_active is_active
renewed-all c f n b ne = only-member (is_active c) c.active n (f n b ne) (rw (ne_eqb (grow_state_of c n) stay ne) refl)

-- a node of the renewed list is not in Stay
pub renewed-active : (c : State) (n : ℕ) → member n (renewed c).active ≡ true → grow_state_of c n ≢ stay
unfolding renewed with_active is_active
renewed-active c n m e = let t : not (eqb (grow_state_of c n) stay) ≡ true = (member-only (is_active c) c.active n m).1 in eqb-false _ _ (not-true _ t) e

-- the nodes in grow state x
pub active-in : (c : State) (x n : ℕ) → member n (active_in c x) ≡ true → (member n c.active ≡ true) × (grow_state_of c n ≡ x)
unfolding active_in
active-in c x n m = let r = member-only (λ k. eqb (grow_state_of c k) x) c.active n m in (r.0, eqb-true _ _ r.1)

pub in-active : (c : State) (x n : ℕ) → member n c.active ≡ true → grow_state_of c n ≡ x → member n (active_in c x) ≡ true
unfolding active_in
in-active c x n m e = only-member (λ k. eqb (grow_state_of c k) x) c.active n m (eq-eqb _ _ e)

pub active-in-once : (c : State) (x : ℕ) → active_sound c ≡ true → distinct (active_in c x) ≡ true
unfolding active_in
active-in-once c x h = distinct-only (λ k. eqb (grow_state_of c k) x) c.active (active-once c h)

pub shape-active : (c : State) (l : List ℕ) → Shape c → Shape (with_active c l)
unfolding with_active
shape-active c l z = record {
  end = z.end;
  original = z.original;
  at = z.at;
  defect = z.defect;
  vertex_holder = z.vertex_holder;
  vertex_grandson = z.vertex_grandson;
  growth = z.growth;
  holder = z.holder;
  grandson = z.grandson;
  class = z.class;
  parent = z.parent;
  dual = z.dual;
  boundary = z.boundary;
  overgrown = z.overgrown;
}
