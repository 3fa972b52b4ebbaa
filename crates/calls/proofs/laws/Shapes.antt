-- Every call keeps the shape of the state: each list over vertices, sides or nodes stays as long as it must be.
use Rattle.std.specs.Prelude.{◌≡◌, ℕ, zero, suc, ◌+◌, Bool, true, false, ◌&&◌, List, [], ◌∷◌, length, ℤ, pos, negsuc, ◌==◌, nat_lt, slice_index}
use Rattle.std.proofs.Common.{sym, ap, ◌∙◌, length-set}
use Rattle.graph.specs.Basic.{fold}
use Rattle.graph.specs.State.{State, Graph, NodeClass, blossom, defect_vertex, removed, vertex_count, side_count, node_count, sides_at, holder_at, growth_at, dual_of, grow_state_of, boundary_of, overgrown_of, with_defect, with_grow_state, with_dual, with_class, with_nodes, with_boundary, held_vertex, stay, down, up}
use Rattle.graph.specs.laws.State.{if-both, fold-keeps}
use Rattle.graph.specs.laws.Shape.{emptied-shape, shape-growth, shape-holder, shape-defect, shape-state, shape-parent, shape-dual, shape-boundary, shape-overgrown, shape-node, shape-held-side, shape-held-vertex}
use Rattle.graph.specs.Shape.{Shape}
use Rattle.pass.proofs.laws.Passes.{Passed}
use Rattle.answers.specs.Outcome.{Answer}
use Rattle.answers.specs.Outcome.{Done}
use Rattle.answers.specs.Answer.{Reply, says}
use Rattle.calls.specs.Refuse.{unless, node_refusal, store_short}
use Rattle.pass.specs.Prepare.{prepare_node}
use Rattle.graph.specs.Node.{moved}
use Rattle.growth.specs.Growth.{grow_check, grow_apply, move_side, moved_stack}
use Rattle.calls.specs.Insert.{insert_defect, defect_put, defect_refusal, hold_step, insert_blossom, blossom_put, blossom_refusal, join_circle, join_step, join_side, member_stays, Joining, prepare_step}
use Rattle.calls.specs.Calls.{set_grow_state, prepare_dual_node_growth, max_update_length, readied, grow_prepared, grow_toward, grow_dual_node, signed_for, follow, advance_by, toward, advance, representative_vertex, clear, Call, InsertDefect, InsertBlossom, SetGrowState, Prepare, UpdateLength, Grow, ReadTable, Advance, Contacts, RepresentativeVertex, Clear, response, respond, RenewActiveList, PrepareAll, GroupLength, Round, RemoveBlossom, LoadEdgeModifier}
use Rattle.calls.specs.Round.{renew_active_list, preparing, prepared_all, prepare_all, moving, moved_all, round, GroupReply, group_refusal, group_length}
use Rattle.graph.specs.Active.{join_active, activated, renewed}
use Rattle.graph.specs.laws.Active.{shape-active}
use Rattle.calls.proofs.laws.Follow.{follow-cases}
use Rattle.calls.proofs.laws.Trial.{turn-keeps, tried-keeps}
use Rattle.calls.specs.Erasures.{modifier_refusal, load_edge_modifier}
use Rattle.calls.proofs.laws.Erasures.{only-weights, shape-weights}
use Rattle.calls.specs.Remove.{members_of, free_step, unheld, stops_opening, return_step, member_step, removed_node, opened_blossom, open_prepared, remove_refusal, remove_blossom}
use Rattle.pass.proofs.laws.Prepare.{prepare-passed}

-- ---- preparation

pub shape-passed : (n : ℕ) (c d : State) → Passed n c d → Shape c → Shape d
shape-passed n c d p z =
    let v : vertex_count c ≡ vertex_count d = ap (λ (g : Graph). length g.virtual) (sym p.graph) in
    let s : side_count c ≡ side_count d = ap (λ (g : Graph). length g.end) (sym p.graph) in
    let m : node_count c ≡ node_count d = ap (λ (l : List ℕ). length l) (sym p.grow_state) in
    record {
      end = rw p.graph z.end;
      original = rw p.graph z.original;
      at = rw p.graph z.at;
      defect = ap (λ (l : List ℕ). length l) p.defect ∙ z.defect ∙ v;
      vertex_holder = p.vertex_holder ∙ z.vertex_holder ∙ v;
      vertex_grandson = p.vertex_grandson ∙ z.vertex_grandson ∙ v;
      growth = ap (λ (l : List ℕ). length l) p.growth ∙ z.growth ∙ s;
      holder = p.holder ∙ z.holder ∙ s;
      grandson = p.grandson ∙ z.grandson ∙ s;
      class = ap (λ (l : List NodeClass). length l) p.class ∙ z.class ∙ m;
      parent = ap (λ (l : List ℕ). length l) p.parent ∙ z.parent ∙ m;
      dual = ap (λ (l : List ℕ). length l) p.dual ∙ z.dual ∙ m;
      boundary = p.boundary ∙ z.boundary ∙ m;
      overgrown = p.overgrown ∙ z.overgrown ∙ m;
    }

pub shape-prepared : (c : State) (n d : ℕ) → Shape c → Shape (prepare_node c n d).state
shape-prepared c n d z = shape-passed n c (prepare_node c n d).state (prepare-passed c n d) z

-- ---- growth

shape-move : (d l : ℕ) (c : State) (s : ℕ) → Shape c → Shape (move_side d l c s)
unfolding move_side
shape-move d l c s z = shape-growth c s (moved d l (growth_at c s)) z

pub shape-apply : (c : State) (n d l : ℕ) → Shape c → Shape (grow_apply c n d l)
unfolding grow_apply
shape-apply c n d l z =
    fold-keeps (move_side d l) Shape (shape-move d l) _ (boundary_of c n)
    (shape-overgrown (with_dual c n (moved d l (dual_of c n))) n (moved_stack d l (overgrown_of c n)) (shape-dual c n (moved d l (dual_of c n)) z))

-- ---- insertion

shape-hold : (n : ℕ) (c : State) (t : ℕ) → Shape c → Shape (hold_step n c t)
unfolding hold_step
shape-hold n c t z = shape-held-side c t n (n + 1) z

pub shape-defect-put : (c : State) (v x : ℕ) → Shape c → Shape (defect_put c v x)
unfolding defect_put
shape-defect-put c v x z =
    shape-node (fold (hold_step (node_count c)) (held_vertex (with_defect c v 1) v (node_count c) (node_count c + 1)) (sides_at c v)) (defect_vertex v) x (sides_at c v)
    (fold-keeps (hold_step (node_count c)) Shape (shape-hold (node_count c)) _ (sides_at c v)
    (shape-held-vertex (with_defect c v 1) v (node_count c) (node_count c + 1) (shape-defect c v 1 z)))

shape-prepare-step : (c : State) (m : ℕ) → Shape c → Shape (prepare_step c m)
unfolding prepare_step
shape-prepare-step c m z = shape-prepared c m down z

-- of the state while a circle is joined
abbrev Joined : Joining → Type 0
Joined j = Shape j.state

shape-join-side : (n m : ℕ) (j : Joining) (s : ℕ) → Joined j → Joined (join_side n m j s)
unfolding join_side
shape-join-side n m j s z = if-both Joined (holder_at j.state s == m + 1) (shape-holder j.state s (n + 1) z) z

shape-member-stays : (n m : ℕ) (j : Joining) → Joined j → Joined (member_stays n m j)
unfolding member_stays
shape-member-stays n m j z = shape-parent (with_grow_state j.state m stay) m (n + 1) (shape-state j.state m stay z)

shape-join-step : (n : ℕ) (j : Joining) (m : ℕ) → Joined j → Joined (join_step n j m)
unfolding join_step
shape-join-step n j m z =
    shape-member-stays n m (fold (join_side n m) j (boundary_of j.state m))
    (fold-keeps (join_side n m) Joined (shape-join-side n m) j (boundary_of j.state m) z)

pub shape-joined : (c : State) (circle : List ℕ) → Shape c → Joined (join_circle c circle)
unfolding join_circle
shape-joined c circle z =
    fold-keeps (join_step (node_count c)) Joined (shape-join-step (node_count c)) _ circle
    (fold-keeps prepare_step Shape shape-prepare-step c circle z)

pub shape-blossom-put : (c : State) (x : ℕ) (circle : List ℕ) → Shape c → Shape (blossom_put c x circle)
unfolding blossom_put
shape-blossom-put c x circle z = shape-node (join_circle c circle).state (blossom (slice_index circle 0)) x (join_circle c circle).sides (shape-joined c circle z)

-- ---- any call

shape-unless : (k : ℕ) (c : State) (r : Reply) → Shape c → Shape r.state → Shape (unless k c r).state
unfolding unless says
shape-unless k c r z w = if-both (λ (x : Reply). Shape x.state) (k == 0) w z

pub shape-toward : (c : State) (n d l : ℕ) → Shape c → Shape (grow_toward c n d l).state
unfolding grow_toward grow_prepared
shape-toward c n d l z =
    let p : Shape (prepare_node c n d).state = shape-prepared c n d z in
    shape-unless (node_refusal c n false (store_short c (n ∷ []) 1)) c _ z
    (shape-unless (grow_check (prepare_node c n d).state n d l) (prepare_node c n d).state _ p (shape-apply (prepare_node c n d).state n d l p))

pub shape-grow : (c : State) (n : ℕ) (l : ℤ) → Shape c → Shape (grow_dual_node c n l).state
unfolding grow_dual_node says
shape-grow c n (pos zero) z = shape-unless (node_refusal c n false false) c _ z z
shape-grow c n (pos (suc l)) z = shape-toward c n up (suc l) z
shape-grow c n (negsuc l) z = shape-toward c n down (suc l) z

shape-follow : (c : State) (n x : ℕ) (a : Answer) → Shape c → Shape (follow c n x a).state
unfolding says
shape-follow c n x a z = follow-cases (λ (r : Reply). Shape r.state) c n x a (λ l e. shape-grow c n (signed_for x l) z) z

shape-readied : (c : State) (n d : ℕ) (first : Bool) → Shape c → Shape (readied c n d first)
unfolding readied
shape-readied c n d first z = if-both Shape first (shape-prepared c n d z) z

pub shape-length : (c : State) (n d : ℕ) (first : Bool) → Shape c → Shape (max_update_length c n d first).state
unfolding max_update_length
shape-length c n d first z = shape-unless (node_refusal c n (nat_lt up d) (first && store_short c (n ∷ []) 1)) c _ z (shape-readied c n d first z)

pub shape-advance : (c : State) (n : ℕ) → Shape c → Shape (advance c n).state
unfolding advance advance_by says
shape-advance c n z =
    shape-unless (node_refusal c n false false) c _ z
    (if-both (λ (x : Reply). Shape x.state) (grow_state_of c n == stay) z
    (shape-follow (max_update_length c n (toward (grow_state_of c n)) true).state n (grow_state_of c n)
    (max_update_length c n (toward (grow_state_of c n)) true).answer (shape-length c n (toward (grow_state_of c n)) true z)))

shape-join : (c : State) (n : ℕ) → Shape c → Shape (join_active c n)
unfolding join_active
shape-join c n z = shape-active c _ z

shape-activated : (c : State) (n x : ℕ) → Shape c → Shape (activated c n x)
unfolding activated
shape-activated c n x z = shape-active c _ z

pub shape-renewed : (c : State) → Shape c → Shape (renewed c)
unfolding renewed
shape-renewed c z = shape-active c _ z

shape-prepared-all : (c : State) → Shape c → Shape (prepared_all c).state
unfolding prepared_all preparing prepare_dual_node_growth
shape-prepared-all c z =
    turn-keeps Shape (preparing down) (preparing up) (λ d n w. shape-unless _ d _ w (shape-prepared d n down w))
    (λ d n w. shape-unless _ d _ w (shape-prepared d n up w)) c (shape-renewed c z)

shape-group : (c : State) → Shape c → Shape (group_length c).state
unfolding group_length
shape-group c z = if-both (λ (r : GroupReply). Shape r.state) (group_refusal (prepared_all c) == 0) (shape-prepared-all c z) z

shape-round : (c : State) (l : ℤ) → Shape c → Shape (round c l).state
unfolding round says moved_all moving
shape-round c (pos zero) z = z
shape-round c (negsuc l) z = z
shape-round c (pos (suc l)) z =
    tried-keeps Shape c (moved_all (suc l) c) Done z
    (turn-keeps Shape (moving down (suc l)) (moving up (suc l)) (λ d n w. shape-toward d n down (suc l) w)
    (λ d n w. shape-toward d n up (suc l) w) c (shape-renewed c z))

-- ---- opening

shape-class : (c : State) (i : ℕ) (x : NodeClass) → Shape c → Shape (with_class c i x)
unfolding with_class with_nodes
shape-class c i x z = record {
  end = z.end;
  original = z.original;
  at = z.at;
  defect = z.defect;
  vertex_holder = z.vertex_holder;
  vertex_grandson = z.vertex_grandson;
  growth = z.growth;
  holder = z.holder;
  grandson = z.grandson;
  class = length-set c.nodes.class i x ∙ z.class;
  parent = z.parent;
  dual = z.dual;
  boundary = z.boundary;
  overgrown = z.overgrown;
}

shape_free : (c : State) (s : ℕ) → Shape c → Shape (free_step c s)
unfolding free_step
shape_free c s z = shape-holder c s 0 z

shape-return : (m : ℕ) (c : State) (s : ℕ) → Shape c → Shape (return_step m c s)
unfolding return_step
shape-return m c s z = shape-holder c s (m + 1) z

shape-member : (c : State) (m : ℕ) → Shape c → Shape (member_step c m)
unfolding member_step
shape-member c m z = shape-parent (fold (return_step m) c (boundary_of c m)) m 0 (fold-keeps (return_step m) Shape (shape-return m) c (boundary_of c m) z)

pub shape-removed : (c : State) (n : ℕ) → Shape c → Shape (removed_node c n)
unfolding removed_node
shape-removed c n z =
    shape-overgrown (with_boundary (with_grow_state (with_class c n removed) n stay) n []) n []
    (shape-boundary (with_grow_state (with_class c n removed) n stay) n [] (shape-state (with_class c n removed) n stay (shape-class c n removed z)))

pub shape-opened : (c : State) (n : ℕ) → Shape c → Shape (opened_blossom c n)
unfolding opened_blossom unheld
shape-opened c n z =
    shape-removed (fold member_step (fold free_step c (boundary_of c n)) (members_of c n)) n
    (fold-keeps member_step Shape shape-member (fold free_step c (boundary_of c n)) (members_of c n)
    (fold-keeps free_step Shape shape_free c (boundary_of c n) z))

shape-open-prepared : (c : State) (n : ℕ) → Shape c → Shape (open_prepared c n).state
unfolding open_prepared says
shape-open-prepared c n z = if-both (λ (r : Reply). Shape r.state) (stops_opening c n) z (shape-opened c n z)

pub shape-remove : (c : State) (n : ℕ) → Shape c → Shape (remove_blossom c n).state
unfolding remove_blossom
shape-remove c n z = shape-unless (remove_refusal c n) c _ z (shape-open-prepared (prepare_node c n down).state n (shape-prepared c n down z))

pub shape-call : (c : State) (k : Call) → Shape c → Shape (respond c k).state
unfolding respond response insert_defect insert_blossom set_grow_state prepare_dual_node_growth representative_vertex says clear renew_active_list prepare_all load_edge_modifier
shape-call c (InsertDefect v x) z = shape-unless (defect_refusal c v x) c _ z (shape-join (defect_put c v x) (node_count c) (shape-defect-put c v x z))
shape-call c (InsertBlossom x circle) z =
    shape-unless (blossom_refusal c x circle) c _ z
    (shape-join (blossom_put c x circle) (node_count c) (shape-blossom-put c x circle z))
shape-call c (SetGrowState n x) z = shape-unless _ c _ z (shape-state (activated c n x) n x (shape-activated c n x z))
shape-call c (Prepare n d) z = shape-unless _ c _ z (shape-prepared c n d z)
shape-call c (UpdateLength n d first) z = shape-length c n d first z
shape-call c (Grow n l) z = shape-grow c n l z
shape-call c ReadTable z = z
shape-call c (Advance n) z = shape-advance c n z
shape-call c Contacts z = z
shape-call c (RepresentativeVertex n) z = z
shape-call c Clear z = emptied-shape c z
shape-call c RenewActiveList z = shape-renewed c z
shape-call c PrepareAll z = tried-keeps Shape c (prepared_all c) Done z (shape-prepared-all c z)
shape-call c GroupLength z = shape-group c z
shape-call c (Round l) z = shape-round c l z
shape-call c (RemoveBlossom n) z = shape-remove c n z
shape-call c (LoadEdgeModifier pairs) z = shape-unless (modifier_refusal c pairs) c _ z (shape-weights (only-weights c pairs) z)
