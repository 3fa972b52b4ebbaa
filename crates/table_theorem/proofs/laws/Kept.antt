-- No call but clear and a change of weights changes the graph, N or L; and these two move the present weights and their mark alone.
use Rattle.std.specs.Prelude.{ℕ, zero, suc, ◌+◌, ◌≡◌, refl, Bool, true, false, ◌&&◌, List, [], ◌∷◌, ℤ, pos, negsuc, eqb, ltb}
use Rattle.std.proofs.Common.{sym, ap, ◌∙◌}
use Rattle.graph.specs.Basic.{fold, any}
use Rattle.graph.specs.State.{State, Graph, node_count, holder_at, sides_at, boundary_of, grow_state_of, with_active, with_nodes, with_sides, with_vertices, with_vertex_holder, with_vertex_grandson, with_holder, with_defect, with_grow_state, with_parent, with_node, held_vertex, stay, shrinking, up, down}
use Rattle.graph.specs.Open.{Edge, graph_of, blank_state, opened, with_originals, cleared}
use Rattle.graph.specs.laws.State.{if-both}
use Rattle.graph.specs.laws.Members.{by-test, clash, any_none}
use Rattle.pass.specs.Prepare.{prepare_node}
use Rattle.pass.proofs.laws.Prepare.{prepare-passed}
use Rattle.answers.specs.Outcome.{Answer}
use Rattle.answers.specs.Outcome.{Done}
use Rattle.answers.specs.Answer.{Reply, says}
use Rattle.calls.proofs.laws.Follow.{follow-cases}
use Rattle.calls.specs.Refuse.{node_refusal, store_short, unless}
use Rattle.growth.specs.Growth.{grow_check}
use Rattle.calls.specs.Insert.{insert_defect, defect_put, defect_refusal, insert_blossom, blossom_put, blossom_refusal, Joining, prepare_step, join_side, member_stays, join_step, join_circle}
use Rattle.calls.specs.Calls.{set_grow_state, prepare_dual_node_growth, max_update_length, readied, grow_prepared, grow_toward, grow_dual_node, signed_for, follow, advance_by, toward, advance, representative_vertex, clear, Call, InsertDefect, InsertBlossom, SetGrowState, Prepare, UpdateLength, Grow, ReadTable, Advance, Contacts, RepresentativeVertex, Clear, RenewActiveList, PrepareAll, GroupLength, Round, RemoveBlossom, LoadEdgeModifier, response, respond}
use Rattle.graph.specs.Active.{join_active, activated, renewed}
use Rattle.calls.specs.Round.{renew_active_list, preparing, prepared_all, prepare_all, moving, moved_all, round, GroupReply, group_refusal, group_length}
use Rattle.calls.specs.Remove.{remove_blossom}
use Rattle.calls.specs.Erasures.{EdgeWeight, modifier_refusal, reweighed, load_edge_modifier}
use Rattle.calls.proofs.laws.Erasures.{only-weights}
use Rattle.reachable.specs.Reachable.{after}
use Rattle.opened_graph.specs.OpenedGraph.{with_weights}
use Rattle.opened_graph.specs.laws.Opening.{with-own}
use Rattle.table_theorem.specs.History.{changes_weights}
use Rattle.calls.proofs.laws.RemoveCall.{remove-keeps}
use Rattle.calls.proofs.laws.Trial.{turn-keeps, tried-keeps}
use Rattle.calls.proofs.laws.Accepted.{unless-cases}
use Rattle.calls.proofs.laws.Sounds.{apply-applied}
use Rattle.reachable.specs.laws.insert.DefectState.{hold-sides}

-- what other calls than these two leave
pub record Fixed : Type 0 where
  pub graph : Graph
  pub nodes : ℕ
  pub store : ℕ

abbrev pub fixed_of : State → Fixed
fixed_of c = record { graph = c.graph; nodes = c.node_limit; store = c.store_limit }

-- the same after a reply
unless-fixed : (k : ℕ) (c : State) (r : Reply) → fixed_of r.state ≡ fixed_of c → fixed_of (unless k c r).state ≡ fixed_of c
unfolding says
unless-fixed k c r h = unless-cases (λ (x : Reply). fixed_of x.state ≡ fixed_of c) k c r (λ e. refl) (λ e. h)

prepare-fixed : (c : State) (n d : ℕ) → fixed_of (prepare_node c n d).state ≡ fixed_of c
prepare-fixed c n d = let p = prepare-passed c n d in rw (p.graph, p.node_limit, p.store_limit) refl

-- ---- insertion

defect-fixed : (c : State) (v x : ℕ) → fixed_of (defect_put c v x) ≡ fixed_of c
unfolding defect_put with_node with_nodes held_vertex with_defect with_vertex_grandson with_vertex_holder with_vertices
defect-fixed c v x =
    let p = hold-sides (node_count c) (sides_at c v) (held_vertex (with_defect c v 1) v (node_count c) (node_count c + 1)) in
    rw (p.graph, p.node_limit, p.store_limit) refl

circle-fixed : (c : State) (ms : List ℕ) → fixed_of (fold prepare_step c ms) ≡ fixed_of c
unfolding fold prepare_step
circle-fixed c [] = refl
circle-fixed c (m ∷ ms) = circle-fixed (prepare_node c m down).state ms ∙ prepare-fixed c m down

side-fixed : (n m : ℕ) (j : Joining) (s : ℕ) → fixed_of (join_side n m j s).state ≡ fixed_of j.state
unfolding join_side with_holder with_sides
side-fixed n m j s = by-test (eqb (holder_at j.state s) (m + 1)) (λ e. rw e refl) (λ e. rw e refl)

sides-fixed : (n m : ℕ) (j : Joining) (l : List ℕ) → fixed_of (fold (join_side n m) j l).state ≡ fixed_of j.state
unfolding fold
sides-fixed n m j [] = refl
sides-fixed n m j (s ∷ l) = sides-fixed n m (join_side n m j s) l ∙ side-fixed n m j s

join-fixed : (n : ℕ) (j : Joining) (ms : List ℕ) → fixed_of (fold (join_step n) j ms).state ≡ fixed_of j.state
unfolding fold join_step member_stays with_parent with_grow_state with_nodes
join-fixed n j [] = refl
join-fixed n j (m ∷ ms) = join-fixed n (join_step n j m) ms ∙ sides-fixed n m j (boundary_of j.state m)

blossom-fixed : (c : State) (x : ℕ) (circle : List ℕ) → fixed_of (blossom_put c x circle) ≡ fixed_of c
unfolding blossom_put join_circle with_node with_nodes
blossom-fixed c x circle = join-fixed (node_count c) (record { state = fold prepare_step c circle; sides = [] }) circle ∙ circle-fixed c circle

-- ---- growth

toward-fixed : (c : State) (n d l : ℕ) → fixed_of (grow_toward c n d l).state ≡ fixed_of c
unfolding grow_toward grow_prepared
toward-fixed c n d l =
    unless-fixed (node_refusal c n false (store_short c (n ∷ []) 1)) c _
    (unless-fixed (grow_check (prepare_node c n d).state n d l) (prepare_node c n d).state _
    (let p = apply-applied (prepare_node c n d).state n d l in rw (p.graph, p.node_limit, p.store_limit) refl)
    ∙ prepare-fixed c n d)

grow-fixed : (c : State) (n : ℕ) (l : ℤ) → fixed_of (grow_dual_node c n l).state ≡ fixed_of c
unfolding grow_dual_node says
grow-fixed c n (pos zero) = unless-fixed (node_refusal c n false false) c _ refl
grow-fixed c n (pos (suc l)) = toward-fixed c n up (suc l)
grow-fixed c n (negsuc l) = toward-fixed c n down (suc l)

length-fixed : (c : State) (n d : ℕ) (first : Bool) → fixed_of (max_update_length c n d first).state ≡ fixed_of c
unfolding max_update_length readied
length-fixed c n d first =
    unless-fixed (node_refusal c n (ltb up d) (first && store_short c (n ∷ []) 1)) c _
    (if-both (λ (x : State). fixed_of x ≡ fixed_of c) first (prepare-fixed c n d) refl)

follow-fixed : (c : State) (n x : ℕ) (a : Answer) → fixed_of (follow c n x a).state ≡ fixed_of c
unfolding says
follow-fixed c n x a = follow-cases (λ (r : Reply). fixed_of r.state ≡ fixed_of c) c n x a (λ l e. grow-fixed c n (signed_for x l)) refl

advance-fixed : (c : State) (n : ℕ) → fixed_of (advance c n).state ≡ fixed_of c
unfolding advance advance_by says
advance-fixed c n =
    unless-fixed (node_refusal c n false false) c _
    (if-both (λ (r : Reply). fixed_of r.state ≡ fixed_of c) (eqb (grow_state_of c n) stay) refl
    (follow-fixed (max_update_length c n (toward (grow_state_of c n)) true).state n (grow_state_of c n)
    (max_update_length c n (toward (grow_state_of c n)) true).answer
    ∙ length-fixed c n (toward (grow_state_of c n)) true))

-- ---- any call

prepared-all-fixed : (c : State) → fixed_of (prepared_all c).state ≡ fixed_of c
unfolding prepared_all preparing prepare_dual_node_growth renewed with_active
prepared-all-fixed c =
    turn-keeps (λ (d : State). fixed_of d ≡ fixed_of c) (preparing down) (preparing up)
    (λ d n h. unless-fixed (node_refusal d n (ltb up down) (store_short d (n ∷ []) 1)) d _ (prepare-fixed d n down) ∙ h)
    (λ d n h. unless-fixed (node_refusal d n (ltb up up) (store_short d (n ∷ []) 1)) d _ (prepare-fixed d n up) ∙ h) c refl

round-fixed : (c : State) (l : ℤ) → fixed_of (round c l).state ≡ fixed_of c
unfolding round says moved_all moving renewed with_active
round-fixed c (pos zero) = refl
round-fixed c (negsuc l) = refl
round-fixed c (pos (suc l)) =
    tried-keeps (λ (d : State). fixed_of d ≡ fixed_of c) c (moved_all (suc l) c) Done refl
    (turn-keeps (λ (d : State). fixed_of d ≡ fixed_of c) (moving down (suc l)) (moving up (suc l))
    (λ d n h. toward-fixed d n down (suc l) ∙ h) (λ d n h. toward-fixed d n up (suc l) ∙ h) c refl)

remove-fixed : (c : State) (n : ℕ) → fixed_of (remove_blossom c n).state ≡ fixed_of c
remove-fixed c n = let k = remove-keeps c n in rw (k.graph, k.node_limit, k.store_limit) refl

-- the call gives edges other weights, or their own again
unfoldable pub reweighs : Call → Bool
reweighs Clear = true
reweighs (LoadEdgeModifier pairs) = true
reweighs (InsertDefect v x) = false
reweighs (InsertBlossom x circle) = false
reweighs (SetGrowState n x) = false
reweighs (Prepare n d) = false
reweighs (UpdateLength n d first) = false
reweighs (Grow n l) = false
reweighs ReadTable = false
reweighs (Advance n) = false
reweighs Contacts = false
reweighs (RepresentativeVertex n) = false
reweighs RenewActiveList = false
reweighs PrepareAll = false
reweighs GroupLength = false
reweighs (Round l) = false
reweighs (RemoveBlossom n) = false

pub call-fixed : (c : State) (k : Call) → reweighs k ≡ false → fixed_of (respond c k).state ≡ fixed_of c
unfolding respond response insert_defect insert_blossom set_grow_state prepare_dual_node_growth representative_vertex says reweighs with_grow_state with_nodes join_active activated with_active renew_active_list prepare_all group_length
    renewed
call-fixed c (InsertDefect v x) h = unless-fixed (defect_refusal c v x) c _ (defect-fixed c v x)
call-fixed c (InsertBlossom x circle) h = unless-fixed (blossom_refusal c x circle) c _ (blossom-fixed c x circle)
call-fixed c (SetGrowState n x) h = unless-fixed (node_refusal c n (ltb shrinking x) false) c _ refl
call-fixed c (Prepare n d) h = unless-fixed (node_refusal c n (ltb up d) (store_short c (n ∷ []) 1)) c _ (prepare-fixed c n d)
call-fixed c (UpdateLength n d first) h = length-fixed c n d first
call-fixed c (Grow n l) h = grow-fixed c n l
call-fixed c ReadTable h = refl
call-fixed c (Advance n) h = advance-fixed c n
call-fixed c Contacts h = refl
call-fixed c (RepresentativeVertex n) h = refl
call-fixed c Clear h = clash true refl h
call-fixed c RenewActiveList h = refl
call-fixed c PrepareAll h = tried-keeps (λ (d : State). fixed_of d ≡ fixed_of c) c (prepared_all c) Done refl (prepared-all-fixed c)
call-fixed c GroupLength h = if-both (λ (r : GroupReply). fixed_of r.state ≡ fixed_of c) (eqb (group_refusal (prepared_all c)) 0) (prepared-all-fixed c) refl
call-fixed c (Round l) h = round-fixed c l
call-fixed c (RemoveBlossom n) h = remove-fixed c n
call-fixed c (LoadEdgeModifier pairs) h = clash true refl h

-- ---- what no call changes

pub record Wiring : Type 0 where
  pub end : List ℕ
  pub original : List ℕ
  pub at : List (List ℕ)
  pub virtual : List ℕ
  pub nodes : ℕ
  pub store : ℕ

abbrev pub wiring_of : State → Wiring
wiring_of c =
    record {
      end = c.graph.end;
      original = c.graph.original;
      at = c.graph.at;
      virtual = c.graph.virtual;
      nodes = c.node_limit;
      store = c.store_limit;
    }

kept-wired : (c : State) (k : Call) → reweighs k ≡ false → wiring_of (respond c k).state ≡ wiring_of c
kept-wired c k h =
    ap (λ (x : Fixed). record {
      end = x.graph.end;
      original = x.graph.original;
      at = x.graph.at;
      virtual = x.graph.virtual;
      nodes = x.nodes;
      store = x.store;
    })
    (call-fixed c k h)

unless-wired : (k : ℕ) (c : State) (r : Reply) → wiring_of r.state ≡ wiring_of c → wiring_of (unless k c r).state ≡ wiring_of c
unfolding says
unless-wired k c r h = unless-cases (λ (x : Reply). wiring_of x.state ≡ wiring_of c) k c r (λ e. refl) (λ e. h)

weights-wired : (c : State) (pairs : List EdgeWeight) → wiring_of (reweighed c pairs) ≡ wiring_of c
weights-wired c pairs =
    let p = only-weights c pairs in
    rw (p.end, p.original, p.at, p.virtual, p.node_limit, p.store_limit) refl

pub call-wired : (c : State) (k : Call) → wiring_of (respond c k).state ≡ wiring_of c
unfolding reweighs respond response clear cleared with_originals blank_state load_edge_modifier
call-wired c Clear = refl
call-wired c (LoadEdgeModifier pairs) = unless-wired (modifier_refusal c pairs) c _ (weights-wired c pairs)
call-wired c (InsertDefect v x) = kept-wired c (InsertDefect v x) refl
call-wired c (InsertBlossom x circle) = kept-wired c (InsertBlossom x circle) refl
call-wired c (SetGrowState n x) = kept-wired c (SetGrowState n x) refl
call-wired c (Prepare n d) = kept-wired c (Prepare n d) refl
call-wired c (UpdateLength n d first) = kept-wired c (UpdateLength n d first) refl
call-wired c (Grow n l) = kept-wired c (Grow n l) refl
call-wired c ReadTable = kept-wired c ReadTable refl
call-wired c (Advance n) = kept-wired c (Advance n) refl
call-wired c Contacts = kept-wired c Contacts refl
call-wired c (RepresentativeVertex n) = kept-wired c (RepresentativeVertex n) refl
call-wired c RenewActiveList = kept-wired c RenewActiveList refl
call-wired c PrepareAll = kept-wired c PrepareAll refl
call-wired c GroupLength = kept-wired c GroupLength refl
call-wired c (Round l) = kept-wired c (Round l) refl
call-wired c (RemoveBlossom n) = kept-wired c (RemoveBlossom n) refl

pub calls-wired : (c : State) (ks : List Call) → wiring_of (after c ks) ≡ wiring_of c
unfolding after
calls-wired c [] = refl
calls-wired c (k ∷ ks) = calls-wired (respond c k).state ks ∙ call-wired c k

-- ---- without a change of weights every edge has its original weight

abbrev Original : State → Type 0
Original c = c.graph.weight ≡ c.graph.original

kept-original : (c : State) (k : Call) → reweighs k ≡ false → Original c → Original (respond c k).state
kept-original c k h o =
    ap (λ (x : Fixed). x.graph.weight) (call-fixed c k h) ∙ o ∙ sym (ap (λ (x : Fixed). x.graph.original) (call-fixed c k h))

call-original : (c : State) (k : Call) → changes_weights k ≡ false → Original c → Original (respond c k).state
unfolding changes_weights reweighs respond response clear cleared with_originals blank_state
call-original c Clear h o = refl
call-original c (LoadEdgeModifier pairs) h o = clash true refl h
call-original c (InsertDefect v x) h o = kept-original c (InsertDefect v x) refl o
call-original c (InsertBlossom x circle) h o = kept-original c (InsertBlossom x circle) refl o
call-original c (SetGrowState n x) h o = kept-original c (SetGrowState n x) refl o
call-original c (Prepare n d) h o = kept-original c (Prepare n d) refl o
call-original c (UpdateLength n d first) h o = kept-original c (UpdateLength n d first) refl o
call-original c (Grow n l) h o = kept-original c (Grow n l) refl o
call-original c ReadTable h o = kept-original c ReadTable refl o
call-original c (Advance n) h o = kept-original c (Advance n) refl o
call-original c Contacts h o = kept-original c Contacts refl o
call-original c (RepresentativeVertex n) h o = kept-original c (RepresentativeVertex n) refl o
call-original c RenewActiveList h o = kept-original c RenewActiveList refl o
call-original c PrepareAll h o = kept-original c PrepareAll refl o
call-original c GroupLength h o = kept-original c GroupLength refl o
call-original c (Round l) h o = kept-original c (Round l) refl o
call-original c (RemoveBlossom n) h o = kept-original c (RemoveBlossom n) refl o

pub calls-original : (c : State) (ks : List Call) → any changes_weights ks ≡ false → Original c → Original (after c ks)
unfolding after
calls-original c [] h o = o
calls-original c (k ∷ ks) h o = let q = any_none changes_weights k ks h in calls-original (respond c k).state ks q.1 (call-original c k q.0 o)

-- so after an opening the edges have the weights that they were opened with
pub as-opened : (v n l : ℕ) (es : List Edge) (virtuals : List ℕ) (ks : List Call) → any changes_weights ks ≡ false
    → with_weights es (after (opened v n l es virtuals) ks).graph.weight ≡ es
unfolding opened blank_state graph_of
as-opened v n l es virtuals ks h =
    ap (with_weights es) (calls-original (opened v n l es virtuals) ks h refl ∙ ap (λ (x : Wiring). x.original) (calls-wired (opened v n l es virtuals) ks))
    ∙ with-own es
