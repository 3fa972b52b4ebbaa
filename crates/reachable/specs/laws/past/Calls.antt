-- Every call keeps the invariant and the past, refused or not; so every reachable state has both.
use Rattle.std.specs.Prelude.{ℕ, zero, suc, ◌<◌, ◌≡◌, refl, Bool, true, false, ◌&&◌, List, [], ◌∷◌, ℤ, pos, negsuc, eqb, ltb, length, if◌then◌else◌}
use Rattle.std.proofs.Common.{arith, sym, subst, length-set, eqb-true, ltb-false}
use Rattle.graph.specs.State.{State, Graph, node_count, class_of, parent_of, grow_state_of, with_active, with_grow_state, with_nodes, stay, shrinking, up, down}
use Rattle.graph.specs.Basic.{fold}
use Rattle.graph.specs.laws.State.{if-both}
use Rattle.graph.specs.laws.Members.{by-test}
use Rattle.graph.specs.Open.{Edge, blank_state, opened, with_originals, cleared, open_refusal}
use Rattle.graph.specs.laws.Opened.{get_d-zeros}
use Rattle.pass.proofs.laws.Passes.{Passed}
use Rattle.answers.specs.Outcome.{Answer}
use Rattle.answers.specs.Outcome.{Done}
use Rattle.answers.specs.Answer.{Reply, says}
use Rattle.calls.proofs.laws.Follow.{follow-cases}
use Rattle.calls.specs.Refuse.{node_refusal, store_short, unless}
use Rattle.pass.specs.Prepare.{prepare_node}
use Rattle.pass.proofs.laws.Prepare.{prepare-passed}
use Rattle.growth.specs.Growth.{grow_check, grow_apply}
use Rattle.calls.specs.Insert.{prepare_step, insert_defect, defect_put, defect_refusal, insert_blossom, blossom_put, blossom_refusal}
use Rattle.calls.specs.Remove.{remove_refusal, open_prepared, remove_blossom}
use Rattle.calls.specs.Calls.{set_grow_state, prepare_dual_node_growth, max_update_length, readied, grow_prepared, grow_toward, grow_dual_node, signed_for, follow, advance_by, toward, advance, representative_vertex, clear, Call, InsertDefect, InsertBlossom, SetGrowState, Prepare, UpdateLength, Grow, ReadTable, Advance, Contacts, RepresentativeVertex, Clear, RenewActiveList, PrepareAll, GroupLength, Round, RemoveBlossom, LoadEdgeModifier, response, respond}
use Rattle.calls.specs.Round.{renew_active_list, preparing, prepared_all, prepare_all, moving, moved_all, round, GroupReply, group_refusal, group_length}
use Rattle.calls.proofs.laws.Trial.{turn-keeps, tried-keeps}
use Rattle.graph.specs.Active.{join_active, activated, renewed}
use Rattle.calls.proofs.laws.Accepted.{unless-cases, NodeAccepted, node-accepted, defect-accepted, blossom-accepted}
use Rattle.calls.proofs.laws.Remove.{remove-accepted}
use Rattle.reachable.specs.Reachable.{after, Reachable}
use Rattle.reachable.specs.Invariant.{Invariant}
use Rattle.reachable.specs.laws.prepare.Preparation.{invariant-numbers, prepare-invariant}
use Rattle.reachable.specs.laws.Active.{renewed-invariant}
use Rattle.reachable.specs.laws.Growth.{growth-invariant}
use Rattle.reachable.specs.laws.insert.Defect.{defect-invariant}
use Rattle.reachable.specs.laws.insert.Blossom.{blossom-invariant}
use Rattle.calls.specs.Erasures.{EdgeWeight, modifier_refusal, load_edge_modifier}
use Rattle.calls.proofs.laws.Erasures.{modifier-accepted}
use Rattle.reachable.specs.laws.Blank.{initial_labels, blank-clusters, reweighed-blank, reweighed-invariant}
use Rattle.reachable.specs.laws.Calls.{opened-invariant, cleared-invariant, set-invariant}
use Rattle.reachable.specs.Opening.{join_log, logged, after_log, log_of}
use Rattle.reachable.specs.Past.{Tops, OuterBlossom, past, HasPast, PastInvariant}
use Rattle.graph.specs.Sound.{is_removed}
use Rattle.reachable.specs.laws.past.Prepare.{prepare-has-past}
use Rattle.reachable.specs.laws.past.Defect.{defect-has-past}
use Rattle.reachable.specs.laws.past.Growth.{growth-has-past}
use Rattle.reachable.specs.laws.past.States.{states-has-past}
use Rattle.reachable.specs.laws.past.Blossom.{blossom-has-past}
use Rattle.reachable.specs.laws.remove.Opening.{Opens, opens}

-- ---- without nodes there is no past

blank-tops : (g : Graph) (n l : ℕ) → Tops (record { state = blank_state g n l; labels = initial_labels; top = λ m. m })
unfolding blank_state
blank-tops g n l = record {
  outer = λ m e. refl;
  inner = λ m j e. absurd (omega arith);
  over = λ m. refl;
  inside = λ m b. b;
  side = λ t m e. absurd (omega (arith, get_d-zeros (length g.end) t));
  vertex = λ u m e. absurd (omega (arith, get_d-zeros (length g.virtual) u));
}

no-blossom : (g : Graph) (n l q : ℕ) → OuterBlossom (blank_state g n l) q → ⊥
unfolding blank_state
no-blossom g n l q b = omega (arith, b.inside)

blank-past : {log : ℕ → State} (g : Graph) (n l : ℕ) → Invariant (blank_state g n l) → PastInvariant log (blank_state g n l)
blank-past g n l i = record {
  invariant = i;
  has-past = record {
    labels = initial_labels;
    top = λ m. m;
    past =
        past (record { numbers = invariant-numbers i; clusters = blank-clusters g n l; tops = blank-tops g n l })
        (λ q. record { state = blank_state g n l; labels = initial_labels; top = λ m. m })
        (λ q b. absurd (no-blossom g n l q b)) (λ q b. absurd (no-blossom g n l q b)) (λ q b. absurd (no-blossom g n l q b));
  };
}

pub opened-past : {log : ℕ → State} (v e n l : ℕ) (edges : List Edge) (virtuals : List ℕ) (fits : Bool) → open_refusal v e n l edges virtuals fits ≡ 0
    → PastInvariant log (opened v n l edges virtuals)
unfolding opened
opened-past v e n l edges virtuals fits h = blank-past _ n l (unfold opened in (opened-invariant v e n l edges virtuals fits h))

pub cleared-past : {log : ℕ → State} (c : State) → Invariant c → PastInvariant log (cleared c)
unfolding cleared
cleared-past c g = blank-past (with_originals c.graph) c.node_limit c.store_limit (unfold cleared in (cleared-invariant c g))

-- ---- each call

abbrev PastReply : (ℕ → State) → Reply → Type 0
PastReply log r = PastInvariant log r.state

unless-past : {log : ℕ → State} (k : ℕ) (c : State) (r : Reply) → PastInvariant log c → (k ≡ 0 → PastInvariant log r.state)
    → PastInvariant log (unless k c r).state
unfolding says
unless-past {log} k c r g f = unless-cases (PastReply log) k c r (λ e. g) f

-- accepted preparation
prepare-past : {log : ℕ → State} (c : State) → PastInvariant log c → (n d : ℕ) {wrong : Bool} → NodeAccepted c n wrong (store_short c (n ∷ []) 1)
    → PastInvariant log (prepare_node c n d).state
prepare-past c s n d a = record {
  invariant = prepare-invariant c n d s.invariant a.inside a.live a.outer a.room;
  has-past = prepare-has-past c s.has-past n d a.inside a.outer;
}

prepare-call-past : {log : ℕ → State} (c : State) → PastInvariant log c → (n d : ℕ) → PastInvariant log (prepare_dual_node_growth c n d).state
unfolding prepare_dual_node_growth
prepare-call-past c g n d =
    unless-past (node_refusal c n (ltb up d) (store_short c (n ∷ []) 1)) c _ g
    (λ e. prepare-past c g n d (node-accepted c n (ltb up d) (store_short c (n ∷ []) 1) e))

-- accepted growth
growth-past : {log : ℕ → State} (c : State) → PastInvariant log c → (n d l : ℕ) → n < node_count c → is_removed (class_of c n) ≡ false → parent_of c n ≡ 0
    → grow_check c n d l ≡ 0
    → PastInvariant log (grow_apply c n d l)
growth-past c s n d l b live o ok =
    let g : Invariant (grow_apply c n d l) = growth-invariant c s.invariant n d l b live o ok in
    record { invariant = growth-invariant c s.invariant n d l b live o ok; has-past = growth-has-past c s.has-past n d l b o ok (invariant-numbers g) }

grow-toward-past : {log : ℕ → State} (c : State) → PastInvariant log c → (n d l : ℕ) → PastInvariant log (grow_toward c n d l).state
unfolding grow_toward grow_prepared
grow-toward-past {log} c g n d l =
    unless-past (node_refusal c n false (store_short c (n ∷ []) 1)) c _ g
    (λ e.
    let a : NodeAccepted c n false (store_short c (n ∷ []) 1) = node-accepted c n false (store_short c (n ∷ []) 1) e in
    let p : Passed n c (prepare_node c n d).state = prepare-passed c n d in
    let s : PastInvariant log (prepare_node c n d).state = prepare-past c g n d a in
    unless-past (grow_check (prepare_node c n d).state n d l) (prepare_node c n d).state _ s
    (λ q. growth-past (prepare_node c n d).state s n d l (rw p.grow_state a.inside) (rw p.class a.live) (rw p.parent a.outer) q))

grow-past : {log : ℕ → State} (c : State) → PastInvariant log c → (n : ℕ) (l : ℤ) → PastInvariant log (grow_dual_node c n l).state
unfolding grow_dual_node says
grow-past c g n (pos zero) = unless-past (node_refusal c n false false) c _ g (λ e. g)
grow-past c g n (pos (suc l)) = grow-toward-past c g n up (suc l)
grow-past c g n (negsuc l) = grow-toward-past c g n down (suc l)

length-past : {log : ℕ → State} (c : State) → PastInvariant log c → (n d : ℕ) (first : Bool) → PastInvariant log (max_update_length c n d first).state
unfolding max_update_length readied
length-past c g n d false = unless-past (node_refusal c n (ltb up d) (false && store_short c (n ∷ []) 1)) c _ g (λ e. g)
length-past c g n d true =
    unless-past (node_refusal c n (ltb up d) (true && store_short c (n ∷ []) 1)) c _ g
    (λ e. prepare-past c g n d (node-accepted c n (ltb up d) (store_short c (n ∷ []) 1) e))

follow-past : {log : ℕ → State} (c : State) → PastInvariant log c → (n x : ℕ) (a : Answer) → PastInvariant log (follow c n x a).state
unfolding says
follow-past {log} c g n x a = follow-cases (λ (r : Reply). PastInvariant log r.state) c n x a (λ l e. grow-past c g n (signed_for x l)) g

advance-past : {log : ℕ → State} (c : State) → PastInvariant log c → (n : ℕ) → PastInvariant log (advance c n).state
unfolding advance advance_by says
advance-past {log} c g n =
    unless-past (node_refusal c n false false) c _ g
    (λ e.
    if-both (PastReply log) (eqb (grow_state_of c n) stay) g
    (follow-past (max_update_length c n (toward (grow_state_of c n)) true).state (length-past c g n (toward (grow_state_of c n)) true) n (grow_state_of c n)
    (max_update_length c n (toward (grow_state_of c n)) true).answer))

-- opening a blossom, refused or not
pub remove-past : {log : ℕ → State} (c : State) → PastInvariant log c → (n : ℕ) → PastInvariant log (remove_blossom c n).state
unfolding remove_blossom open_prepared says
remove-past {log} c g n =
    unless-past (remove_refusal c n) c _ g
    (λ e.
    let o : Opens log (prepare_node c n down).state n = opens c g n (remove-accepted c n e) in
    rw o.no_stop o.opened)

-- a change of weights, refused or not
weights-past : {log : ℕ → State} (c : State) → PastInvariant log c → (pairs : List EdgeWeight) → PastInvariant log (load_edge_modifier c pairs).state
unfolding load_edge_modifier
weights-past {log} c s pairs =
    unless-past (modifier_refusal c pairs) c _ s
    (λ e.
    let a = modifier-accepted c pairs e in
    subst (PastInvariant log) (sym (reweighed-blank c s.invariant pairs a))
    (blank-past _ _ _ (reweighed-invariant c s.invariant pairs a)))

-- ---- other grow states, another active list

active_past : {log : ℕ → State} (c : State) → HasPast log c → (l : List ℕ) → Invariant (with_active c l) → PastInvariant log (with_active c l)
unfolding with_active
active_past c h l i = record { invariant = i; has-past = states-has-past c h c.nodes.grow_state l refl (invariant-numbers i) }

renewed-past : {log : ℕ → State} (c : State) → PastInvariant log c → PastInvariant log (renewed c)
unfolding renewed
renewed-past c s = active_past c s.has-past _ (unfold renewed in (renewed-invariant c s.invariant))

joined-past : {log : ℕ → State} (c : State) → HasPast log c → (n : ℕ) → Invariant (join_active c n) → PastInvariant log (join_active c n)
unfolding join_active
joined-past c h n i = active_past c h _ i

set_past : {log : ℕ → State} (c : State) → PastInvariant log c → (n x : ℕ) → NodeAccepted c n (ltb shrinking x) false
    → PastInvariant log (with_grow_state (activated c n x) n x)
unfolding activated with_active with_grow_state with_nodes
set_past c s n x a =
    let i : Invariant (with_grow_state (activated c n x) n x) =
    set-invariant c s.invariant n x a.inside a.live a.outer (ltb-false shrinking x a.right) in
    record { invariant = i; has-past = states-has-past c s.has-past _ _ (length-set c.nodes.grow_state n x) (invariant-numbers i) }

-- ---- all clusters at once

prepared-all-past : {log : ℕ → State} (c : State) → PastInvariant log c → PastInvariant log (prepared_all c).state
unfolding prepared_all preparing
prepared-all-past {log} c s =
    turn-keeps (PastInvariant log) (preparing down) (preparing up) (λ d n h. prepare-call-past d h n down) (λ d n h. prepare-call-past d h n up) c
    (renewed-past c s)

moved-all-past : {log : ℕ → State} (c : State) → PastInvariant log c → (l : ℕ) → PastInvariant log (moved_all l c).state
unfolding moved_all moving
moved-all-past {log} c s l =
    turn-keeps (PastInvariant log) (moving down l) (moving up l) (λ d n h. grow-toward-past d h n down l) (λ d n h. grow-toward-past d h n up l) c
    (renewed-past c s)

group-past : {log : ℕ → State} (c : State) → PastInvariant log c → PastInvariant log (group_length c).state
unfolding group_length
group-past {log} c s = if-both (λ (r : GroupReply). PastInvariant log r.state) (eqb (group_refusal (prepared_all c)) 0) (prepared-all-past c s) s

round-past : {log : ℕ → State} (c : State) → PastInvariant log c → (l : ℤ) → PastInvariant log (round c l).state
unfolding round says
round-past c s (pos zero) = s
round-past c s (negsuc l) = s
round-past {log} c s (pos (suc l)) = tried-keeps (PastInvariant log) c (moved_all (suc l) c) Done s (moved-all-past c s (suc l))

-- ---- any call

insert-past : {log : ℕ → State} (c : State) → PastInvariant log c → (x : ℕ) (circle : List ℕ)
    → PastInvariant (if eqb (blossom_refusal c x circle) 0 then join_log log (node_count c) (fold prepare_step c circle) else log) (insert_blossom c x circle).state
unfolding insert_blossom unless says
insert-past c s x circle =
    by-test (eqb (blossom_refusal c x circle) 0)
    (λ e.
    let ok = blossom-accepted c x circle (eqb-true _ _ e) in
    rw e
    (joined-past (blossom_put c x circle) (blossom-has-past c s.invariant s.has-past x circle ok) (node_count c)
    (blossom-invariant c s.invariant x circle ok)))
    (λ e. rw e s)

pub call-past : {log : ℕ → State} (c : State) → PastInvariant log c → (k : Call) → PastInvariant (logged c k log) (respond c k).state
unfolding logged respond response insert_defect set_grow_state representative_vertex says clear renew_active_list prepare_all
call-past c s (InsertDefect v x) =
    unless-past (defect_refusal c v x) c _ s
    (λ e.
    let ok = defect-accepted c v x e in
    joined-past (defect_put c v x) (defect-has-past c s.invariant s.has-past v x ok) (node_count c) (defect-invariant c s.invariant v x ok))
call-past c s (InsertBlossom x circle) = insert-past c s x circle
call-past c s (SetGrowState n x) =
    unless-past (node_refusal c n (ltb shrinking x) false) c _ s (λ e. set_past c s n x (node-accepted c n (ltb shrinking x) false e))
call-past c s (Prepare n d) = prepare-call-past c s n d
call-past c s (UpdateLength n d first) = length-past c s n d first
call-past c s (Grow n l) = grow-past c s n l
call-past c s ReadTable = s
call-past c s (Advance n) = advance-past c s n
call-past c s Contacts = s
call-past c s (RepresentativeVertex n) = s
call-past c s Clear = cleared-past c s.invariant
call-past c s RenewActiveList = renewed-past c s
call-past {log} c s PrepareAll = tried-keeps (PastInvariant log) c (prepared_all c) Done s (prepared-all-past c s)
call-past c s GroupLength = group-past c s
call-past c s (Round l) = round-past c s l
call-past c s (RemoveBlossom n) = remove-past c s n
call-past c s (LoadEdgeModifier pairs) = weights-past c s pairs

-- ---- a list of calls

pub after-past : {log : ℕ → State} (c : State) → PastInvariant log c → (ks : List Call) → PastInvariant (after_log c ks log) (after c ks)
unfolding after after_log
after-past c g [] = g
after-past {log = log} c g (k ∷ ks) = after-past {log = logged c k log} (respond c k).state (call-past c g k) ks

pub reachable-past : (c : State) (r : Reachable c) → PastInvariant (log_of c r) c
unfolding log_of
reachable-past c r =
    subst (PastInvariant (log_of c r)) (sym r.is)
    (after-past (opened r.vertices r.nodes r.store r.edges r.virtuals)
    (opened-past r.vertices r.edge_number r.nodes r.store r.edges r.virtuals r.fits r.accepted-opening) r.calls)

pub reachable-invariant : (c : State) → Reachable c → Invariant c
reachable-invariant c r = (reachable-past c r).invariant
