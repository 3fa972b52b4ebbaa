-- The state matches its history after every call but an accepted blossom: the same nodes, each an outermost defect.
use Rattle.std.specs.Prelude.{ℕ, zero, suc, ◌+◌, ◌<◌, ◌≡◌, refl, Bool, true, false, ◌&&◌, List, [], ◌∷◌, ◌++◌, map, ℤ, pos, negsuc, ◌+ℤ◌, eqb, ltb, length, get_or, set, if◌then◌else◌}
use Rattle.std.proofs.Common.{add-zero, arith, sym, ap, ◌∙◌, length-set, length-append, get_or-set_same, get_or-set_other, eqb-true}
use Rattle.std.proofs.Math.Decide.{ℕ_discrete as dec_eq, dec_lt}
use Rattle.std.proofs.Math.Logic.{by_cases}
use Rattle.std.proofs.lemmas.List.{length-map, get_or_at}
use Rattle.std.proofs.Math.ListN.{get_or-append, get_or-map}
use Rattle.std.proofs.lemmas.Bool.{not-true, eqb-false}
use Rattle.graph.specs.State.{State, Graph as StateGraph, Nodes, defect_vertex, node_count, class_of, grow_state_of, parent_of, dual_of, with_active, with_nodes, with_grow_state as state_with, stay, growing, shrinking, up, down}
use Rattle.graph.specs.Node.{moved}
use Rattle.graph.specs.Open.{blank_state, with_originals, cleared}
use Rattle.graph.specs.laws.State.{if-both, and_left, and_right}
use Rattle.graph.specs.laws.Members.{by-test, clash}
use Rattle.pass.specs.Prepare.{prepare_node}
use Rattle.pass.proofs.laws.Passes.{Passed}
use Rattle.pass.proofs.laws.Prepare.{prepare-passed}
use Rattle.answers.specs.Outcome.{Answer}
use Rattle.answers.specs.Outcome.{Length, Done, Node, Prepared, Refused, Vertex}
use Rattle.answers.specs.declared.MaxUpdateLength.TheVariants.{Unlimited}
use Rattle.answers.specs.laws.Answer.{free-cases, free_other}
use Rattle.calls.proofs.laws.Follow.{follow-other}
use Rattle.answers.specs.Answer.{Reply, says}
use Rattle.calls.specs.Refuse.{node_refusal, store_short}
use Rattle.growth.specs.Growth.{grow_check}
use Rattle.calls.specs.Insert.{insert_defect, defect_put, defect_refusal, insert_blossom, blossom_refusal}
use Rattle.calls.specs.Calls.{set_grow_state, prepare_dual_node_growth, max_update_length, readied, grow_prepared, grow_toward, grow_dual_node, signed_for, follow, advance_by, toward, advance, representative_vertex, clear, Call, InsertDefect, InsertBlossom, SetGrowState, Prepare, UpdateLength, Grow, ReadTable, Advance, Contacts, RepresentativeVertex, Clear, RenewActiveList, PrepareAll, GroupLength, Round, RemoveBlossom, LoadEdgeModifier, response, respond}
use Rattle.graph.specs.Active.{activated, join_active, renewed}
use Rattle.calls.specs.Round.{renew_active_list, preparing, prepared_all, prepare_all, GroupReply, group_refusal, group_length, moved_all, tried, round}
use Rattle.calls.specs.Remove.{is_blossom}
use Rattle.calls.specs.Erasures.{modifier_refusal, reweighed, load_edge_modifier}
use Rattle.calls.proofs.laws.Erasures.{only-weights}
use Rattle.calls.proofs.laws.RemoveCall.{remove-nothing}
use Rattle.calls.proofs.laws.Trial.{turn-keeps, tried-keeps}
use Rattle.calls.proofs.laws.Accepted.{unless-cases, node-accepted, defect-accepted}
use Rattle.growth.proofs.laws.Accepted.{shrink-accepted}
use Rattle.reachable.specs.Invariant.{Invariant}
use Rattle.reachable.specs.laws.prepare.Preparation.{invariant-numbers}
use Rattle.reachable.specs.laws.insert.DefectState.{DefectMade, defect-made}
use Rattle.reachable.specs.laws.state.Live.{class-beyond}
use Rattle.reachable.specs.laws.Calls.{opens_none, call-invariant}
use Rattle.reachable.specs.Reachable.{after}
use Rattle.table_theorem.specs.Answers.{accepted, is_done, limit_of}
use Rattle.table_theorem.specs.History.{Entry, History, no_entry, entry_at, round_length, with_round, with_node_state, with_added, advance_length, recorded, history_from, no_blossom, no_blossoms}
use Rattle.table_theorem.specs.Runs.{SameNodes}
use Rattle.table_theorem.proofs.laws.Moved.{Changed, changed-none, growth-changes, pos-minus, AllMoved, round-moved}

-- the state c has the nodes of the history h, each outermost
pub record Matches (c : State) (h : History) : Type 0 where
  pub outer : (n : ℕ) → n < node_count c → parent_of c n ≡ 0
  pub nodes : SameNodes c h

-- preparation changes nothing that the history has
prepared-matches : {c : State} {h : History} → Matches c h → (n d : ℕ) → Matches (prepare_node c n d).state h
prepared-matches {c} {h} i n d =
    let p : Passed n c (prepare_node c n d).state = prepare-passed c n d in
    record {
      outer = λ m b. rw p.parent (i.outer m (rw p.grow_state at b));
      nodes = record {
        count = rw p.grow_state i.nodes.count;
        agrees = λ m b.
            let a = i.nodes.agrees m (rw p.grow_state at b) in
            record { vertex = rw p.class a.vertex; grow_state = rw p.grow_state a.grow_state; dual = rw p.dual a.dual };
      };
    }

-- node n is moved by l, in the state and in the history
added-matches : {c d : State} {h : History} (n z : ℕ) (l : ℤ) → Matches c h → n < node_count c → Changed n z c d → pos (dual_of c n) +ℤ l ≡ pos z → Matches d (with_added h n l)
unfolding with_added
added-matches {c} {d} {h} n z l i hn t e =
    let s : node_count d ≡ node_count c = ap (λ (k : List ℕ). length k) t.grow_state in
    let r : Entry = record { vertex = (entry_at h n).vertex; grow_state = (entry_at h n).grow_state; y = (entry_at h n).y +ℤ l } in
    record {
      outer = λ m b. rw t.parent (i.outer m (rw s at b));
      nodes = record {
        count = s ∙ i.nodes.count ∙ sym (length-set h n r);
        agrees = λ m b.
            by_cases (dec_eq m n)
            (λ k.
            let f : entry_at (set h n r) m ≡ r = rw k (get_or-set_same h n r no_entry (rw (← i.nodes.count) hn)) in
            let a = i.nodes.agrees n hn in
            record {
              vertex = rw t.class (rw k a.vertex ∙ sym (ap (λ (x : Entry). defect_vertex x.vertex) f));
              grow_state = rw t.grow_state (rw k a.grow_state ∙ sym (ap (λ (x : Entry). x.grow_state) f));
              dual = rw k (ap pos t.here) ∙ sym e ∙ ap (λ (x : ℤ). x +ℤ l) a.dual ∙ sym (ap (λ (x : Entry). x.y) f);
            })
            (λ k.
            let f : entry_at (set h n r) m ≡ entry_at h m = get_or-set_other h n m r no_entry k in
            let a = i.nodes.agrees m (rw s at b) in
            record { vertex = rw (t.class, f) a.vertex; grow_state = rw (t.grow_state, f) a.grow_state; dual = rw (t.there m k, f) a.dual });
      };
    }

-- nothing is added
nothing-added-matches : {c : State} {h : History} → Matches c h → (n : ℕ) → n < node_count c → Matches c (with_added h n (pos 0))
nothing-added-matches {c} i n hn = added-matches n (dual_of c n) (pos 0) i hn (changed-none n c) (ap pos (add-zero (dual_of c n)))

-- ---- growth

-- what a reply leaves, and the history with l added to node n where it is done
abbrev Leaves : History → ℕ → ℤ → Reply → Type 0
Leaves h n l r = Matches r.state (if is_done r.answer then with_added h n l else h)

refused-leaves : {c : State} {h : History} (n : ℕ) (l : ℤ) (k : ℕ) → Matches c h → Leaves h n l (says (Refused k) c)
unfolding says is_done
refused-leaves n l k i = i

-- growth by k in direction d, which is the signed length l
toward-leaves : {c : State} {h : History} → Matches c h → length c.nodes.dual ≡ node_count c → (n d k : ℕ) (l : ℤ)
    → ((b : State) → grow_check b n d k ≡ 0 → pos (dual_of b n) +ℤ l ≡ pos (moved d k (dual_of b n)))
    → Leaves h n l (grow_toward c n d k)
unfolding grow_toward grow_prepared is_done
toward-leaves {c} {h} i len n d k l adds =
    let p : Passed n c (prepare_node c n d).state = prepare-passed c n d in
    unless-cases (Leaves h n l) (node_refusal c n false (store_short c (n ∷ []) 1)) c _
    (λ e. refused-leaves n l _ i)
    (λ e.
    let hn : n < node_count c = (node-accepted c n false (store_short c (n ∷ []) 1) e).inside in
    let hp : n < node_count (prepare_node c n d).state = rw p.grow_state hn in
    let hd : n < length (prepare_node c n d).state.nodes.dual = rw (p.dual, len) hn in
    let j : Matches (prepare_node c n d).state h = prepared-matches i n d in
    unless-cases (Leaves h n l) (grow_check (prepare_node c n d).state n d k) (prepare_node c n d).state _
    (λ z. refused-leaves n l _ j)
    (λ z. added-matches n _ l j hp (growth-changes (prepare_node c n d).state n d k hd) (adds (prepare_node c n d).state z)))

grow-leaves : {c : State} {h : History} → Matches c h → length c.nodes.dual ≡ node_count c → (n : ℕ) (l : ℤ) → Leaves h n l (grow_dual_node c n l)
unfolding grow_dual_node says is_done moved
grow-leaves {c} {h} i len n (pos zero) =
    unless-cases (Leaves h n (pos 0)) (node_refusal c n false false) c _
    (λ e. refused-leaves n (pos 0) (node_refusal c n false false) i)
    (λ e. nothing-added-matches i n (node-accepted c n false false e).inside)
grow-leaves i len n (pos (suc l)) = toward-leaves i len n up (suc l) (pos (suc l)) (λ b z. refl)
grow-leaves i len n (negsuc l) = toward-leaves i len n down (suc l) (negsuc l) (λ b z. pos-minus (dual_of b n) l (shrink-accepted b n down (suc l) refl z).dual)

-- ---- preparation, length, states

length-matches : {c : State} {h : History} → Matches c h → (n d : ℕ) (first : Bool) → Matches (max_update_length c n d first).state h
unfolding max_update_length readied says
length-matches {c} {h} i n d first =
    unless-cases (λ r. Matches r.state h) (node_refusal c n (ltb up d) (first && store_short c (n ∷ []) 1)) c _
    (λ e. i)
    (λ e. if-both (λ x. Matches x h) first (prepared-matches i n d) i)

prepare-matches : {c : State} {h : History} → Matches c h → (n d : ℕ) → Matches (prepare_dual_node_growth c n d).state h
unfolding prepare_dual_node_growth says
prepare-matches {c} {h} i n d =
    unless-cases (λ r. Matches r.state h) (node_refusal c n (ltb up d) (store_short c (n ∷ []) 1)) c _
    (λ e. i)
    (λ e. prepared-matches i n d)

-- the length of the list of dual variables, after a length call
duals-length : (c : State) (n d : ℕ) → length c.nodes.dual ≡ node_count c → length (max_update_length c n d true).state.nodes.dual ≡ node_count (max_update_length c n d true).state
unfolding max_update_length readied says
duals-length c n d len =
    let p : Passed n c (prepare_node c n d).state = prepare-passed c n d in
    unless-cases (λ r. length r.state.nodes.dual ≡ node_count r.state) (node_refusal c n (ltb up d) (store_short c (n ∷ []) 1)) c _
    (λ e. len)
    (λ e. rw (p.dual, p.grow_state) len)

grow-state-matches : {c : State} {h : History} → Matches c h → (n x : ℕ) → n < node_count c → Matches (state_with c n x) (with_node_state h n x)
unfolding state_with with_node_state with_nodes
grow-state-matches {c} {h} i n x hn =
    let s : length (set c.nodes.grow_state n x) ≡ node_count c = length-set c.nodes.grow_state n x in
    let r : Entry = record { vertex = (entry_at h n).vertex; grow_state = x; y = (entry_at h n).y } in
    record {
      outer = λ m b. i.outer m (rw s at b);
      nodes = record {
        count = s ∙ i.nodes.count ∙ sym (length-set h n r);
        agrees = λ m b.
            by_cases (dec_eq m n)
            (λ k.
            let f : entry_at (set h n r) m ≡ r = rw k (get_or-set_same h n r no_entry (rw (← i.nodes.count) hn)) in
            let a = i.nodes.agrees n hn in
            record {
              vertex = rw k a.vertex ∙ sym (ap (λ (z : Entry). defect_vertex z.vertex) f);
              grow_state = rw k (get_or-set_same c.nodes.grow_state n x 0 hn) ∙ sym (ap (λ (z : Entry). z.grow_state) f);
              dual = rw k a.dual ∙ sym (ap (λ (z : Entry). z.y) f);
            })
            (λ k.
            let f : entry_at (set h n r) m ≡ entry_at h m = get_or-set_other h n m r no_entry k in
            let a = i.nodes.agrees m (rw s at b) in
            record { vertex = rw f a.vertex; grow_state = rw f (get_or-set_other c.nodes.grow_state n m x 0 k ∙ a.grow_state); dual = rw f a.dual });
      };
    }

-- the active list is no part of the history
active-matches : {c : State} {h : History} (d : State) → d.nodes ≡ c.nodes → Matches c h → Matches d h
active-matches {c} {h} d f i =
    let s : node_count d ≡ node_count c = ap (λ (x : Nodes). length x.grow_state) f in
    record {
      outer = λ m b. ap (λ (x : Nodes). get_or x.parent m 0) f ∙ i.outer m (rw s at b);
      nodes = record {
        count = s ∙ i.nodes.count;
        agrees = λ m b.
            let a = i.nodes.agrees m (rw s at b) in
            record { vertex = ap (λ (x : Nodes). get_or x.class m (defect_vertex 0)) f ∙ a.vertex; grow_state = ap (λ (x : Nodes). get_or x.grow_state m 0) f ∙ a.grow_state; dual = ap (λ (x : Nodes). pos (get_or x.dual m 0)) f ∙ a.dual };
      };
    }

set-state-matches : {c : State} {h : History} → Matches c h → (n x : ℕ) → Matches (set_grow_state c n x).state (if accepted (set_grow_state c n x).answer then with_node_state h n x else h)
unfolding set_grow_state says accepted activated with_active
set-state-matches {c} {h} i n x =
    unless-cases (λ r. Matches r.state (if accepted r.answer then with_node_state h n x else h)) (node_refusal c n (ltb shrinking x) false) c _
    (λ e. i)
    (λ e. grow-state-matches (active-matches (activated c n x) refl i) n x (node-accepted c n (ltb shrinking x) false e).inside)

-- ---- advance

signed-none : (x : ℕ) → signed_for x (pos 0) ≡ pos 0
unfolding signed_for
signed-none x = if-both (λ (l : ℤ). l ≡ pos 0) (eqb x growing) refl refl

-- an answer that is handed back adds nothing
handed-leaves : {c : State} {h : History} → Matches c h → (n x : ℕ) → n < node_count c → (a : Answer) → Leaves h n (signed_for x (pos 0)) (says a c)
unfolding says is_done
handed-leaves i n x hn (Length m) = i
handed-leaves i n x hn Done = rw (signed-none x) (nothing-added-matches i n hn)
handed-leaves i n x hn (Node m) = i
handed-leaves i n x hn (Prepared k) = i
handed-leaves i n x hn (Vertex v) = i
handed-leaves i n x hn (Refused k) = i

follow-leaves : {c : State} {h : History} → Matches c h → length c.nodes.dual ≡ node_count c → (n x : ℕ) → n < node_count c → (a : Answer)
    → Leaves h n (signed_for x (limit_of a)) (follow c n x a)
unfolding follow limit_of
follow-leaves {c} {h} i len n x hn =
    free-cases (λ a. Leaves h n (signed_for x (limit_of a)) (follow c n x a)) (λ l e. grow-leaves i len n (signed_for x l))
    (λ e. handed-leaves i n x hn (Length (Unlimited e)))
    (λ a k. rw (follow-other c n x a k, free_other (pos 0) (λ l e. l) (λ e. pos 0) a k) (handed-leaves i n x hn a))

advance-leaves : {c : State} {h : History} → Matches c h → length c.nodes.dual ≡ node_count c → (n : ℕ) → Leaves h n (advance_length c n (entry_at h n).grow_state) (advance c n)
unfolding advance advance_by advance_length says is_done
advance-leaves {c} {h} i len n =
    unless-cases (Leaves h n (advance_length c n (entry_at h n).grow_state)) (node_refusal c n false false) c _
    (λ e. i)
    (λ e.
    let hn : n < node_count c = (node-accepted c n false false e).inside in
    let j : Matches (max_update_length c n (toward (grow_state_of c n)) true).state h = length-matches i n (toward (grow_state_of c n)) true in
    rw (← (i.nodes.agrees n hn).grow_state) (by-test (eqb (grow_state_of c n) stay)
    (λ k. rw k (nothing-added-matches i n hn))
    (λ k. rw k (follow-leaves j (duals-length c n (toward (grow_state_of c n)) len) n (grow_state_of c n) (let a = j.nodes.count in let b = i.nodes.count in omega arith) (max_update_length c n (toward (grow_state_of c n)) true).answer))))

-- ---- insertion

defect-put-matches : {c : State} {h : History} → Invariant c → Matches c h → (v x : ℕ) → defect_refusal c v x ≡ 0 → Matches (defect_put c v x) (h ++ (record { vertex = v; grow_state = x; y = pos 0 } ∷ []))
defect-put-matches {c} {h} g i v x e =
    let p : DefectMade c v x (defect_put c v x) = defect-made c (invariant-numbers g) v x (defect-accepted c v x e) in
    let r : Entry = record { vertex = v; grow_state = x; y = pos 0 } in
    record {
      outer = λ m b. by_cases (dec_eq m (node_count c))
          (λ k. rw k p.parent-new)
          (λ k. let hm : m < node_count c = omega (arith, p.made-count) in p.parent-old m hm ∙ i.outer m hm);
      nodes = record {
        count = p.made-count ∙ ap suc i.nodes.count ∙ let z : suc (length h) ≡ length h + 1 = omega arith in z ∙ sym (length-append h (r ∷ []));
        agrees = λ m b. by_cases (dec_eq m (node_count c))
            (λ k.
            let f : entry_at (h ++ (r ∷ [])) m ≡ r = get_or_at h r [] no_entry m (sym i.nodes.count ∙ sym k) in
            record {
              vertex = rw k p.class-new ∙ sym (ap (λ (z : Entry). defect_vertex z.vertex) f);
              grow_state = rw k p.grow-state-new ∙ sym (ap (λ (z : Entry). z.grow_state) f);
              dual = rw k (ap pos p.dual-new) ∙ sym (ap (λ (z : Entry). z.y) f);
            })
            (λ k.
            let hm : m < node_count c = omega (arith, p.made-count) in
            let f : entry_at (h ++ (r ∷ [])) m ≡ entry_at h m = get_or-append h (r ∷ []) no_entry m (rw (← i.nodes.count) hm) in
            let a = i.nodes.agrees m hm in
            record { vertex = rw f (p.class-old m hm ∙ a.vertex); grow_state = rw f (p.grow-state-old m hm ∙ a.grow_state); dual = rw f (ap pos (p.dual-old m hm) ∙ a.dual) });
      };
    }

insert-defect-matches : {c : State} {h : History} → Invariant c → Matches c h → (v x : ℕ) → Matches (insert_defect c v x).state (if accepted (insert_defect c v x).answer then h ++ (record { vertex = v; grow_state = x; y = pos 0 } ∷ []) else h)
unfolding insert_defect says accepted join_active with_active
insert-defect-matches {c} {h} g i v x =
    unless-cases (λ r. Matches r.state (if accepted r.answer then h ++ (record { vertex = v; grow_state = x; y = pos 0 } ∷ []) else h)) (defect_refusal c v x) c _
    (λ e. i)
    (λ e. active-matches (join_active (defect_put c v x) (node_count c)) refl (defect-put-matches g i v x e))

refused-blossom-matches : {c : State} {h : History} → Matches c h → (x : ℕ) (circle : List ℕ) → accepted (insert_blossom c x circle).answer ≡ false → Matches (insert_blossom c x circle).state h
unfolding insert_blossom says accepted
refused-blossom-matches {c} {h} i x circle =
    unless-cases (λ r. accepted r.answer ≡ false → Matches r.state h) (blossom_refusal c x circle) c _
    (λ e z. i)
    (λ e z. clash true refl z)

-- ---- all clusters at once

prepared-all-matches : {c : State} {h : History} → Matches c h → Matches (prepared_all c).state h
unfolding prepared_all preparing renewed with_active
prepared-all-matches {c} {h} i =
    turn-keeps (λ x. Matches x h) (preparing down) (preparing up) (λ d n j. prepare-matches j n down) (λ d n j. prepare-matches j n up) c (active-matches (renewed c) refl i)

group-matches : {c : State} {h : History} → Matches c h → Matches (group_length c).state h
unfolding group_length
group-matches {c} {h} i = if-both (λ (r : GroupReply). Matches r.state h) (eqb (group_refusal (prepared_all c)) 0) (prepared-all-matches i) i

-- the state after an accepted round, and the history with the round
all-moved-matches : {c d : State} {h : History} (l : ℕ) → Matches c h → AllMoved (suc l) c d → Matches d (map (with_round (pos (suc l))) h)
unfolding with_round round_length
all-moved-matches {c} {d} {h} l i p =
    let s : node_count d ≡ node_count c = ap (λ (k : List ℕ). length k) p.grow_state in
    record {
      outer = λ m b. rw p.parent (i.outer m (rw s at b));
      nodes = record {
        count = s ∙ i.nodes.count ∙ sym (length-map h (with_round (pos (suc l))));
        agrees = λ m b.
            let b' : m < node_count c = rw s at b in
            let a = i.nodes.agrees m b' in
            let f : entry_at (map (with_round (pos (suc l))) h) m ≡ with_round (pos (suc l)) (entry_at h m) = get_or-map (with_round (pos (suc l))) h m no_entry in
            let g : grow_state_of c m ≡ (entry_at h m).grow_state = a.grow_state in
            record {
              vertex = rw f (rw p.class a.vertex);
              grow_state = rw f (rw p.grow_state a.grow_state);
              dual =
                  by-test (eqb (grow_state_of c m) growing)
                  (λ e. rw (p.grow m b' (eqb-true _ _ e), f, ← a.dual, ← g, e) refl)
                  (λ e. by-test (eqb (grow_state_of c m) shrinking)
                  (λ k. rw (p.shrink m b' (eqb-true _ _ k), f, ← a.dual, ← g, e, k) (sym (pos-minus (dual_of c m) l (p.falls m b' (eqb-true _ _ k)))))
                  (λ k. rw (p.other m b' (eqb-false _ _ e) (eqb-false _ _ k), f, ← a.dual, ← g, e, k) (ap pos (sym (add-zero (dual_of c m))))));
            };
      };
    }

round-matches : {c : State} {h : History} → Invariant c → Matches c h → (l : ℤ) → Matches (round c l).state (if is_done (round c l).answer then map (with_round l) h else h)
unfolding round says is_done tried
round-matches g i (pos zero) = i
round-matches g i (negsuc l) = i
round-matches {c} {h} g i (pos (suc l)) =
    unless-cases (λ r. Matches r.state (if is_done r.answer then map (with_round (pos (suc l))) h else h)) (moved_all (suc l) c).refusal c _
    (λ e. i)
    (λ e. all-moved-matches l i (round-moved c g (suc l) e))

pub blank-matches : (q : StateGraph) (n l : ℕ) → Matches (blank_state q n l) []
unfolding blank_state
blank-matches q n l = record { outer = λ m b. absurd (omega arith); nodes = record { count = refl; agrees = λ m b. absurd (omega arith) } }

-- ---- without a blossom none is opened

plain : (c : State) (n v : ℕ) → class_of c n ≡ defect_vertex v → is_blossom (class_of c n) ≡ false
unfolding is_blossom
plain c n v e = rw e

no-blossom-at : {c : State} {h : History} → Invariant c → Matches c h → (n : ℕ) → is_blossom (class_of c n) ≡ false
no-blossom-at {c} {h} g i n =
    by_cases (dec_lt n (node_count c))
    (λ b. plain c n (entry_at h n).vertex (i.nodes.agrees n b).vertex)
    (λ b. plain c n 0 (class-beyond c g.shape n (omega arith)))

opens-none : {c : State} {h : History} → Invariant c → Matches c h → (k : Call) → opens_none c k ≡ true
unfolding opens_none
opens-none {c} g i (RemoveBlossom n) = rw (no-blossom-at g i n)
opens-none g i (InsertDefect v x) = refl
opens-none g i (InsertBlossom x circle) = refl
opens-none g i (SetGrowState n x) = refl
opens-none g i (Prepare n d) = refl
opens-none g i (UpdateLength n d first) = refl
opens-none g i (Grow n l) = refl
opens-none g i ReadTable = refl
opens-none g i (Advance n) = refl
opens-none g i Contacts = refl
opens-none g i (RepresentativeVertex n) = refl
opens-none g i Clear = refl
opens-none g i RenewActiveList = refl
opens-none g i PrepareAll = refl
opens-none g i GroupLength = refl
opens-none g i (Round l) = refl
opens-none g i (LoadEdgeModifier pairs) = refl

-- ---- any call, and a list of calls

pub call-matches : {c : State} {h : History} → Invariant c → Matches c h → (k : Call) → no_blossom c k ≡ true → Matches (respond c k).state (recorded c h k)
unfolding respond response recorded no_blossom representative_vertex says clear cleared accepted renew_active_list prepare_all renewed with_active load_edge_modifier
call-matches g i (InsertDefect v x) b = insert-defect-matches g i v x
call-matches g i (InsertBlossom x circle) b = refused-blossom-matches i x circle (not-true _ b)
call-matches g i (SetGrowState n x) b = set-state-matches i n x
call-matches g i (Prepare n d) b = prepare-matches i n d
call-matches g i (UpdateLength n d first) b = length-matches i n d first
call-matches g i (Grow n l) b = grow-leaves i g.shape.dual n l
call-matches g i ReadTable b = i
call-matches g i (Advance n) b = advance-leaves i g.shape.dual n
call-matches g i Contacts b = i
call-matches g i (RepresentativeVertex n) b = i
call-matches {c} g i RenewActiveList b = active-matches (renewed c) refl i
call-matches {c} {h} g i PrepareAll b = tried-keeps (λ x. Matches x h) c (prepared_all c) Done i (prepared-all-matches i)
call-matches g i GroupLength b = group-matches i
call-matches g i (Round l) b = round-matches g i l
call-matches {c} g i (RemoveBlossom n) b = rw (remove-nothing c n (no-blossom-at g i n)) i
call-matches {c} g i Clear b = blank-matches (with_originals c.graph) c.node_limit c.store_limit
call-matches {c} {h} g i (LoadEdgeModifier pairs) b =
    unless-cases (λ (r : Reply). Matches r.state h) (modifier_refusal c pairs) c _
    (λ e. i)
    (λ e. active-matches (reweighed c pairs) (only-weights c pairs).nodes i)

pub calls-match : (c : State) (h : History) → Invariant c → Matches c h → (ks : List Call) → no_blossoms c ks ≡ true → Matches (after c ks) (history_from c h ks)
unfolding after history_from no_blossoms
calls-match c h g i [] b = i
calls-match c h g i (k ∷ ks) b =
    let rest : Bool = no_blossoms (respond c k).state ks in
    calls-match (respond c k).state (recorded c h k) (call-invariant c g k (opens-none g i k))
    (call-matches g i k (and_left (no_blossom c k) rest b)) ks (and_right (no_blossom c k) rest b)
