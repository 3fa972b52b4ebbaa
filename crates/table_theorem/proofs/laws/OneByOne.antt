-- An accepted round is its growths, one by one: the same state, and the same history.
use Rattle.std.specs.Prelude.{ℕ, suc, ◌<◌, ◌≡◌, true, List, [], ◌∷◌, ◌++◌, map, ℤ, pos, negsuc, eqb, length}
use Rattle.std.proofs.Common.{arith, ◌∙◌, ext_get_or, eqb-true}
use Rattle.std.proofs.Math.Path.{refl, sym, ap}
use Rattle.graph.specs.Basic.{fold}
use Rattle.graph.specs.State.{State, NodeClass, defect_vertex, blossom, removed, node_count, growing, shrinking, up, down}
use Rattle.graph.specs.Active.{renewed, active_in}
use Rattle.graph.specs.laws.Members.{by-test, clash}
use Rattle.answers.specs.Answer.{Reply, says}
use Rattle.calls.specs.Refuse.{unless}
use Rattle.calls.specs.Calls.{grow_toward, grow_dual_node, Call, Grow, Round, response, respond}
use Rattle.calls.specs.Round.{Tried, try_all, tried, renew_active_list, moving, moved_all, round}
use Rattle.calls.proofs.laws.Trial.{begun, Stepped, try-step, Turned, turn-accepted}
use Rattle.reachable.specs.Invariant.{Invariant}
use Rattle.reachable.specs.Reachable.{after}
use Rattle.table_theorem.specs.Answers.{is_done}
use Rattle.table_theorem.specs.History.{Entry, History, no_entry, entry_at, recorded, history_from, no_blossom, no_blossoms, growths_of}
use Rattle.table_theorem.specs.Runs.{Agrees}
use Rattle.table_theorem.proofs.laws.History.{Matches, call-matches, calls-match}

-- ---- the state

after-append : (c : State) (xs ys : List Call) → after c (xs ++ ys) ≡ after (after c xs) ys
unfolding after
after-append c [] ys = refl
after-append c (x ∷ xs) ys = after-append (respond c x).state xs ys

-- calls of growth by the signed length x are the trial's moves by l in direction d
each-grown : (d l : ℕ) (x : ℤ) → ((c : State) (n : ℕ) → grow_dual_node c n x ≡ grow_toward c n d l)
    → (ns : List ℕ) (c : State) → (try_all (moving d l) (begun c) ns).refusal ≡ 0
    → after c (map (λ n. Grow n x) ns) ≡ (try_all (moving d l) (begun c) ns).state
unfolding after respond response
each-grown d l x e [] c h = unfold try_all fold in refl
each-grown d l x e (n ∷ ns) c h =
    let s : Stepped (moving d l) c n ns = try-step (moving d l) c n ns h in
    let c₁ : State = (grow_toward c n d l).state in
    let next : try_all (moving d l) (begun c) (n ∷ ns) ≡ try_all (moving d l) (begun c₁) ns = unfold moving in s.next in
    ap (λ (b : State). after b (map (λ m. Grow m x) ns)) (ap (λ (r : Reply). r.state) (e c n))
    ∙ each-grown d l x e ns c₁ (rw next at h) ∙ ap (λ (u : Tried). u.state) (sym next)

pub growths-leave : (c : State) (l : ℕ) → (moved_all (suc l) c).refusal ≡ 0 → after c (growths_of c l) ≡ (moved_all (suc l) c).state
unfolding after respond response renew_active_list moved_all
growths-leave c l h =
    let t : Turned (moving down (suc l)) (moving up (suc l)) c = turn-accepted (moving down (suc l)) (moving up (suc l)) c h in
    let r : State = renewed c in
    let ms : List ℕ = active_in r shrinking in
    let ns : List ℕ = active_in r growing in
    let a : after r (map (λ n. Grow n (negsuc l)) ms) ≡ (try_all (moving down (suc l)) (begun r) ms).state =
    each-grown down (suc l) (negsuc l) (λ d n. unfold grow_dual_node in refl) ms r t.shrunk in
    after-append r (map (λ n. Grow n (negsuc l)) ms) (map (λ n. Grow n (pos (suc l))) ns)
    ∙ ap (λ (d : State). after d (map (λ n. Grow n (pos (suc l))) ns)) a
    ∙ each-grown up (suc l) (pos (suc l)) (λ d n. unfold grow_dual_node in refl) ns _ t.grown
    ∙ sym t.state

-- ---- the history

grows-plain : (c : State) (x : ℤ) (ns : List ℕ) (ks : List Call) → ((d : State) → no_blossoms d ks ≡ true) → no_blossoms c (map (λ n. Grow n x) ns ++ ks) ≡ true
unfolding no_blossoms no_blossom
grows-plain c x [] ks f = f c
grows-plain c x (n ∷ ns) ks f = grows-plain (respond c (Grow n x)).state x ns ks f

append-nil : (c : State) (x : ℤ) (ns : List ℕ) → no_blossoms c (map (λ n. Grow n x) ns) ≡ true
unfolding no_blossoms no_blossom
append-nil c x [] = refl
append-nil c x (n ∷ ns) = append-nil (respond c (Grow n x)).state x ns

pub growths-plain : (c : State) (l : ℕ) → no_blossoms c (growths_of c l) ≡ true
unfolding no_blossoms no_blossom
growths-plain c l =
    grows-plain _ (negsuc l) (active_in (renewed c) shrinking)
    (map (λ n. Grow n (pos (suc l))) (active_in (renewed c) growing))
    (λ d. append-nil d (pos (suc l)) (active_in (renewed c) growing))

-- a state has one history
vertex_in : NodeClass → ℕ
vertex_in (defect_vertex v) = v
vertex_in (blossom m) = 0
vertex_in removed = 0

entries-agree : (c : State) (h k : History) (n : ℕ) → Agrees c h n → Agrees c k n → entry_at h n ≡ entry_at k n
unfolding vertex_in
entries-agree c h k n a b =
    let v : (entry_at h n).vertex ≡ (entry_at k n).vertex = ap vertex_in (sym a.vertex ∙ b.vertex) in
    let s : (entry_at h n).grow_state ≡ (entry_at k n).grow_state = sym a.grow_state ∙ b.grow_state in
    let y : (entry_at h n).y ≡ (entry_at k n).y = sym a.dual ∙ b.dual in
    entry-eq (entry_at h n) (entry_at k n) v s y
  where
    entry-eq : (e f : Entry) → e.vertex ≡ f.vertex → e.grow_state ≡ f.grow_state → e.y ≡ f.y → e ≡ f
    entry-eq e f v s y =
        ap (λ (x : ℕ). record { vertex = x; grow_state = e.grow_state; y = e.y }) v
        ∙ ap (λ (x : ℕ). record { vertex = f.vertex; grow_state = x; y = e.y }) s
        ∙ ap (λ (x : ℤ). record { vertex = f.vertex; grow_state = f.grow_state; y = x }) y

not-refused : (c : State) (l : ℕ) → is_done (round c (pos (suc l))).answer ≡ true → (moved_all (suc l) c).refusal ≡ 0
unfolding round tried unless says is_done
not-refused c l h = by-test (eqb (moved_all (suc l) c).refusal 0) (λ e. eqb-true _ _ e) (λ e. clash true refl (sym (rw e at h)))

taken : (c : State) (l : ℕ) → (moved_all (suc l) c).refusal ≡ 0 → (round c (pos (suc l))).state ≡ (moved_all (suc l) c).state
unfolding round tried unless says
taken c l e = rw e refl

pub one-history : (c : State) (h k : History) → Matches c h → Matches c k → h ≡ k
one-history c h k i j =
    ext_get_or no_entry h k (sym i.nodes.count ∙ j.nodes.count)
    (λ n b. let e : node_count c ≡ length h = i.nodes.count in
    let b' : n < node_count c = omega arith in
    entries-agree c h k n (i.nodes.agrees n b') (j.nodes.agrees n b'))

round-matched : {c : State} {h : History} → Invariant c → Matches c h → (l : ℤ) → Matches (round c l).state (recorded c h (Round l))
unfolding respond response no_blossom
round-matched g i l = call-matches g i (Round l) refl

-- the theorem
pub round-one-by-one : {c : State} {h : History} → Invariant c → Matches c h → (l : ℕ) → is_done (round c (pos (suc l))).answer ≡ true
    → (after c (growths_of c l) ≡ (round c (pos (suc l))).state) × (history_from c h (growths_of c l) ≡ recorded c h (Round (pos (suc l))))
round-one-by-one {c} {h} g i l done =
    let ok : (moved_all (suc l) c).refusal ≡ 0 = not-refused c l done in
    let e : (round c (pos (suc l))).state ≡ (moved_all (suc l) c).state = taken c l ok in
    let s : after c (growths_of c l) ≡ (round c (pos (suc l))).state = growths-leave c l ok ∙ sym e in
    let a : Matches (after c (growths_of c l)) (history_from c h (growths_of c l)) = calls-match c h g i (growths_of c l) (growths-plain c l) in
    let b : Matches (round c (pos (suc l))).state (recorded c h (Round (pos (suc l)))) = round-matched g i (pos (suc l)) in
    (s, one-history (round c (pos (suc l))).state (history_from c h (growths_of c l)) (recorded c h (Round (pos (suc l)))) (rw (← s) a) b)
