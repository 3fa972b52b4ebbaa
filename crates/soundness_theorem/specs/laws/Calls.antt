-- A call that passes its test leaves a sound state sound: preparation, length, growth, advance; and setting a grow state and clear, without one.
use Rattle.std.specs.Prelude.{ℕ, zero, suc, ◌≤◌, ◌<◌, ◌≡◌, refl, Bool, true, false, ◌&&◌, ◌||◌, List, [], ◌∷◌, ℤ, pos, negsuc, eqb, ltb, get_or}
use Rattle.std.proofs.Common.{arith, ap, ◌∙◌, ltb-false}
use Rattle.graph.specs.State.{State, NodeClass, defect_vertex, node_count, class_of, grow_state_of, with_nodes, with_active, with_grow_state, stay, shrinking, up, down}
use Rattle.graph.specs.laws.State.{if-cases, and_left, and_right}
use Rattle.graph.specs.laws.Members.{clash, or_cases, both}
use Rattle.graph.specs.Sound.{is_removed, sound, sound_removed, state_sound}
use Rattle.graph.specs.Open.{blank_state, with_originals, cleared}
use Rattle.graph.specs.Active.{activated}
use Rattle.graph.specs.laws.Active.{activated-sound}
use Rattle.graph.specs.laws.Opened.{emptied-sound}
use Rattle.graph.specs.laws.Removed.{blank-removed}
use Rattle.graph.specs.laws.Shape.{shape-state, emptied-shape, sound-active}
use Rattle.pass.specs.Prepare.{prepare_node}
use Rattle.pass.specs.KeepsSound.{keeps_sound}
use Rattle.pass.proofs.laws.Passes.{Passed}
use Rattle.pass.proofs.laws.Prepare.{prepare-passed}
use Rattle.growth.specs.Growth.{grow_check}
use Rattle.answers.specs.Outcome.{Answer}
use Rattle.answers.specs.Answer.{Reply, says}
use Rattle.calls.specs.Refuse.{node_refusal, store_short}
use Rattle.calls.specs.Each.{set_grow_state, prepare_dual_node_growth, readied, max_update_length, grow_prepared, grow_toward, grow_dual_node, signed_for, follow, advance_by, toward, advance, clear}
use Rattle.calls.specs.Keeps.{prepare_keeps, length_keeps, toward_keeps, grow_keeps, follow_keeps, moves_keeps, advance_keeps}
use Rattle.calls.proofs.laws.Accepted.{NodeAccepted, node-accepted}
use Rattle.calls.proofs.laws.Keeps.{refused-or, answer-cases}
use Rattle.calls.proofs.laws.Shapes.{shape-prepared, shape-apply}
use Rattle.calls.proofs.laws.Sounds.{prepare-up-sound, apply-applied, apply-sound, state-sound}
use Rattle.reachable.specs.laws.state.Live.{empty-growth, empty-state}
use Rattle.reachable.specs.laws.prepare.Preparation.{empty-prepared}
use Rattle.soundness_theorem.specs.KeptSound.{KeptSound}
use Rattle.soundness_theorem.specs.laws.Lists.{lists_of, lists-sound, prepared-lists, prepared-within}
use Rattle.soundness_theorem.specs.laws.States.{SoundState, plain, empty, kept_by, after_kept, kept_then, kept_same, kept-active, kept-unless}

-- ---- a preparation

module _ (c : State) (g : SoundState c) (n : ℕ) {wrong : Bool} (a : NodeAccepted c n wrong (store_short c (n ∷ []) 1)) where
  ready-kept : (d : ℕ) → sound (prepare_node c n d).state ≡ true → KeptSound c (prepare_node c n d).state
  ready-kept d h = kept_by (prepare-passed c n d).graph (shape-prepared c n d g.shape) h (empty-prepared c n d a.live (empty g))

  up_kept : KeptSound c (prepare_node c n up).state
  up_kept = ready-kept up (prepare-up-sound c g.shape (plain g) g.one n a.inside a.outer a.room)

  down-kept : keeps_sound c n ≡ true → KeptSound c (prepare_node c n down).state
  down-kept t =
      let y = lists_of c g.shape g.one (plain g) in
      ready-kept down
      (lists-sound (prepare_node c n down).state (prepared-lists c y n a.inside a.outer t) (prepared-within c y n a.inside a.outer a.room))

  direction-kept : (d : ℕ) → ltb up d ≡ false → (eqb d up || keeps_sound c n) ≡ true → KeptSound c (prepare_node c n d).state
  direction-kept zero h t = down-kept t
  direction-kept (suc zero) h t = up_kept
  direction-kept (suc (suc d)) h t = absurd (let le : suc (suc d) ≤ 1 = ltb-false 1 (suc (suc d)) h in omega arith)

-- what a preparation in direction d leaves, if the call is accepted
prepared-kept : (c : State) → SoundState c → (n d : ℕ) → prepare_keeps c n d ≡ true
    → node_refusal c n (ltb up d) (store_short c (n ∷ []) 1) ≡ 0 → KeptSound c (prepare_node c n d).state
unfolding prepare_keeps
prepared-kept c g n d t e =
    let a : NodeAccepted c n (ltb up d) (store_short c (n ∷ []) 1) = node-accepted c n (ltb up d) (store_short c (n ∷ []) 1) e in
    direction-kept c g n a d a.right (refused-or (node_refusal c n (ltb up d) (store_short c (n ∷ []) 1)) (eqb d up || keeps_sound c n) t e)

pub prepare-kept : (c : State) → SoundState c → (n d : ℕ) → prepare_keeps c n d ≡ true → KeptSound c (prepare_dual_node_growth c n d).state
unfolding prepare_dual_node_growth
prepare-kept c g n d t = kept-unless (node_refusal c n (ltb up d) (store_short c (n ∷ []) 1)) c _ g (prepared-kept c g n d t)

-- ---- a length

pub length-kept : (c : State) → SoundState c → (n d : ℕ) (first : Bool) → length_keeps c n d first ≡ true → KeptSound c (max_update_length c n d first).state
unfolding max_update_length readied length_keeps
length-kept c g n d false t = kept-unless (node_refusal c n (ltb up d) (false && store_short c (n ∷ []) 1)) c _ g (λ e. kept_same g)
length-kept c g n d true t = kept-unless (node_refusal c n (ltb up d) (true && store_short c (n ∷ []) 1)) c _ g (prepared-kept c g n d t)

-- ---- a growth

toward-kept : (c : State) → SoundState c → (n d l : ℕ)
    → (node_refusal c n false (store_short c (n ∷ []) 1) ≡ 0 → NodeAccepted c n false (store_short c (n ∷ []) 1) → KeptSound c (prepare_node c n d).state)
    → KeptSound c (grow_toward c n d l).state
unfolding grow_toward grow_prepared
toward-kept c g n d l f =
    kept-unless (node_refusal c n false (store_short c (n ∷ []) 1)) c _ g
    (λ e.
    let a : NodeAccepted c n false (store_short c (n ∷ []) 1) = node-accepted c n false (store_short c (n ∷ []) 1) e in
    let r : State = (prepare_node c n d).state in
    let p : Passed n c r = prepare-passed c n d in
    let k : KeptSound c r = f e a in
    let y : SoundState r = after_kept g k in
    let live : is_removed (class_of r n) ≡ false = ap (λ (x : List NodeClass). is_removed (get_or x n (defect_vertex 0))) p.class ∙ a.live in
    kept_then k
    (kept-unless (grow_check r n d l) r _ y
    (λ q.
    kept_by (apply-applied r n d l).graph (shape-apply r n d l y.shape)
    (apply-sound r y.shape (plain y) n d l (rw p.grow_state a.inside) (ap (λ (x : List ℕ). get_or x n 0) p.parent ∙ a.outer) q)
    (empty-growth r n d l live (empty y)))))

pub grow-kept : (c : State) → SoundState c → (n : ℕ) (l : ℤ) → grow_keeps c n l ≡ true → KeptSound c (grow_dual_node c n l).state
unfolding grow_dual_node grow_keeps toward_keeps says
grow-kept c g n (pos zero) t = kept-unless (node_refusal c n false false) c _ g (λ e. kept_same g)
grow-kept c g n (pos (suc l)) t = toward-kept c g n up (suc l) (λ e a. up_kept c g n a)
grow-kept c g n (negsuc l) t =
    toward-kept c g n down (suc l)
    (λ e a. down-kept c g n a (refused-or (node_refusal c n false (store_short c (n ∷ []) 1)) (keeps_sound c n) t e))

-- ---- advance

follow-kept : (c : State) → SoundState c → (n x : ℕ) (a : Answer) → follow_keeps c n x a ≡ true → KeptSound c (follow c n x a).state
follow-kept c g n x =
    answer-cases (λ (a : Answer). follow_keeps c n x a ≡ true → KeptSound c (follow c n x a).state)
    (λ l e t. unfold follow follow_keeps in (grow-kept c g n (signed_for x l) (unfold follow_keeps in t)))
    (λ a f t. rw (f c n x).0 (unfold says in (kept_same g)))

moves-kept : (c : State) → SoundState c → (n x : ℕ) → moves_keeps c n x ≡ true → KeptSound c (advance_by n x (max_update_length c n (toward x) true)).state
unfolding advance_by moves_keeps
moves-kept c g n x t =
    let a = length_keeps c n (toward x) true in
    let d = follow_keeps (max_update_length c n (toward x) true).state n x (max_update_length c n (toward x) true).answer in
    let k : KeptSound c (max_update_length c n (toward x) true).state = length-kept c g n (toward x) true (and_left a d t) in
    kept_then k
    (follow-kept (max_update_length c n (toward x) true).state (after_kept g k) n x (max_update_length c n (toward x) true).answer (and_right a d t))

pub advance-kept : (c : State) → SoundState c → (n : ℕ) → advance_keeps c n ≡ true → KeptSound c (advance c n).state
unfolding advance advance_keeps says
advance-kept c g n t =
    kept-unless (node_refusal c n false false) c _ g
    (λ e.
    let u : (eqb (grow_state_of c n) stay || moves_keeps c n (grow_state_of c n)) ≡ true =
    refused-or (node_refusal c n false false) (eqb (grow_state_of c n) stay || moves_keeps c n (grow_state_of c n)) t e in
    if-cases (λ (r : Reply). KeptSound c r.state) (eqb (grow_state_of c n) stay)
    (λ y. kept_same g)
    (λ y.
    moves-kept c g n (grow_state_of c n)
    (or_cases (eqb (grow_state_of c n) stay) (moves_keeps c n (grow_state_of c n)) u (λ z. clash (eqb (grow_state_of c n) stay) z y) (λ z. z))))

-- ---- a grow state

activated-kept : (c : State) → SoundState c → (n x : ℕ) → n < node_count c → KeptSound c (activated c n x)
unfolding activated
activated-kept c g n x b = kept-active c _ g (unfold activated in (activated-sound c n x b (sound-active c (plain g))))

pub state-kept : (c : State) → SoundState c → (n x : ℕ) → KeptSound c (set_grow_state c n x).state
unfolding set_grow_state
state-kept c g n x =
    kept-unless (node_refusal c n (ltb shrinking x) false) c _ g
    (λ e.
    let a : NodeAccepted c n (ltb shrinking x) false = node-accepted c n (ltb shrinking x) false e in
    let k : KeptSound c (activated c n x) = activated-kept c g n x a.inside in
    let y : SoundState (activated c n x) = after_kept g k in
    kept_then k
    (kept_by (unfold with_grow_state with_nodes in refl) (shape-state (activated c n x) n x y.shape)
    (state-sound (activated c n x) y.shape (plain y) n x (unfold activated with_active in a.inside) (ltb-false shrinking x a.right))
    (empty-state (activated c n x) n x (unfold activated with_active in a.live) (empty y))))

-- ---- clear

pub clear_kept : (c : State) → SoundState c → KeptSound c (clear c).state
unfolding clear
clear_kept c g = record {
  sounds = unfold state_sound in (both (sound (cleared c)) (sound_removed (cleared c)) (emptied-sound c g.shape (plain g))
      (unfold cleared in (blank-removed (with_originals c.graph) c.node_limit c.store_limit)));
  shape = emptied-shape c g.shape;
  vertices = unfold cleared blank_state with_originals in refl;
  edges = unfold cleared blank_state with_originals in g.shape.original;
  sides = unfold cleared blank_state with_originals in refl;
}
