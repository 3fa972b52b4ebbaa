-- After an accepted preparation of all, every active node can be asked: it is outermost, and its boundary holds sides.
use Prim.Native.Nat.{ℕ, zero, suc, ◌≤◌, ◌<◌}
use Rattle.std.proofs.Common.{arith, ◌∙◌}
use Rattle.std.proofs.Math.Decide.{ℕ_discrete as dec_eq}
use Rattle.std.proofs.Math.Path.{◌≡◌, refl, sym, ap}
use Rattle.std.specs.Prelude.{◌≢◌, false, ℤ, ltb}
use Rattle.std.proofs.Math.Logic.{by_cases}
use Rattle.std.proofs.Math.Bool.{true}
use mathlib.Core.List.{List, [], ◌∷◌}
use Rattle.std.proofs.Math.ListN.{length}
use borrow.Author.Tests.{eq-eqb}
use Rattle.graph.specs.Basic.{member, fold}
use Rattle.graph.specs.State.{State, vertex_count, node_count, grow_state_of, parent_of, stay, growing, shrinking, down, up, with_active}
use Rattle.graph.specs.Active.{active_in, renewed}
use Rattle.graph.specs.Sound.{active_sound, sound, sound_removed, state_sound}
use Rattle.graph.specs.laws.State.{and_left}
use Rattle.graph.specs.Layout.{state_of}
use Rattle.graph.specs.inner.Form.{Becomes, sides_ok}
use Rattle.graph.specs.inner.Readable.{Readable}
use Rattle.graph.specs.laws.Form.{laid-shape, formed-vertices}
use Rattle.graph.specs.laws.Active.{active-kept, active-below, renewed-active, in-active}
use Rattle.graph.specs.laws.Members.{by-test, member-cons, member-nil}
use Rattle.graph.specs.laws.Shape.{sound-active, sound-node, node-facts}
use Rattle.graph.specs.Shape.{Shape}
use Rattle.pass.proofs.laws.Prepare.{prepare-passed}
use Rattle.answers.specs.Answer.{Reply, says}
use Rattle.calls.specs.Refuse.{node_refusal, store_short}
use Rattle.calls.specs.Calls.{prepare_dual_node_growth}
use Rattle.calls.specs.inner.Reply.{Usable}
use Rattle.calls.specs.Round.{Tried, refusal_of, begun, try_all, none_of, sound_again, in_turn, preparing, prepared_all}
use Rattle.calls.proofs.laws.Accepted.{unless-cases, node-accepted}
use Rattle.calls.proofs.laws.Phase.{sound-phase, renewed-phase, shrinking-prepares, StillSound, growing-prepares}
use Rattle.calls.specs.inner.Phase.{Phase}
use Rattle.calls.proofs.laws.Trial.{Turned, Stepped, turn-accepted, try-start, try-step, try-keeps, unless-accepted}
use Rattle.calls.proofs.laws.Listed.{prepared-active}
use Rattle.round_answers.specs.inner.Asked.{Askable}
use Rattle.round_trial.specs.laws.InTurn.{none-empty, renewed-ok}

-- ---- a node that was prepared is outermost

-- graph, grow states and parents are the same
record Still (c d : State) : Type 0 where
  graph : d.graph ≡ c.graph
  states : d.nodes.grow_state ≡ c.nodes.grow_state
  parents : d.nodes.parent ≡ c.nodes.parent

still-refl : (c : State) → Still c c
still-refl c = record { graph = refl; states = refl; parents = refl }

still-then : {c d e : State} → Still c d → Still d e → Still c e
still-then p q = record { graph = q.graph ∙ p.graph; states = q.states ∙ p.states; parents = q.parents ∙ p.parents }

still-prepared : (d : ℕ) (c : State) (n : ℕ) → Still c (preparing d c n).state
unfolding preparing prepare_dual_node_growth says
still-prepared d c n =
    unless-cases (λ (r : Reply). Still c r.state) (node_refusal c n (ltb up d) (store_short c (n ∷ []) 1)) c _ (λ e. still-refl c)
    (λ e. let p = prepare-passed c n d in record { graph = p.graph; states = p.grow_state; parents = p.parent })

still-all : (d : ℕ) (c : State) (ns : List ℕ) → Still c (try_all (preparing d) (begun c) ns).state
still-all d c ns = try-keeps (Still c) (preparing d) (λ e n p. still-then p (still-prepared d e n)) (begun c) ns (still-refl c)

accepted-outer : (d : ℕ) (c : State) (n : ℕ) → refusal_of (preparing d c n).answer ≡ 0 → parent_of c n ≡ 0
unfolding preparing prepare_dual_node_growth
accepted-outer d c n h =
    let k : node_refusal c n (ltb up d) (store_short c (n ∷ []) 1) ≡ 0 = (unless-accepted (node_refusal c n (ltb up d) (store_short c (n ∷ []) 1)) c _ h).0 in
    (node-accepted c n (ltb up d) (store_short c (n ∷ []) 1) k).outer

same-parent : (c d : State) (n : ℕ) → Still c d → parent_of c n ≡ parent_of d n
same-parent c d n p = rw p.parents refl

all-outer : (d : ℕ) (ns : List ℕ) (c : State) → (try_all (preparing d) (begun c) ns).refusal ≡ 0 → (n : ℕ) → member n ns ≡ true → parent_of c n ≡ 0
all-outer d [] c h n m = member-nil n m
all-outer d (x ∷ xs) c h n m =
    let e : State = (preparing d c x).state in
    let s : Stepped (preparing d) c x xs = try-step (preparing d) c x xs h in
    let rest : (try_all (preparing d) (begun (preparing d c x).state) xs).refusal ≡ 0 = ap (λ (u : Tried). u.refusal) (sym s.next) ∙ h in
    member-cons n x xs m
    (λ q. rw q (accepted-outer d c x s.first))
    (λ q. same-parent c e n (still-prepared d c x) ∙ all-outer d xs e rest n q)

-- ---- the state after the trial

module _ (c : State) (z : Shape c) (v : 1 ≤ vertex_count c) (h : sound c ≡ true) (ok : (prepared_all c).refusal ≡ 0) where
  abbrev ms : List ℕ
  ms = active_in (renewed c) shrinking

  abbrev ns : List ℕ
  ns = active_in (renewed c) growing

  abbrev shrunk : Tried
  shrunk = try_all (preparing down) (begun (renewed c)) ms

  abbrev grown : Tried
  grown = try_all (preparing up) (begun shrunk.state) ns

  turns : Turned (preparing down) (preparing up) c
  unfolding prepared_all
  turns = turn-accepted (preparing down) (preparing up) c ok

  final : (prepared_all c).state ≡ grown.state
  unfolding prepared_all
  final = turns.state

  shrunk-phase : Phase shrunk.state
  shrunk-phase = shrinking-prepares (renewed c) (renewed-phase c z v h) ms

  again : (sound_again ms ns shrunk).refusal ≡ 0
  unfolding prepared_all in_turn
  again = try-start (preparing up) (sound_again ms ns shrunk) ns ok

  tested : none_of ms ≡ false → none_of ns ≡ false → sound shrunk.state ≡ true
  unfolding sound_again state_sound
  tested p q =
      by-test (state_sound shrunk.state) (λ e. and_left (sound shrunk.state) (sound_removed shrunk.state) e)
      (λ e. let k : ◌≡◌ {A = ℕ} 2 0 = rw (p, q, eq-eqb shrunk.refusal 0 turns.shrunk, e) at again in absurd (omega arith))

  unmoved : none_of ms ≡ true → shrunk.state ≡ renewed c
  unmoved p = ap (λ (l : List ℕ). (try_all (preparing down) (begun (renewed c)) l).state) (none-empty ms p) ∙ unfold try_all fold in refl

  shrunk-sound : none_of ns ≡ false → sound shrunk.state ≡ true
  shrunk-sound q = by-test (none_of ms) (λ p. rw (unmoved p) (renewed-ok c h)) (λ p. tested p q)

  shrunk-still : Still (renewed c) shrunk.state
  shrunk-still = still-all down (renewed c) ms

  one : 1 ≤ vertex_count shrunk.state
  one = rw shrunk-still.graph (unfold renewed with_active in v)

  grown-phase : Phase grown.state
  grown-phase =
      by-test (none_of ns)
      (λ q. rw (none-empty ns q) (unfold try_all fold in shrunk-phase))
      (λ q.
      let s : StillSound grown.state = growing-prepares shrunk.state (record { shape = shrunk-phase.shape; one = one; sounds = shrunk-sound q }) ns in
      sound-phase grown.state s.shape s.one s.sounds)

  grown-still : Still (renewed c) grown.state
  grown-still = still-then shrunk-still (still-all up shrunk.state ns)

  -- an active node is in one of the two states, so it had its turn
  outer : (n : ℕ) → member n (renewed c).active ≡ true → parent_of (renewed c) n ≡ 0
  outer n m =
      let s : sound (renewed c) ≡ true = renewed-ok c h in
      let b : n < node_count (renewed c) = active-below (renewed c) (sound-active (renewed c) s) n m in
      let g : grow_state_of (renewed c) n ≤ 2 = (node-facts (renewed c) n (sound-node (renewed c) s n b)).grow_state in
      let a : grow_state_of (renewed c) n ≢ stay = λ e. renewed-active c n m (unfold renewed with_active in e) in
      by_cases (dec_eq (grow_state_of (renewed c) n) growing)
      (λ e. same-parent (renewed c) shrunk.state n shrunk-still ∙ all-outer up ns shrunk.state turns.grown n (in-active (renewed c) growing n m e))
      (λ e. all-outer down ms (renewed c) turns.shrunk n (in-active (renewed c) shrinking n m (two (grow_state_of (renewed c) n) g a e)))
    where
      two : (x : ℕ) → x ≤ 2 → x ≢ stay → x ≢ growing → x ≡ shrinking
      two zero g a e = absurd (a refl)
      two (suc zero) g a e = absurd (e refl)
      two (suc (suc zero)) g a e = refl
      two (suc (suc (suc x))) g a e = absurd (omega arith)

  pub prepared-sides : (n : ℕ) → member n (prepared_all c).state.active ≡ true → sides_ok (prepared_all c).state n ≡ true
  unfolding sides_ok
  prepared-sides n m =
      let k : member n (renewed c).active ≡ true = rw (prepared-active c) at m in
      let b : n < node_count (renewed c) = active-below (renewed c) (sound-active (renewed c) (renewed-ok c h)) n k in
      let o : parent_of grown.state n ≡ 0 = sym (same-parent (renewed c) grown.state n grown-still) ∙ outer n k in
      let e : node_count grown.state ≡ node_count (renewed c) = ap (λ (l : List ℕ). length l) grown-still.states in
      rw final (grown-phase.able n (omega (arith, e)) o).sides

  pub prepared-readable : Readable (prepared_all c).state
  prepared-readable = rw final grown-phase.readable

  pub prepared-list : active_sound (prepared_all c).state ≡ true
  prepared-list =
      let e : node_count (prepared_all c).state ≡ node_count (renewed c) = rw final (ap (λ (l : List ℕ). length l) grown-still.states) in
      active-kept (renewed c) (prepared_all c).state (prepared-active c) (omega (arith, e)) (sound-active (renewed c) (renewed-ok c h))

-- ---- in a block

pub prepared-askable : (b b' t : List ℤ) → Usable b t → Becomes b b' (prepared_all (state_of b)).state → (prepared_all (state_of b)).refusal ≡ 0 → Askable b'
prepared-askable b b' t u p ok =
    let z = laid-shape b u.formed.laid in
    let v = formed-vertices b u.formed in
    record {
      formed = p.formed;
      readable = rw p.state (prepared-readable (state_of b) z v u.sounds ok);
      active = rw p.state (prepared-list (state_of b) z v u.sounds ok);
      sides = rw p.state (prepared-sides (state_of b) z v u.sounds ok);
    }
