-- The two parts of the trial together.
use Rattle.std.specs.Prelude.{◌≡◌, ℕ, suc, Bool, true, false, ◌||◌, ◌≢◌, List, [], ◌∷◌, length, ℤ, if◌then◌else◌}
use Rattle.std.proofs.Common.{arith, sym, ◌∙◌, ne_eqb}
use Rattle.std.proofs.Math.Path.{refl, ap}
use Rattle.graph.specs.Basic.{fold}
use Rattle.graph.specs.State.{State, node_count, growing, shrinking, up}
use Rattle.graph.specs.Active.{active_in, renewed}
use Rattle.graph.specs.Sound.{sound, sound_removed, state_sound}
use Rattle.graph.specs.laws.State.{and_left}
use Rattle.graph.specs.Layout.{state_of, block_sound}
use Rattle.graph.specs.Form.{Formed}
use Rattle.graph.specs.inner.Form.{Becomes}
use Rattle.graph.specs.laws.Form.{laid-shape, formed-vertices}
use Rattle.graph.specs.laws.Active.{active-kept, renewed-sound, with-active-sound}
use Rattle.graph.specs.laws.Members.{by-test}
use Rattle.graph.specs.laws.Row.{becomes-none, becomes-then}
use Rattle.graph.specs.laws.Shape.{sound-active}
use Rattle.memory_tests.specs.laws.Block.{block-state-sound}
use Rattle.memory_tests.specs.laws.Whole.{formed-sized, formed-sound}
use Rattle.pass.proofs.laws.Scratch.{scratch-same}
use Rattle.calls.specs.Calls.{toward}
use Rattle.calls.specs.inner.Reply.{Usable}
use Rattle.calls.specs.Round.{Tried, begun, try_all, none_of, sound_again, in_turn, prepared_all, moved_all}
use Rattle.calls.proofs.laws.Phase.{renewed-phase}
use Rattle.calls.proofs.laws.Trial.{try-keeps}
use Rattle.round_trial.specs.Trial.{node_call, whole_trial}
use Rattle.round_trial.specs.inner.Step.{grown_from, TriedTo, CallsPossible, Shrunk}
use Rattle.round_trial.specs.laws.Step.{SameActive, turn-same}
use Rattle.round_trial.specs.laws.Trying.{try-refused}

-- ---- the trial by its length

pub turned_none : (c : State) → whole_trial 0 c ≡ prepared_all c
unfolding whole_trial node_call prepared_all
turned_none c = refl

pub turned-some : (l : ℕ) (c : State) → whole_trial (suc l) c ≡ moved_all (suc l) c
unfolding whole_trial node_call moved_all
turned-some l c = refl

-- ---- the Grow nodes

pub none-empty : (l : List ℕ) → none_of l ≡ true → l ≡ []
unfolding none_of
none-empty [] h = refl
none-empty (n ∷ ns) h = absurd (clash h)
  where
    clash : false ≡ true → ⊥
    clash h = let z : ◌≡◌ {A = ℕ} 0 1 = ap (λ (t : Bool). elim t [ true ↦ 1 | false ↦ 0 ]) h in omega arith

pub grown-none : (l : ℕ) (c : State) → none_of (active_in c growing) ≡ true → grown_from l c ≡ begun c
unfolding grown_from sound_again try_all fold none_of
grown-none l c h = rw (none-empty (active_in c growing) h) (both (none_of (active_in c shrinking)))
  where
    both : (t : Bool) → (if (t || true || false) || state_sound c then begun c else record { refusal = 2; state = c }) ≡ begun c
    both true = refl
    both false = refl

module _ (l : ℕ) (c : State) (some : none_of (active_in c growing) ≡ false) where
  pub grown-on : none_of (active_in c shrinking) || state_sound c ≡ true → grown_from l c ≡ try_all (node_call l up) (begun c) (active_in c growing)
  unfolding grown_from sound_again
  grown-on h = ap (λ (u : Tried). try_all (node_call l up) u (active_in c growing)) (rw some (go (none_of (active_in c shrinking)) (state_sound c) h))
    where
      go : (s t : Bool) → s || t ≡ true → (if s || false || false || t then begun c else record { refusal = 2; state = c }) ≡ begun c
      go true t h = refl
      go false true h = refl
      go false false h = ap (λ (x : Bool). if x then begun c else record { refusal = 2; state = c }) h

  pub grown-stopped : none_of (active_in c shrinking) || state_sound c ≡ false → grown_from l c ≡ record { refusal = 2; state = c }
  unfolding grown_from sound_again
  grown-stopped h =
      ap (λ (u : Tried). try_all (node_call l up) u (active_in c growing)) (rw some (go (none_of (active_in c shrinking)) (state_sound c) h))
      ∙ try-refused (node_call l up) (record { refusal = 2; state = c }) (active_in c growing) (λ e. omega (arith, e))
    where
      go : (s t : Bool) → s || t ≡ false → (if s || false || false || t then begun c else record { refusal = 2; state = c }) ≡ record { refusal = 2; state = c }
      go true t h = ap (λ (x : Bool). if x then begun c else record { refusal = 2; state = c }) h
      go false true h = ap (λ (x : Bool). if x then begun c else record { refusal = 2; state = c }) h
      go false false h = refl

-- ---- both parts

same_in : (c d : State) (x : ℕ) → SameActive c d → active_in d x ≡ active_in c x
unfolding active_in
same_in c d x s = rw (s.active, s.states) refl

try-same : (l d : ℕ) (c : State) (ns : List ℕ) → SameActive c (try_all (node_call l d) (begun c) ns).state
try-same l d c ns =
    try-keeps (SameActive c) (node_call l d) (λ e n s. let k = turn-same l d e n in record { active = k.active ∙ s.active; states = k.states ∙ s.states })
    (begun c) ns (record { active = refl; states = refl })

-- the Shrink nodes' part from r
abbrev shrunk_from : ℕ → State → Tried
shrunk_from l r = try_all (node_call l (toward shrinking)) (begun r) (active_in r shrinking)

again-refused : (ms ns : List ℕ) (u : Tried) → u.refusal ≢ 0 → sound_again ms ns u ≡ u
unfolding sound_again
again-refused ms ns u h = rw (ne_eqb u.refusal 0 h) (go (none_of ms) (none_of ns))
  where
    go : (s t : Bool) → (if s || t || true || state_sound u.state then u else record { refusal = 2; state = u.state }) ≡ u
    go true true = refl
    go true false = refl
    go false true = refl
    go false false = refl

turned-stopped : (l : ℕ) (c : State) → (shrunk_from l (renewed c)).refusal ≢ 0 → whole_trial l c ≡ shrunk_from l (renewed c)
unfolding whole_trial in_turn toward
turned-stopped l c h =
    let u : Tried = shrunk_from l (renewed c) in
    let ns : List ℕ = active_in (renewed c) growing in
    ap (λ (x : Tried). try_all (node_call l up) x ns) (again-refused (active_in (renewed c) shrinking) ns u h) ∙ try-refused (node_call l up) u ns h

tried-eq : (u : Tried) → u.refusal ≡ 0 → u ≡ begun u.state
tried-eq u e = ap (λ (k : ℕ). record { refusal = k; state = u.state }) e

turned_on : (l : ℕ) (c d : State) → shrunk_from l (renewed c) ≡ begun d → whole_trial l c ≡ grown_from l d
unfolding whole_trial in_turn grown_from toward
turned_on l c d e =
    let s : SameActive (renewed c) d = rw e at (try-same l (toward shrinking) (renewed c) (active_in (renewed c) shrinking)) in
    rw (same_in (renewed c) d shrinking s, same_in (renewed c) d growing s)
    (ap (λ (x : Tried). try_all (node_call l up) (sound_again (active_in (renewed c) shrinking) (active_in (renewed c) growing) x) (active_in (renewed c) growing)) e)

-- ---- in a block

pub sound-is : (b : List ℤ) → Formed b → block_sound b ≡ state_sound (state_of b)
sound-is b f =
    by-test (state_sound (state_of b))
    (λ e. formed-sound b f e ∙ sym e)
    (λ e. by-test (block_sound b) (λ h. h ∙ sym (block-state-sound b (formed-sized b f) h)) (λ h. h ∙ sym e))

pub renewed-ok : (c : State) → sound c ≡ true → sound (renewed c) ≡ true
unfolding renewed
renewed-ok c h = with-active-sound c _ h (unfold renewed in (renewed-sound c (sound-active c h)))

module _ (b b₁ t : List ℤ) (u : Usable b t) (p : Becomes b b₁ (renewed (state_of b))) where
  pub renewed-going : CallsPossible shrinking b₁ t
  renewed-going = record {
    formed = p.formed;
    scratch = u.scratch ∙ scratch-same p;
    active = rw p.state (renewed-sound (state_of b) (sound-active (state_of b) u.sounds));
    known = λ e. refl;
    shrinks = λ e. rw p.state (renewed-phase (state_of b) (laid-shape b u.formed.laid) (formed-vertices b u.formed) u.sounds);
    grows = λ e. absurd (omega (arith, e));
  }

  module _ (b₂ t₂ : List ℤ) (l r : ℕ) (q : TriedTo b₁ b₂ r (shrunk_from l (state_of b₁))) (e : t₂ ≡ t) where
    same_from : shrunk_from l (state_of b₁) ≡ shrunk_from l (renewed (state_of b))
    same_from = rw p.state refl

    pub turn-stops : r ≢ 0 → TriedTo b b₂ r (whole_trial l (state_of b))
    turn-stops h =
        let k : (shrunk_from l (renewed (state_of b))).refusal ≢ 0 = λ z. h (q.refusal ∙ ap (λ (x : Tried). x.refusal) same_from ∙ z) in
        rw (turned-stopped l (state_of b) k, ← same_from) (record { refusal = q.refusal; block = becomes-then p q.block })

    module _ (z : r ≡ 0) where
      shrunk-is : shrunk_from l (renewed (state_of b)) ≡ begun (state_of b₂)
      shrunk-is = sym same_from ∙ rw q.block.state (tried-eq (shrunk_from l (state_of b₁)) (sym q.refusal ∙ z))

      same_then : SameActive (renewed (state_of b)) (state_of b₂)
      same_then = rw shrunk-is at (try-same l (toward shrinking) (renewed (state_of b)) (active_in (renewed (state_of b)) shrinking))

      -- without Shrink nodes nothing has moved
      nothing : none_of (active_in (state_of b₂) shrinking) ≡ true → renewed (state_of b) ≡ state_of b₂
      nothing h =
          let n : active_in (renewed (state_of b)) shrinking ≡ [] = none-empty _ (rw (same_in _ _ shrinking same_then) at h) in
          let k : shrunk_from l (renewed (state_of b)) ≡ begun (renewed (state_of b)) = rw n (unfold try_all fold in refl) in
          ap (λ (x : Tried). x.state) (sym k ∙ shrunk-is)

      pub shrunk-part : Shrunk b₂ t₂
      shrunk-part = record {
        formed = q.block.formed;
        scratch = e ∙ renewed-going.scratch ∙ scratch-same q.block;
        active = active-kept (renewed (state_of b)) (state_of b₂) same_then.active (omega (arith, counts))
            (renewed-sound (state_of b) (sound-active (state_of b) u.sounds));
        still = λ h. rw (← nothing h) (renewed-ok (state_of b) u.sounds);
      }
        where
          counts : node_count (state_of b₂) ≡ node_count (renewed (state_of b))
          counts = ap (λ (k : List ℕ). length k) same_then.states

      pub turn-ends : (b₃ : List ℤ) (s : ℕ) → TriedTo b₂ b₃ s (grown_from l (state_of b₂)) → TriedTo b b₃ s (whole_trial l (state_of b))
      turn-ends b₃ s w =
          rw (turned_on l (state_of b) (state_of b₂) shrunk-is)
          (record {
            refusal = w.refusal;
            block = becomes-then
                (becomes-then p
                (record {
                  formed = q.block.formed;
                  state = refl;
                  vertices = q.block.vertices;
                  edges = q.block.edges;
                  sides = q.block.sides;
                  nodes = q.block.nodes;
                  len = q.block.len;
                }))
                w.block;
          })

-- ---- the Grow nodes' part in a block

module _ (b t : List ℤ) (l : ℕ) (s : Shrunk b t) where
  pub grow-none : none_of (active_in (state_of b) growing) ≡ true → TriedTo b b 0 (grown_from l (state_of b))
  grow-none h = rw (grown-none l (state_of b) h) (record { refusal = refl; block = becomes-none b (state_of b) s.formed refl })

  pub grow-stopped : none_of (active_in (state_of b) growing) ≡ false
      → none_of (active_in (state_of b) shrinking) || state_sound (state_of b) ≡ false → TriedTo b b 2 (grown_from l (state_of b))
  grow-stopped h k = rw (grown-stopped l (state_of b) h k) (record { refusal = refl; block = becomes-none b (state_of b) s.formed refl })

  pub grow-going : none_of (active_in (state_of b) shrinking) || state_sound (state_of b) ≡ true → CallsPossible growing b t
  unfolding state_sound
  grow-going h = record {
    formed = s.formed;
    scratch = s.scratch;
    active = s.active;
    known = λ e. absurd (e refl);
    shrinks = λ e. absurd (omega (arith, e));
    grows = λ e. by-test (none_of (active_in (state_of b) shrinking)) (λ k. s.still k) (λ k. and_left (sound (state_of b)) (sound_removed (state_of b)) (rw k at h));
  }

  pub grow-ends : none_of (active_in (state_of b) growing) ≡ false → none_of (active_in (state_of b) shrinking) || state_sound (state_of b) ≡ true
      → (b' : List ℤ) (r : ℕ)
      → TriedTo b b' r (try_all (node_call l (toward growing)) (begun (state_of b)) (active_in (state_of b) growing))
      → TriedTo b b' r (grown_from l (state_of b))
  unfolding toward
  grow-ends h k b' r p = rw (grown-on l (state_of b) h k) p
