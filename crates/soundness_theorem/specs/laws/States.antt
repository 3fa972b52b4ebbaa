-- Sound states: what the test says, and what leaves a sound state with the same sizes.
use Rattle.std.specs.Prelude.{ℕ, ◌≤◌, ◌≡◌, refl, true, List}
use Rattle.std.proofs.Common.{arith, ◌∙◌}
use Rattle.std.proofs.Math.Path.{ap}
use Rattle.std.proofs.Math.ListN.{length}
use Rattle.graph.specs.State.{State, Graph, vertex_count, with_active}
use Rattle.graph.specs.Sound.{active_sound, sound, sound_removed, state_sound}
use Rattle.graph.specs.Shape.{Shape}
use Rattle.graph.specs.laws.State.{and_left, and_right}
use Rattle.graph.specs.laws.Members.{both}
use Rattle.graph.specs.laws.Active.{shape-active, with-active-sound}
use Rattle.answers.specs.Answer.{Reply, says}
use Rattle.calls.specs.Refuse.{unless}
use Rattle.calls.proofs.laws.Accepted.{unless-cases}
use Rattle.reachable.specs.laws.state.Live.{RemovedEmpty, sound_empty, empty-sound, empty-active}
use Rattle.soundness_theorem.specs.KeptSound.{KeptSound}

pub record SoundState (c : State) : Type 0 where
  pub shape : Shape c
  pub one : 1 ≤ vertex_count c
  pub sounds : state_sound c ≡ true

-- its two parts
module _ {c : State} (g : SoundState c) where
  pub plain : sound c ≡ true
  unfolding state_sound
  plain = and_left (sound c) (sound_removed c) g.sounds

  pub empty : RemovedEmpty c
  unfolding state_sound
  empty = sound_empty c g.shape (and_right (sound c) (sound_removed c) g.sounds)

-- ---- what keeps it

module _ {c d : State} where
  -- the same graph
  pub kept_by : d.graph ≡ c.graph → Shape d → sound d ≡ true → RemovedEmpty d → KeptSound c d
  unfolding state_sound
  kept_by e z h r = record {
    sounds = both (sound d) (sound_removed d) h (empty-sound d r);
    shape = z;
    vertices = ap (λ (x : Graph). length x.virtual) e;
    edges = ap (λ (x : Graph). length x.weight) e;
    sides = ap (λ (x : Graph). length x.end) e;
  }

  pub after_kept : SoundState c → KeptSound c d → SoundState d
  after_kept g k = record { shape = k.shape; one = omega (arith, g.one, k.vertices); sounds = k.sounds }

  pub kept_then : {e : State} → KeptSound c d → KeptSound d e → KeptSound c e
  kept_then p q = record {
    sounds = q.sounds;
    shape = q.shape;
    vertices = q.vertices ∙ p.vertices;
    edges = q.edges ∙ p.edges;
    sides = q.sides ∙ p.sides;
  }

pub kept_same : {c : State} → SoundState c → KeptSound c c
kept_same g = record { sounds = g.sounds; shape = g.shape; vertices = refl; edges = refl; sides = refl }

-- another active list
pub kept-active : (c : State) (l : List ℕ) → SoundState c → active_sound (with_active c l) ≡ true → KeptSound c (with_active c l)
unfolding with_active
kept-active c l g a =
    kept_by refl (unfold with_active in (shape-active c l g.shape))
    (unfold with_active in (with-active-sound c l (plain g) (unfold with_active in a)))
    (unfold with_active in (empty-active c l (empty g)))

-- a refused call leaves the state
pub kept-unless : (k : ℕ) (c : State) (r : Reply) → SoundState c → (k ≡ 0 → KeptSound c r.state) → KeptSound c (unless k c r).state
unfolding says
kept-unless k c r g f = unless-cases (λ (x : Reply). KeptSound c x.state) k c r (λ e. kept_same g) f
