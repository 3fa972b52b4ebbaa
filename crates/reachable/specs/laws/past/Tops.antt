-- Small facts on a past: the invariant with its labels, and nodes that lie in others.
use Rattle.std.specs.Prelude.{ℕ, ◌<◌, ◌≡◌}
use Rattle.std.proofs.Common.{arith}
use Rattle.std.proofs.Math.Decide.{dec_lt}
use Rattle.std.proofs.Math.Logic.{by_cases}
use Rattle.graph.specs.State.{State, node_count}
use Rattle.graph.specs.Shape.{Shape}
use Rattle.reachable.specs.Invariant.{Labels, Clusters, Invariant}
use Rattle.reachable.specs.Past.{Snapshot, Tops}
use Rattle.reachable.specs.laws.state.Live.{parent-beyond}

-- the invariant with other labels
abbrev pub relabelled : {c : State} → Invariant c → (k : Labels) → Clusters c k → Invariant c
relabelled g k h = record {
  shape = g.shape;
  one = g.one;
  sounds = g.sounds;
  labels = k;
  clusters = h;
  fits = g.fits;
  live = g.live;
  active-all = g.active-all;
  inner-stay = g.inner-stay;
}

-- what lies in a node is a node
pub top-inside : (s : Snapshot) → Shape s.state → Tops s → (m p : ℕ) → p < node_count s.state → s.top m ≡ p → m < node_count s.state
top-inside s z tops m p b e =
    by_cases (dec_lt m (node_count s.state)) (λ a. a)
    (λ a. let q : s.top m ≡ m = tops.outer m (parent-beyond s.state z m (omega arith)) in absurd (omega arith))
