-- The graph of a state: the two sides of an edge, and the sides at a vertex.
use Rattle.std.specs.Prelude.{ℕ, ◌+◌, ◌-◌, ◌*◌, ◌/◌, ◌<◌, ◌≡◌, ◌≢◌, true, [], length, get_or}
use Rattle.std.proofs.Common.{arith, sym, ap}
use Rattle.std.proofs.Math.Decide.{dec_lt}
use Rattle.std.proofs.Math.Logic.{by_cases}
use Rattle.std.proofs.Math.ListN.{get_or-eq_default}
use Rattle.graph.specs.Basic.{member}
use Rattle.graph.specs.State.{Graph, opposite}
use Rattle.graph.specs.laws.State.{by-parity, opposite-even, opposite-odd, opposite-below, edge-opposite}
use Rattle.graph.specs.laws.Members.{member-nil}
use Rattle.graph.specs.Open.{sides_of}
use Rattle.graph.specs.laws.Shape.{sides-of-in, sides-of-out}
use Rattle.reachable.specs.Cluster.{SideGraphOk}
use Rattle.reachable.specs.Invariant.{side_graph_of}

-- `at` has just the sides at a vertex
pub record GraphOk (g : Graph) : Type 0 where
  pub side-graph : SideGraphOk (side_graph_of g)
  pub at_in : (v t : ℕ) → t < length g.end → get_or g.end t 0 ≡ v → member t (get_or g.at v []) ≡ true
  pub at_out : (v t : ℕ) → member t (get_or g.at v []) ≡ true → (t < length g.end) × (get_or g.end t 0 ≡ v)

pub graph-ok-of : (g : Graph) → length g.end ≡ 2 * length g.weight → length g.at ≡ length g.virtual
    → ((t : ℕ) → t < length g.end → get_or g.end t 0 < length g.virtual)
    → ((e : ℕ) → e < length g.weight → get_or g.end (2 * e) 0 ≢ get_or g.end (2 * e + 1) 0)
    → ((v : ℕ) → v < length g.virtual → get_or g.at v [] ≡ sides_of g.end v)
    → GraphOk g
graph-ok-of g ends ats placed differ sides = record {
  side-graph = record {
    across = λ t b. rw ends (opposite-below t (length g.weight) (rw ends at b));
    same-weight = λ t. ap (λ (e : ℕ). get_or g.weight e 0) (edge-opposite t);
    differ = apart;
  };
  at_in = λ v t b e. rw (sides v (rw (← e) (placed t b))) (sides-of-in g.end v t b e);
  at_out = λ v t m.
      by_cases (dec_lt v (length g.virtual))
      (λ b. sides-of-out g.end v t (rw (sides v b) at m))
      (λ b. let z : get_or g.at v [] ≡ [] = get_or-eq_default g.at [] (omega arith) in member-nil t (rw z at m));
}
  where
    apart : (t : ℕ) → t < length g.end → get_or g.end (opposite t) 0 ≢ get_or g.end t 0
    apart t b =
        by-parity (get_or g.end (opposite t) 0 ≢ get_or g.end t 0) t
        (λ p.
        let q : 2 * (t / 2) ≡ t = omega arith in
        let d : get_or g.end t 0 ≢ get_or g.end (t + 1) 0 = rw q at (differ (t / 2) (omega arith)) in
        rw (opposite-even t p) (λ z. d (sym z)))
        (λ p.
        let q : 2 * (t / 2) ≡ t - 1 = omega arith in
        let r : t - 1 + 1 ≡ t = omega arith in
        let d : get_or g.end (t - 1) 0 ≢ get_or g.end (t - 1 + 1) 0 = rw q at (differ (t / 2) (omega arith)) in
        rw (opposite-odd t p) (rw r at d))
