-- Entries that are lengths of walks and that no side makes shorter are the distances. Distances have a certificate.
use Rattle.std.specs.Prelude.{◌≡◌, List, ℕ, ◌≤◌, ◌<◌}
use Rattle.std.proofs.Math.Logic.{by_cases}
use Rattle.std.proofs.Common.{arith}
use Rattle.std.proofs.Math.Decide.{dec_lt}
use Rattle.distance.specs.Graph.{WeightedGraph, WellFormed, Walk, trivial, step}
use Rattle.distance.specs.Distance.{unreachable, distance_at, dist, Relaxed, Stable, DistanceCertificate}
use Rattle.distance.proofs.laws.Distance.{dist-self, dist-edge, dist-walk, dist-capped, dist-least, dist-predecessor}

module _ (g : WeightedGraph) (ok : WellFormed g) (a : ℕ) (in-a : a < g.size) where
  pub dist-certificate : DistanceCertificate g a (dist g a)
  dist-certificate = record {
    self = dist-self g ok a in-a;
    capped = dist-capped g ok a in-a;
    edge = dist-edge g ok a in-a;
    predecessor = λ u q l. let p = dist-predecessor g ok a in-a u q l in (p.side, p.inside, p.starts, p.adds);
  }

  module _ (d : List ℕ) (r : Relaxed g a d) (st : Stable g d) where
    -- no walk is shorter than the entry
    walk-longer : {u n : ℕ} → Walk g a u n → distance_at d u ≤ n
    walk-longer trivial = omega (arith, r.own)
    walk-longer (step s h p) = omega (arith, st s h, walk-longer p)

    at_most : (u : ℕ) → distance_at d u ≤ dist g a u
    at_most u =
        by_cases (dec_lt (dist g a u) unreachable)
        (λ l. walk-longer (dist-walk g ok a in-a u l))
        (λ l. omega (arith, r.capped u))

    at_least : (u : ℕ) → dist g a u ≤ distance_at d u
    at_least u =
        by_cases (dec_lt (distance_at d u) unreachable)
        (λ l. dist-least g ok a in-a (r.walked u l))
        (λ l. omega (arith, dist-capped g ok a in-a u))

    pub stable-is-dist : (u : ℕ) → distance_at d u ≡ dist g a u
    stable-is-dist u = omega (arith, at_most u, at_least u)
