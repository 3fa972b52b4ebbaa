-- Numbers that can be told to be distances without computing distances.
use Rattle.std.specs.Prelude.{◌≡◌, ℕ, zero, suc, ◌≤◌, ◌<◌}
use Rattle.std.proofs.Math.Logic.{by_cases}
use Rattle.std.proofs.Common.{arith}
use Rattle.std.proofs.Math.Decide.{dec_lt, ℕ_discrete}
use Rattle.distance.specs.Graph.{WeightedGraph, WellFormed, Positive, across, Walk, trivial, step}
use Rattle.distance.specs.Distance.{unreachable, dist, DistanceCertificate}
use Rattle.distance.proofs.laws.Distance.{dist-self, dist-capped, dist-walk, dist-edge-back}

module _ (g : WeightedGraph) (ok : WellFormed g) (pos : Positive g) (a : ℕ) (in-a : a < g.size) (D : ℕ → ℕ) (cert : DistanceCertificate g a D) where
  -- no walk is shorter
  walk-longer : {u n : ℕ} → Walk g a u n → D u ≤ n
  walk-longer trivial = omega (arith, cert.self)
  walk-longer (step s h p) = omega (arith, cert.edge s h, walk-longer p)

  -- and one is as short
  dist-within : (n u : ℕ) → D u ≤ n → D u < unreachable → dist g a u ≤ D u
  dist-within zero u l h =
      by_cases (ℕ_discrete u a) (λ e. rw e (omega (arith, dist-self g ok a in-a)))
      (λ q. let b = cert.predecessor u q h in omega (arith, pos b.0 b.1))
  dist-within (suc n) u l h =
      by_cases (ℕ_discrete u a) (λ e. rw e (omega (arith, dist-self g ok a in-a)))
      (λ q.
      let b = cert.predecessor u q h in
      let w = pos b.0 b.1 in
      omega (arith, dist-within n (across g b.0) (omega arith) (omega arith), rw b.2 at (dist-edge-back g ok a in-a b.0 b.1)))

  -- then D is the distance
  pub certified-distance : (u : ℕ) → D u ≡ dist g a u
  certified-distance u =
      let at_most : D u ≤ dist g a u =
      by_cases (dec_lt (dist g a u) unreachable) (λ l. walk-longer (dist-walk g ok a in-a u l))
      (λ l. omega (arith, cert.capped u)) in
      let at_least : dist g a u ≤ D u =
      by_cases (dec_lt (D u) unreachable) (dist-within (D u) u (omega arith))
      (λ l. omega (arith, dist-capped g ok a in-a u)) in
      omega arith
