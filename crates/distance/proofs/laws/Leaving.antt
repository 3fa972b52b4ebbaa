-- Where a shortest walk leaves a set of vertices.
use Rattle.std.specs.Prelude.{◌≡◌, refl, ℕ, ◌+◌, ◌<◌}
use Rattle.std.proofs.Math.Logic.{by_cases}
use Rattle.std.proofs.Common.{arith}
use Rattle.distance.specs.Graph.{WeightedGraph, WellFormed, sides, near, across, weight, Walk, trivial, step}
use Rattle.distance.specs.Distance.{unreachable, dist}
use Rattle.distance.proofs.laws.Side.{across-placed}
use Rattle.distance.proofs.laws.Walk.{walk-placed}
use Rattle.distance.proofs.laws.Distance.{dist-self, dist-walk, dist-side, dist-triangle, last_step}

-- Where a shortest walk from a to t leaves the vertices of which H holds: a side on it, outward from a.
pub record Leaving (g : WeightedGraph) (a t : ℕ) (H : ℕ → Type 0) : Type 0 where
  pub side : ℕ
  pub inside : side < sides g
  pub held : H (near g side)
  pub free : ¬ H (across g side)
  pub adds : dist g a (across g side) ≡ dist g a (near g side) + weight g side
  pub ahead : dist g a t ≡ dist g a (across g side) + dist g (across g side) t

module _ (g : WeightedGraph) (ok : WellFormed g) (a : ℕ) (in-a : a < g.size) where
  pub dist-leaving : (H : ℕ → Type 0) → ((u : ℕ) → Dec (H u)) → H a → (t : ℕ) → ¬ H t → dist g a t < unreachable → Leaving g a t H
  dist-leaving H dec h t q l =
      let p = dist-walk g ok a in-a t l in
      go p refl q (omega (arith, dist-self g ok t (walk-placed g ok a in-a p)))
    where
      go : {u n : ℕ} → Walk g a u n → n ≡ dist g a u → ¬ H u → dist g a t ≡ dist g a u + dist g u t → Leaving g a t H
      go trivial e q r = absurd (q h)
      go (step s k p) e q r =
          let m = last_step g ok a in-a s k p e in
          let by = dist-triangle g ok (near g s) (across g s) t (ok.placed s k) (across-placed g ok s k) in
          let on = dist-triangle g ok a (near g s) t in-a (ok.placed s k) in
          by_cases (dec (near g s))
          (λ c. record { side = s; inside = k; held = c; free = q; adds = omega arith; ahead = r })
          (λ c. go p m c (omega (arith, dist-side g ok s k)))
