-- The nearest virtual vertex.
use Rattle.std.specs.Prelude.{◌≡◌, refl, ◌↔◌, ℕ, zero, suc, ◌≤◌, ◌<◌, get_or}
use Rattle.std.proofs.Math.Logic.{by_cases}
use Rattle.std.proofs.Common.{arith}
use Rattle.std.proofs.Math.Decide.{dec_lt, ℕ_discrete}
use Rattle.distance.specs.Graph.{WeightedGraph, WellFormed, Virtual}
use Rattle.distance.specs.Distance.{unreachable, dist}
use Rattle.distance.specs.Nearest.{ReachesVirtual, if_virtual, nearest_virtual_below, nearest_virtual, NearestVirtual}
use Rattle.distance.proofs.laws.Distance.{dist-walk, walk-reached}

virtual-set : (f d : ℕ) → 0 < f → if_virtual f d ≡ d
unfolding if_virtual
virtual-set zero d h = omega arith
virtual-set (suc f) d h = refl

virtual-near : (f d : ℕ) → if_virtual f d < unreachable → 0 < f
unfolding if_virtual
virtual-near zero d h = omega arith
virtual-near (suc f) d h = omega arith

nearest-below : (g : WeightedGraph) (a n v : ℕ) → v < n → Virtual g v → nearest_virtual_below g a n ≤ dist g a v
unfolding nearest_virtual_below
nearest-below g a zero v h f = omega arith
nearest-below g a (suc n) v h f =
    by_cases (ℕ_discrete v n)
    (λ e. rw e (omega (arith, virtual-set (get_or g.virtual n 0) (dist g a n) (rw e at f))))
    (λ e. omega (arith, nearest-below g a n v (omega arith) f))

-- no virtual vertex is nearer
pub nearest-least : (g : WeightedGraph) (a v : ℕ) → v < g.size → Virtual g v → nearest_virtual g a ≤ dist g a v
unfolding nearest_virtual
nearest-least g a v h f = nearest-below g a g.size v h f

nearest-found : (g : WeightedGraph) (a n : ℕ) → nearest_virtual_below g a n < unreachable
    → (v : ℕ) × (v < n) × Virtual g v × (dist g a v ≡ nearest_virtual_below g a n)
unfolding nearest_virtual_below
nearest-found g a zero l = absurd (omega arith)
nearest-found g a (suc n) l =
    by_cases (dec_lt (if_virtual (get_or g.virtual n 0) (dist g a n)) (nearest_virtual_below g a n))
    (λ k.
    let f = virtual-near (get_or g.virtual n 0) (dist g a n) (omega arith) in
    (n, omega arith, f, omega (arith, virtual-set (get_or g.virtual n 0) (dist g a n) f)))
    (λ k. let r = nearest-found g a n (omega arith) in (r.0, omega arith, r.2, omega arith))

-- where it is not `unreachable`, some virtual vertex is as near
pub nearest-vertex : (g : WeightedGraph) (a : ℕ) → nearest_virtual g a < unreachable → NearestVirtual g a
unfolding nearest_virtual
nearest-vertex g a l =
    let r = nearest-found g a g.size l in record { vertex = r.0; placed = r.1; virtual = r.2; reached = omega arith; nearest-is = r.3 }

-- which is so exactly where a walk leads to one
pub nearest-in-reach : (g : WeightedGraph) (ok : WellFormed g) (a : ℕ) → a < g.size → (nearest_virtual g a < unreachable) ↔ ReachesVirtual g a
nearest-in-reach g ok a h = (
  λ l.
      let v = nearest-vertex g a l in
      record { vertex = v.vertex; placed = v.placed; virtual = v.virtual; total = dist g a v.vertex; walk = dist-walk g ok a h v.vertex v.reached },
  λ w. omega (arith, nearest-least g a w.vertex w.placed w.virtual, walk-reached g ok a h w.walk),
)
