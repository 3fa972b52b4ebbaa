-- Marks that spread along sides tell which vertices reach a virtual one.
use Rattle.std.specs.Prelude.{◌≡◌, ◌↔◌, List, ℕ, ◌+◌, ◌<◌, set}
use Rattle.std.proofs.Math.Logic.{by_cases}
use Rattle.std.proofs.Common.{arith, length-set, get_or-set_same, get_or-set_other}
use Rattle.std.proofs.Math.Decide.{ℕ_discrete}
use Rattle.distance.specs.Graph.{WeightedGraph, WellFormed, sides, near, across, weight, Walk, trivial, step}
use Rattle.distance.specs.Nearest.{ReachesVirtual}
use Rattle.distance.specs.Reach.{HasMark, ReachMarks, AllSpread}
use Rattle.distance.proofs.laws.Side.{across-placed}
use Rattle.distance.proofs.laws.Walk.{join-walks, cross-side, reverse-walk}

module _ (g : WeightedGraph) (ok : WellFormed g) (m : List ℕ) (r : ReachMarks g m) where
  module _ (s : ℕ) (h : s < sides g) (k : HasMark m (near g s)) where
    same : (u : ℕ) → Dec (u ≡ across g s)
    same u = ℕ_discrete u (across g s)

    -- back over the side, and on as the vertex of the side does
    through : ReachesVirtual g (across g s)
    through =
        let on = r.reaching (near g s) k in
        let back : Walk g (across g s) (near g s) (weight g s) = reverse-walk ok (cross-side s h) in
        record {
          vertex = on.vertex;
          placed = on.placed;
          virtual = on.virtual;
          total = weight g s + on.total;
          walk = join-walks back on.walk;
        }

    marked-across : HasMark (set m (across g s) 1) (across g s)
    marked-across = rw (get_or-set_same m (across g s) 1 0 (omega (arith, across-placed g ok s h, r.sized))) (omega arith)

    -- the vertex across gets a mark
    pub spread-mark : ReachMarks g (set m (across g s) 1)
    spread-mark = record {
      sized = simp length-set r.sized;
      virtuals = λ v i w.
          by_cases (same v) (λ e. rw e marked-across) (λ e. rw (get_or-set_other m (across g s) v 1 0 e) (r.virtuals v i w));
      reaching = λ u q.
          by_cases (same u) (λ e. rw e through) (λ e. r.reaching u (rw (get_or-set_other m (across g s) u 1 0 e) at q));
    }

  module _ (all : AllSpread g m) where
    -- the mark of its first vertex is at the last one of a walk
    along : (a : ℕ) {u n : ℕ} → Walk g a u n → HasMark m a → HasMark m u
    along a trivial k = k
    along a (step s h p) k = all s h (along a p k)

    pub marks-are-reach : (u : ℕ) → u < g.size → HasMark m u ↔ ReachesVirtual g u
    marks-are-reach u h = (
      r.reaching u,
      λ w. along w.vertex (reverse-walk ok w.walk) (r.virtuals w.vertex w.placed w.virtual),
    )
