-- The labels of a new blossom: its base is the sum of its members' radii, and the depth of a member's vertex grows by what
-- the base is above that member's radius.
use Rattle.std.specs.Prelude.{ℕ, ◌+◌, ◌-◌, ◌≤◌, ◌≡◌, true, false, List, [], ◌∷◌, if◌then◌else◌}
use Rattle.std.proofs.Common.{arith}
use Rattle.graph.specs.Basic.{member}
use Rattle.graph.specs.State.{State, dual_of}
use Rattle.graph.specs.laws.Members.{member-cons, member-nil}
use Rattle.reachable.specs.laws.invariant.TakenVertex.{update}
use Rattle.reachable.specs.Invariant.{Labels}

-- the radius of a node, and the sum over some nodes
unfoldable pub radius_of : State → Labels → ℕ → ℕ
radius_of c k m = k.base m + dual_of c m

unfoldable pub radius_sum : State → Labels → List ℕ → ℕ
radius_sum c k [] = 0
radius_sum c k (m ∷ ms) = radius_of c k m + radius_sum c k ms

pub radius-le-sum : (c : State) (k : Labels) (ms : List ℕ) (m : ℕ) → member m ms ≡ true → radius_of c k m ≤ radius_sum c k ms
unfolding radius_sum
radius-le-sum c k [] m h = member-nil m h
radius-le-sum c k (i ∷ ms) m h =
    member-cons m i ms h (λ e. rw e (omega arith))
    (λ e. let r : radius_of c k m ≤ radius_sum c k ms = radius-le-sum c k ms m e in omega arith)

module _ (c : State) (k : Labels) (circle : List ℕ) (n : ℕ) where
  unfoldable pub shifted_depth : ℕ → ℕ
  shifted_depth u = if member (k.owner u) circle then k.depth u + (radius_sum c k circle - radius_of c k (k.owner u)) else k.depth u

  unfoldable pub new_owner : ℕ → ℕ
  new_owner u = if member (k.owner u) circle then n else k.owner u

  pub shifted-depth-in : (u m : ℕ) → k.owner u ≡ m → member m circle ≡ true → shifted_depth u + radius_of c k m ≡ k.depth u + radius_sum c k circle
  unfolding shifted_depth
  shifted-depth-in u m e h = rw (e, h) (omega (arith, radius-le-sum c k circle m h))

  pub shifted-depth-off : (u : ℕ) → member (k.owner u) circle ≡ false → shifted_depth u ≡ k.depth u
  unfolding shifted_depth
  shifted-depth-off u h = rw h

  pub new-owner-in : (u m : ℕ) → k.owner u ≡ m → member m circle ≡ true → new_owner u ≡ n
  unfolding new_owner
  new-owner-in u m e h = rw (e, h)

  pub new-owner-off : (u : ℕ) → member (k.owner u) circle ≡ false → new_owner u ≡ k.owner u
  unfolding new_owner
  new-owner-off u h = rw h

-- the new labels: n is the blossom
unfoldable pub blossom_labels : State → Labels → List ℕ → ℕ → Labels
blossom_labels c k circle n =
    record {
      depth = shifted_depth c k circle n;
      rank = k.rank;
      owner = new_owner c k circle n;
      next_rank = k.next_rank;
      base = update k.base n (radius_sum c k circle);
    }
