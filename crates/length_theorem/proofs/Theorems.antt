-- What a growing length, prepared first, says of tight constraints and obstacles: on every run without blossoms and with positive weights.
use Rattle.std.specs.Prelude.{ℕ, ◌+◌, ◌≡◌, ◌≢◌, Bool, List, ℤ}
use Rattle.graph.specs.Open.{Edge}
use Rattle.answers.specs.Outcome.{Length, Refused}
use Rattle.answers.specs.declared.MaxUpdateLength.TheVariants.{NonZeroGrow, Unlimited, Conflicting, TouchingVirtual}
use Rattle.opened_graph.specs.OpenedGraph.{PositiveWeights}
use Rattle.calls.specs.Contacts.{IsContact}
use Rattle.table_theorem.specs.Runs.{Run, end}
use Rattle.length_theorem.specs.Meaning.{Obstacle, growing_length, DefectAt, NoneShrinks, Tight, ContactMeans, ConflictMeans, VirtualMeans, Keeps, FreeBy}
use Rattle.length_theorem.proofs.laws.Contact.{contact-means}
use Rattle.length_theorem.proofs.laws.Meaning.{conflict-means, virtual-means, free-keeps, unlimited-keeps, tight-meets}

-- A contact of two nodes means that their dual variables sum to the distance of their defects: their constraint is tight.
pub contact-is-tight : {v : ℕ} {edges : List Edge} {virtuals : List ℕ} → PositiveWeights edges → (r : Run v edges virtuals) (e p q : ℕ)
    → IsContact (end r) (record { edge = e; left = p + 1; right = q + 1 }) → ContactMeans r p q
contact-is-tight positive r e p q = contact-means positive r e p q

module _ {v : ℕ} {edges : List Edge} {virtuals : List ℕ} (positive : PositiveWeights edges) (r : Run v edges virtuals) {n x : ℕ} (at : DefectAt r n x) where
  -- A conflict with a peer means that the constraint of the two is tight, or has 1 left where the peer is Grow.
  pub conflict-is-tight : {p h m k : ℕ} → growing_length r n ≡ Length (Conflicting p h m k) → ConflictMeans r n x p m
  conflict-is-tight = conflict-means positive r at

  -- A virtual vertex that is answered means that the constraint with it is tight.
  pub virtual-is-tight : {m k u : ℕ} → growing_length r n ≡ Length (TouchingVirtual m k u) → VirtualMeans r n x m u
  virtual-is-tight = virtual-means positive r at

  module _ (none : NoneShrinks r) where
    -- Where no node is Shrink, a free length is above 0, and growth by it keeps every constraint.
    pub free-length-keeps-constraints : {l : ℤ} {e : Bool} → growing_length r n ≡ Length (NonZeroGrow l e) → FreeBy r n x l
    free-length-keeps-constraints = free-keeps positive r at none

    -- An unlimited one keeps them whatever the growth: no other defect and no virtual vertex is in reach.
    pub unlimited-length-keeps-constraints : {e : Bool} → growing_length r n ≡ Length (Unlimited e) → (l : ℕ) → Keeps r n x l
    unlimited-length-keeps-constraints = unlimited-keeps positive r at none

    -- And a node with a tight constraint gets an obstacle, unless the call is refused.
    pub tight-node-meets-obstacle : Tight r n x → ((k : ℕ) → growing_length r n ≢ Refused k) → Obstacle n (growing_length r n)
    tight-node-meets-obstacle = tight-meets positive r at none
