-- The growth table worked out from distances and dual variables alone: the rule of SPECIFICATION 11.2.
use Rattle.std.specs.Prelude.{Bool, true, false, List, [], ◌∷◌, ◌++◌, ℕ, zero, suc, ◌+◌, ◌-◌, ◌<◌, min, leb, eqb, get_or}
use Rattle.std.proofs.Math.Option.{Option, none, some}
use Rattle.distance.specs.Graph.{WeightedGraph, sides, near, across, weight}
use Rattle.distance.specs.Distance.{dist}

-- The dual variable y(a) of vertex a: that of the defect there, 0 where there is none.
abbrev pub dual : List ℕ → ℕ → ℕ
dual y a = get_or y a 0

-- Defect a covers vertex u: y(a) > d(a,u).
abbrev pub Covers : WeightedGraph → List ℕ → ℕ → ℕ → Type 0
Covers g y a u = dist g a u < dual y a

-- ---- who covers a vertex

-- y > d, as a test; it does not compute d where y is 0
abbrev pub exceeds : ℕ → ℕ → Bool
exceeds zero d = false
exceeds (suc y) d = leb d y

-- the first of the k numbers from i on that passes the test
unfoldable pub first_from : (ℕ → Bool) → ℕ → ℕ → Option ℕ
first_from p zero i = none
first_from p (suc k) i = elim (p i) [ true ↦ some i | false ↦ first_from p k (suc i) ]

-- "That defect": the first that covers u, none if no defect does. Feasible dual variables leave at most one (`one-defect-covers`).
unfoldable pub owner : WeightedGraph → List ℕ → ℕ → Option ℕ
owner g y u = first_from (λ a. exceeds (dual y a) (dist g a u)) g.size 0

-- ---- growth

-- What a defect of dual variable y gives a side on an edge of weight w, when it is n away from the vertex of the side and f away from the one across. It has
-- y - n left. An edge that leads away from it takes of this no more than w, an edge that leads back takes none, any other takes all.
unfoldable pub share : (y n f w : ℕ) → ℕ
share y n f w = elim (eqb f (n + w)) [ true ↦ min (y - n) w | false ↦ elim (eqb n (f + w)) [ true ↦ 0 | false ↦ y - n ] ]

-- what its owner, if any, gives side s
abbrev pub growth_by : WeightedGraph → List ℕ → ℕ → Option ℕ → ℕ
growth_by g y s none = 0
growth_by g y s (some a) = share (dual y a) (dist g a (near g s)) (dist g a (across g s)) (weight g s)

-- The growth of side s: 0 where no defect covers its vertex, else the share of the one that does.
unfoldable pub growth : WeightedGraph → List ℕ → ℕ → ℕ
growth g y s = growth_by g y s (owner g y (near g s))

-- ---- the table

-- the growths of sides 0 to k - 1
unfoldable pub growths_below : WeightedGraph → List ℕ → ℕ → List ℕ
growths_below g y zero = []
growths_below g y (suc k) = growths_below g y k ++ (growth g y k ∷ [])

-- the growth of each side
unfoldable pub table_from_distances : WeightedGraph → List ℕ → List ℕ
table_from_distances g y = growths_below g y (sides g)
