-- Small graphs, with distances and tables computed by the definitions.
use Rattle.std.specs.Prelude.{◌≡◌, refl, ◌≢◌, List, [], ◌∷◌, ℕ}
use Rattle.distance.specs.Graph.{WeightedGraph, WellFormed}
use Rattle.distance.specs.Distance.{distances_from}
use Rattle.distance.specs.Nearest.{nearest_virtual}
use Rattle.distance.specs.Table.{table_from_distances}
use Rattle.distance.specs.Feasible.{Feasible}
use Rattle.distance.specs.Opens.{everything}

-- ---- graph P (SPECIFICATION 13.1)

-- four vertices in a row, edges of weight 4, a virtual vertex at both ends
abbrev pub weighted_p : WeightedGraph
weighted_p = record { size = 4; ends = 0 ∷ 1 ∷ 1 ∷ 2 ∷ 2 ∷ 3 ∷ []; weights = 4 ∷ 4 ∷ 4 ∷ []; virtual = 1 ∷ 0 ∷ 0 ∷ 1 ∷ [] }

P-distances : distances_from weighted_p 1 ≡ 4 ∷ 0 ∷ 4 ∷ 8 ∷ []
unfolding everything
P-distances = refl

P-nearest : nearest_virtual weighted_p 1 ≡ 4
unfolding everything
P-nearest = refl

-- P1: dual variable 2 at vertices 1 and 2
P1-table : table_from_distances weighted_p (0 ∷ 2 ∷ 2 ∷ 0 ∷ []) ≡ 0 ∷ 2 ∷ 2 ∷ 2 ∷ 2 ∷ 0 ∷ []
unfolding everything
P1-table = refl

-- ---- two more of SPECIFICATION 13.1

-- P8: dual variable 5 at vertex 1 fills the edge of weight 2 and no more
P8-table : table_from_distances (record { size = 3; ends = 0 ∷ 1 ∷ 1 ∷ 2 ∷ []; weights = 2 ∷ 6 ∷ []; virtual = 0 ∷ 0 ∷ 1 ∷ [] }) (0 ∷ 5 ∷ 0 ∷ [])
    ≡ 0 ∷ 2 ∷ 5 ∷ 0 ∷ []
unfolding everything
P8-table = refl

-- P9: dual variable 5 at vertex 0; edge 1-2 of weight 2 holds 3 and 3
P9-table : table_from_distances
    (record
    { size = 4; ends = 0 ∷ 1 ∷ 0 ∷ 2 ∷ 1 ∷ 2 ∷ 2 ∷ 3 ∷ []; weights = 2 ∷ 2 ∷ 2 ∷ 20 ∷ []; virtual = 0 ∷ 0 ∷ 0 ∷ 1 ∷ [] })
    (5 ∷ 0 ∷ 0 ∷ 0 ∷ [])
    ≡ 2 ∷ 0 ∷ 2 ∷ 0 ∷ 3 ∷ 3 ∷ 3 ∷ 0 ∷ []
unfolding everything
P9-table = refl

-- ---- graphs on which a table does not tell the dual variables

-- two different lists of feasible dual variables have one table
pub record SameTable (g : WeightedGraph) (y z : List ℕ) : Type 0 where
  pub formed : WellFormed g
  pub first : Feasible g y
  pub second : Feasible g z
  pub differ : y ≢ z
  pub same : table_from_distances g y ≡ table_from_distances g z

-- an edge of weight 0 between vertices 0 and 1; vertex 2 is virtual
abbrev pub zero_weight : WeightedGraph
zero_weight = record { size = 3; ends = 0 ∷ 1 ∷ 1 ∷ 2 ∷ []; weights = 0 ∷ 4 ∷ []; virtual = 0 ∷ 0 ∷ 1 ∷ [] }

-- one edge of weight 2 and no virtual vertex
abbrev pub no_virtual : WeightedGraph
no_virtual = record { size = 2; ends = 0 ∷ 1 ∷ []; weights = 2 ∷ []; virtual = 0 ∷ 0 ∷ [] }
