-- Small sheets, by computing.
use Rattle.std.specs.Prelude.{ℕ, ◌≡◌, refl, Bool, true, false, List, [], ◌∷◌, map, ℤ, pos, negsuc}
use Rattle.sheet.specs.Weight.{scaled}
use Rattle.sheet.specs.Sheet.{largest, vanished}
use Rattle.sheet.specs.Called.{sheet_refusal}
use Rattle.sheet.specs.Opens.{everything}

-- the weights of all values
abbrev weights : List ℕ → List ℕ
weights values = map (scaled (largest values)) values

-- one value; equal ones; a third, and two thirds; a half, which goes up: 500,000 / 64 is 7,812.5
one_value : weights (7 ∷ []) ≡ 1_000_000 ∷ []
unfolding everything
one_value = refl

equal-values : weights (5 ∷ 5 ∷ 5 ∷ []) ≡ 1_000_000 ∷ 1_000_000 ∷ 1_000_000 ∷ []
unfolding everything
equal-values = refl

thirds : weights (1 ∷ 2 ∷ 3 ∷ []) ≡ 333_334 ∷ 666_666 ∷ 1_000_000 ∷ []
unfolding everything
thirds = refl

half-goes-up : weights (1 ∷ 64 ∷ []) ≡ 15_626 ∷ 1_000_000 ∷ []
unfolding everything
half-goes-up = refl

-- 0.0001 beside 99,999.9999 becomes 0, and so does 0.0999, but 0.1 doesn't; a value of 0 is not counted
smallest : weights (0 ∷ 1 ∷ 999 ∷ 1_000 ∷ 999_999_999 ∷ []) ≡ 0 ∷ 0 ∷ 0 ∷ 2 ∷ 1_000_000 ∷ []
unfolding everything
smallest = refl

two-vanish : vanished (0 ∷ 1 ∷ 999 ∷ 1_000 ∷ 999_999_999 ∷ []) ≡ 2
unfolding everything
two-vanish = refl

-- ---- refusals: two vertices, one edge, N 1, L 0; `fit` says that block and scratch have their lengths

abbrev refused_of : List ℤ → List ℤ → List ℤ → Bool → ℕ
refused_of edges sheet virtuals fit = sheet_refusal 2 1 1 0 edges sheet virtuals fit

-- the edge 0-1 with a third word that open would refuse, and a sheet for it
abbrev edge : List ℤ
edge = pos 0 ∷ pos 1 ∷ negsuc 0 ∷ []

abbrev five : List ℤ
five = pos 5 ∷ []

-- an edge from 0 to 0, and a value below 0
abbrev loop : List ℤ
loop = pos 0 ∷ pos 0 ∷ pos 4 ∷ []

abbrev below0 : List ℤ
below0 = negsuc 0 ∷ []

-- accepted; a second edge; a block of a wrong length; two values; vertex 2; a loop; no third word; no value above 0; a value out of range
each-refusal :
    refused_of edge five (pos 1 ∷ []) true ∷ refused_of (pos 0 ∷ pos 1 ∷ pos 4 ∷ pos 0 ∷ []) five [] true
    ∷ refused_of edge five [] false ∷ refused_of edge (pos 5 ∷ pos 5 ∷ []) [] true ∷ refused_of edge five (pos 2 ∷ []) true
    ∷ refused_of loop five [] true ∷ refused_of (pos 0 ∷ pos 1 ∷ []) five [] true
    ∷ refused_of edge (pos 0 ∷ []) [] true ∷ refused_of edge below0 [] true ∷ refused_of edge (pos 1_000_000_000 ∷ []) [] true ∷ []
    ≡ 0 ∷ 4 ∷ 1 ∷ 1 ∷ 3 ∷ 4 ∷ 4 ∷ 17 ∷ 17 ∷ 17 ∷ []
unfolding everything
each-refusal = refl

-- the first that applies is answered
order-of-refusals :
    sheet_refusal 0 1 1 0 loop below0 (pos 2 ∷ []) false ∷ refused_of loop below0 (pos 2 ∷ []) false
    ∷ refused_of loop below0 (pos 2 ∷ []) true ∷ refused_of loop below0 [] true ∷ []
    ≡ 4 ∷ 1 ∷ 3 ∷ 4 ∷ []
unfolding everything
order-of-refusals = refl
