-- Sides in the words of the edges, and marks on vertices.
use Rattle.std.specs.Prelude.{ℕ, zero, suc, ◌+◌, ◌-◌, ◌*◌, ◌/◌, ◌%◌, Bool, List, ℤ, ltb, get_or, set, if◌then◌else◌}
use Rattle.graph.specs.Opening.{given_at}

-- ---- sides, in the words of the edges

-- the vertex of side s
unfoldable pub near_in : List ℤ → ℕ → ℕ
near_in edges s = given_at edges (3 * (s / 2) + s % 2)

-- the vertex across
unfoldable pub across_in : List ℤ → ℕ → ℕ
across_in edges s = given_at edges (3 * (s / 2) + (1 - s % 2))

-- the weight
unfoldable pub weight_in : List ℤ → ℕ → ℕ
weight_in edges s = given_at edges (3 * (s / 2) + 2)

-- ---- marks

-- vertex u has a mark
abbrev pub marked : List ℕ → ℕ → Bool
marked m u = ltb 0 (get_or m u 0)

-- vertex u gets a mark where t says so
unfoldable pub mark_if : Bool → List ℕ → ℕ → List ℕ
mark_if t m u = if t then set m u 1 else m

-- of the numbers below k, those that pass the test p mark the vertex `at` names
unfoldable pub marks_by : (ℕ → Bool) → (ℕ → ℕ) → List ℕ → ℕ → List ℕ
marks_by p at m zero = m
marks_by p at m (suc k) = mark_if (p k) (marks_by p at m k) (at k)
