-- The certificate for the distances of one defect.
use Rattle.std.specs.Prelude.{ℕ, ◌+◌, ◌*◌, Bool, ◌&&◌, ◌||◌, List, ℤ, leb, eqb, replicate}
use Rattle.graph.specs.Basic.{all_below}
use Rattle.distance.specs.Distance.{unreachable}
use Rattle.table_words.specs.Sides.{near_in, across_in, weight_in, marked, marks_by}

-- ---- the certificate: D is the row of the defect at vertex a

-- D rises along side s by at most its weight
unfoldable pub relaxed_at : List ℤ → (ℕ → ℕ) → ℕ → Bool
relaxed_at edges D s = leb (D (across_in edges s)) (D (near_in edges s) + weight_in edges s)

-- the vertex across precedes that of side s: D rises by the whole weight
unfoldable pub precedes_at : List ℤ → (ℕ → ℕ) → ℕ → Bool
precedes_at edges D s = eqb (D (near_in edges s)) (D (across_in edges s) + weight_in edges s)

-- the vertices that have a predecessor
unfoldable pub preceded_marks : ℕ → List ℤ → (ℕ → ℕ) → List ℕ
preceded_marks e edges D = marks_by (precedes_at edges D) (near_in edges) (replicate 1024 0) (2 * e)

-- u is a, or out of reach, or has a predecessor
unfoldable pub settled_at : List ℕ → (ℕ → ℕ) → ℕ → ℕ → Bool
settled_at m D a u = eqb u a || (leb unreachable (D u) || marked m u)

unfoldable pub certified : ℕ → ℕ → List ℤ → ℕ → (ℕ → ℕ) → Bool
certified v e edges a D =
    eqb (D a) 0 && (all_below (relaxed_at edges D) (2 * e) && all_below (settled_at (preceded_marks e edges D) D a) v)
