-- The edges of a patch as words, and by the digits of its number: what the code works with.
use Rattle.std.specs.Prelude.{◌≡◌, List, [], ◌∷◌, ◌++◌, ℕ, zero, suc, ◌+◌, ◌*◌, ◌/◌, ◌%◌, ℤ, pos, eqb, length, if◌then◌else◌}
use Rattle.std.proofs.lemmas.List.Edits.{sets}
use Rattle.graph.specs.Open.{Edge}
use Rattle.small_patches.specs.SmallPatch.{Pair, pair, edge_over}

-- the words of edges as open takes them, three each
unfoldable pub edge_words : List Edge → List ℤ
edge_words [] = []
edge_words (e ∷ es) = pos e.left ∷ pos e.right ∷ pos e.weight ∷ edge_words es

-- c is b with the words of es behind those of n edges, and m is how many edges there are then
pub record EdgesPut (b : List ℤ) (n : ℕ) (c : List ℤ) (m : ℕ) (es : List Edge) : Type 0 where
  pub words : c ≡ sets b (3 * n) (edge_words es)
  pub count : m ≡ n + length es

-- the weight of a pair that is not absent, by its digit
unfoldable pub weight_of : ℕ → ℕ
weight_of d = if eqb d 1 then 2 else 4

-- the edge of a pair, none where its digit is 0
unfoldable pub edges_by : ℕ → Pair → List Edge
edges_by zero p = []
edges_by (suc d) p = edge_over p (weight_of (suc d)) ∷ []

-- the edges by the digits of k in base 3, those of vertex 0 first
unfoldable pub edges_of_zero : ℕ → List Edge
edges_of_zero k = edges_by (k / 243 % 3) (pair 0 1) ++ edges_by (k / 81 % 3) (pair 0 2) ++ edges_by (k / 27 % 3) (pair 0 3)

unfoldable pub other_edges : ℕ → List Edge
other_edges k = edges_by (k / 9 % 3) (pair 1 2) ++ edges_by (k / 3 % 3) (pair 1 3) ++ edges_by (k % 3) (pair 2 3)
