-- Whether every vertex of a patch reaches vertex 3.
use Rattle.std.specs.Prelude.{Bool, List, [], ◌∷◌, ℕ, zero, suc, ◌<◌, ltb, get_or, set, if◌then◌else◌}
use Rattle.graph.specs.Basic.{fold, all_below}
use Rattle.graph.specs.Open.{Edge}
use Rattle.distance.specs.Graph.{Walk}
use Rattle.small_patches.specs.SmallPatch.{patch_graph}

-- from each vertex a walk leads to vertex 3
abbrev pub EachReaches : List Edge → Type 0
EachReaches es = (a : ℕ) → a < 4 → (n : ℕ) × Walk (patch_graph es) a 3 n

-- ---- the same as a program: marks that spread from vertex 3

-- where vertex a has a mark, vertex b gets one
unfoldable pub spread_to : List ℕ → ℕ → ℕ → List ℕ
spread_to m a b = if ltb 0 (get_or m a 0) then set m b 1 else m

-- along an edge, both ways
unfoldable pub spread_along : List ℕ → Edge → List ℕ
spread_along m e = spread_to (spread_to m e.left e.right) e.right e.left

-- along all edges in turn, n times
unfoldable pub spread_over : List Edge → ℕ → List ℕ → List ℕ
spread_over es zero m = m
spread_over es (suc n) m = fold spread_along (spread_over es n m) es

-- how often: enough for four vertices
abbrev pub times : ℕ
times = 3

-- the marks in the end
unfoldable pub marks_of : List Edge → List ℕ
marks_of es = spread_over es times (0 ∷ 0 ∷ 0 ∷ 1 ∷ [])

-- vertex a has one
abbrev pub has_mark : List ℕ → ℕ → Bool
has_mark m a = ltb 0 (get_or m a 0)

-- every vertex has one
unfoldable pub all_reach : List Edge → Bool
all_reach es = all_below (has_mark (marks_of es)) 4
