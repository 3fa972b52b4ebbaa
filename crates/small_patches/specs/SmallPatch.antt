-- The graphs, and their list.
use Rattle.std.specs.Prelude.{◌≡◌, Bool, true, ◌&&◌, ◌||◌, not, List, [], ◌∷◌, ◌++◌, map, ℕ, ◌≤◌, eqb, ltb, length, get_or, drop, if◌then◌else◌}
use Rattle.graph.specs.Open.{Edge, open_refusal}
use Rattle.distance.specs.Graph.{WeightedGraph}
use Rattle.opened_graph.specs.OpenedGraph.{opened_graph}

-- ---- the graphs

-- two vertices
pub record Pair : Type 0 where
  pub left : ℕ
  pub right : ℕ

abbrev pub pair : ℕ → ℕ → Pair
pair a b = record { left = a; right = b }

-- each two of the four, in order
unfoldable pub pairs : List Pair
pairs = pair 0 1 ∷ pair 0 2 ∷ pair 0 3 ∷ pair 1 2 ∷ pair 1 3 ∷ pair 2 3 ∷ []

-- the edge of weight w between them
abbrev pub edge_over : Pair → ℕ → Edge
edge_over p w = record { left = p.left; right = p.right; weight = w }

-- edges over some pairs: in turn each pair is absent, of weight 2 or of weight 4
pub data PatchOver : List Pair → List Edge → Type 0 where
  no_pairs : PatchOver [] []
  absent : {p : Pair} {ps : List Pair} {es : List Edge} → PatchOver ps es → PatchOver (p ∷ ps) es
  of_weight2 : {p : Pair} {ps : List Pair} {es : List Edge} → PatchOver ps es → PatchOver (p ∷ ps) (edge_over p 2 ∷ es)
  of_weight4 : {p : Pair} {ps : List Pair} {es : List Edge} → PatchOver ps es → PatchOver (p ∷ ps) (edge_over p 4 ∷ es)

-- a small patch, by its edges
abbrev pub SmallPatch : List Edge → Type 0
SmallPatch es = PatchOver pairs es

-- its graph: vertices 0 to 3, of which 3 is virtual
abbrev pub patch_graph : List Edge → WeightedGraph
patch_graph es = opened_graph 4 es (3 ∷ [])

-- what opening it with N 4 and L 200 answers; 0 where it is opened
unfoldable pub opening_of : List Edge → ℕ
opening_of es = open_refusal 4 (length es) 4 200 es (3 ∷ []) true

-- ---- the list

-- All edges over some pairs: the last pair changes fastest; each is absent, then of weight 2, then of weight 4.
unfoldable pub patches_over : List Pair → List (List Edge)
patches_over [] = [] ∷ []
patches_over (p ∷ ps) =
    patches_over ps ++ map (λ es. edge_over p 2 ∷ es) (patches_over ps) ++ map (λ es. edge_over p 4 ∷ es) (patches_over ps)

-- the graph with number k; number 0 has no edge, and there is none past 728
unfoldable pub patch_at : ℕ → List Edge
patch_at k = get_or (patches_over pairs) k []

-- the graph is listed with number k: the one without edges is skipped, so that k is 1 to 728
pub record InList (k : ℕ) (es : List Edge) : Type 0 where
  pub first : 1 ≤ k
  pub last : k ≤ 728
  pub is : patch_at k ≡ es

-- the listed graphs: graph k stands at place k - 1
unfoldable pub patches : List (List Edge)
patches = drop 1 (patches_over pairs)

-- ---- when two lists of edges are one graph

-- an edge joins vertices a and b
abbrev pub joins : Edge → ℕ → ℕ → Bool
joins e a b = eqb e.left a && eqb e.right b || eqb e.left b && eqb e.right a

-- the weight of the first edge that joins them, 0 where none does
unfoldable pub weight_between : List Edge → ℕ → ℕ → ℕ
weight_between [] a b = 0
weight_between (e ∷ es) a b = if joins e a b then e.weight else weight_between es a b

-- the same weight between each two vertices, whatever the order of the edges
abbrev pub SameWeights : List Edge → List Edge → Type 0
SameWeights es fs = (a b : ℕ) → weight_between es a b ≡ weight_between fs a b

-- an edge between two of the four vertices, either way round, of weight 2 or of weight 4
unfoldable pub among_four : Edge → Bool
among_four e = ltb e.left 4 && ltb e.right 4 && not (eqb e.left e.right) && (eqb e.weight 2 || eqb e.weight 4)

-- a listed graph has the weights of these edges, and no other number has one that does
pub record ListedOnce (es : List Edge) : Type 0 where
  pub number : ℕ
  pub graph : List Edge
  pub listed : InList number graph
  pub same : SameWeights graph es
  pub only_one : (j : ℕ) (fs : List Edge) → InList j fs → SameWeights fs es → j ≡ number
