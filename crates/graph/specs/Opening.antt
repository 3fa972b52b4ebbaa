-- Opening a graph in a block: what the words that the host gives say, and every word of the opened block. Clearing a block.
use Rattle.std.specs.Prelude.{ℕ, ◌+◌, ◌*◌, ◌/◌, ◌%◌, ◌≡◌, Bool, ◌&&◌, List, [], ◌∷◌, ◌++◌, map, ℤ, pos, negsuc, eqb, length, get_or, set, replicate, if◌then◌else◌}
use Rattle.graph.specs.Basic.{below, sum_below}
use Rattle.graph.specs.Word.{to_nat}
use Rattle.graph.specs.State.{vertex_count, edge_count, side_count, node_count}
use Rattle.graph.specs.Open.{Edge, ends_of, sides_of, flag_in, cleared, open_refusal}
use Rattle.graph.specs.Layout.{block_length, scratch_length, rows_of, row, state_of}
use Rattle.graph.specs.Form.{Formed}
use Rattle.graph.specs.Rows.{header_row, flags_row, vertex_holder_row, vertex_grandson_row, first_row, end_row, growth_row, holder_row, grandson_row, at_row, class_row, grow_state_row, parent_row, dual_row, start_row, boundary_length_row, overgrown_length_row, store_row, active_row, original_row}

-- ---- what the host gives

-- the number at place i; a missing or a negative word reads as the greatest number, which is out of every range
unfoldable pub given_at : List ℤ → ℕ → ℕ
given_at words i = to_nat (get_or words i (negsuc 0))

-- edge i has three words: left, right, weight
unfoldable pub edge_at : List ℤ → ℕ → Edge
edge_at words i = record { left = given_at words (3 * i); right = given_at words (3 * i + 1); weight = given_at words (3 * i + 2) }

-- how many edges the words give; one that is not whole counts
abbrev pub edges_in : List ℤ → ℕ
edges_in words = (length words + 2) / 3

unfoldable pub edges_from : List ℤ → List Edge
edges_from words = map (edge_at words) (below (edges_in words))

-- a virtual vertex has one word
unfoldable pub virtuals_from : List ℤ → List ℕ
virtuals_from words = map to_nat words

-- block and scratch have exactly the lengths of the sizes
unfoldable pub fits : List ℤ → List ℤ → ℕ → ℕ → ℕ → ℕ → Bool
fits b t v e n l = eqb (length b) (block_length v e n l) && eqb (length t) (scratch_length v e)

-- ---- the opened block

-- lists one behind another: the library's flatten
unfoldable pub flattened : {A : Type 0} → List (List A) → List A
flattened [] = []
flattened (l ∷ ls) = l ++ flattened ls

abbrev pub zeros : ℕ → List ℕ
zeros n = replicate n 0

-- how many sides stand at the vertices below v
unfoldable pub first_of : List ℕ → ℕ → ℕ
first_of ends v = sum_below (λ u. length (sides_of ends u)) v

-- the arrays in the order of the layout
unfoldable pub opened_rows : ℕ → ℕ → ℕ → ℕ → List Edge → List ℕ → List (List ℕ)
opened_rows v e n l edges virtuals =
    (v ∷ e ∷ n ∷ l ∷ zeros 12)
    ∷ map (flag_in virtuals) (below v) ∷ zeros v ∷ zeros v ∷ map (first_of (ends_of edges)) (below v)
    ∷ ends_of edges ∷ zeros (2 * e) ∷ zeros (2 * e) ∷ zeros (2 * e) ∷ flattened (map (sides_of (ends_of edges)) (below v))
    ∷ map (λ (x : Edge). x.weight) edges
    ∷ zeros n ∷ zeros n ∷ zeros n ∷ zeros n ∷ zeros n ∷ zeros n ∷ zeros n
    ∷ zeros l ∷ zeros n ∷ map (λ (x : Edge). x.weight) edges ∷ []

unfoldable pub opened_words : ℕ → ℕ → ℕ → ℕ → List Edge → List ℕ → List ℕ
opened_words v e n l edges virtuals = flattened (opened_rows v e n l edges virtuals)

-- the block after a call: every word of it where the opening is accepted, and the block as it was where it is refused
unfoldable pub opened_block : ℕ → ℕ → ℕ → ℕ → List Edge → List ℕ → Bool → List ℤ → List ℤ
opened_block v e n l edges virtuals fit b = if eqb (open_refusal v e n l edges virtuals fit) 0 then map pos (opened_words v e n l edges virtuals) else b

-- what open promises: k is 0 or the refusal, and the block is the opened one or as it was
abbrev pub OpenCalled : (b t : List ℤ) (v e n l : ℕ) (edges virtuals b' : List ℤ) (k : ℕ) → Type 0
OpenCalled b t v e n l edges virtuals b' k =
    (k ≡ open_refusal v e n l (edges_from edges) (virtuals_from virtuals) (fits b t v e n l))
    × (b' ≡ opened_block v e n l (edges_from edges) (virtuals_from virtuals) (fits b t v e n l) b)

-- ---- the cleared block

-- of the arrays: no node; of the flags the virtual ones; nothing held and nothing grown; the original weights, and no change of them stands; all
-- else as it was
unfoldable pub cleared_rows : List (List ℕ) → List (List ℕ)
cleared_rows r =
    set (set (set (row r header_row) 4 0) 5 0) 6 0
    ∷ map (λ x. x % 2) (row r flags_row) ∷ zeros (length (row r vertex_holder_row)) ∷ zeros (length (row r vertex_grandson_row)) ∷ row r first_row
    ∷ row r end_row ∷ zeros (length (row r growth_row)) ∷ zeros (length (row r holder_row)) ∷ zeros (length (row r grandson_row)) ∷ row r at_row
    ∷ row r original_row
    ∷ row r class_row ∷ row r grow_state_row ∷ row r parent_row ∷ row r dual_row ∷ row r start_row ∷ row r boundary_length_row ∷ row r overgrown_length_row
    ∷ row r store_row ∷ row r active_row ∷ row r original_row ∷ []

-- after b₀, the block b is in form and holds the cleared state, in the rows of b₀ cleared
pub record Cleared (b₀ b : List ℤ) : Type 0 where
  pub formed : Formed b
  pub state : state_of b ≡ cleared (state_of b₀)
  pub rows : rows_of b ≡ cleared_rows (rows_of b₀)
  pub vertices : vertex_count (state_of b) ≡ vertex_count (state_of b₀)
  pub edges : edge_count (state_of b) ≡ edge_count (state_of b₀)
  pub sides : side_count (state_of b) ≡ side_count (state_of b₀)
  pub nodes : ◌≡◌ {A = ℕ} (node_count (state_of b)) 0
  pub len : length b ≡ length b₀

-- ---- the number of nodes
