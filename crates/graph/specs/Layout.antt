-- Where the parts of a block stand, and the state that a block holds.
-- A block is a row of arrays (docs/LAYOUT.md): the header of 16 words (V, E, N, L, the number of nodes, the length of the active list,
-- whether a change of weights stands, the rest free); over vertices
-- flags, holder, grandson and first; over sides end, growth, holder, grandson and at; over edges weight; over nodes class, grow state,
-- parent, dual variable, start, boundary length and overgrown length; the list store; the active list; over edges the original weight.
use Rattle.std.specs.Prelude.{ℕ, ◌+◌, ◌-◌, ◌*◌, ◌/◌, ◌%◌, min, Bool, true, ◌&&◌, List, [], ◌∷◌, map, reverse, ℤ, ltb, leb, eqb, length, get_or, take, drop, if◌then◌else◌}
use Rattle.graph.specs.State.{State, Overgrown, NodeClass, vertex_count, edge_count, defect_vertex, blossom, removed, removed_place}
use Rattle.graph.specs.Open.{sizes_ok}
use Rattle.graph.specs.Sound.{state_sound}
use Rattle.graph.specs.Word.{to_nat, word_at}
use Rattle.graph.specs.Rows.{rows, header_row, flags_row, vertex_holder_row, vertex_grandson_row, first_row, end_row, growth_row, holder_row, grandson_row, at_row, weight_row, class_row, grow_state_row, parent_row, dual_row, start_row, boundary_length_row, overgrown_length_row, store_row, active_row, original_row}

-- ---- sizes, as the header has them

abbrev pub v_of : List ℤ → ℕ
v_of b = word_at b 0

abbrev pub e_of : List ℤ → ℕ
e_of b = word_at b 1

abbrev pub n_of : List ℤ → ℕ
n_of b = word_at b 2

abbrev pub l_of : List ℤ → ℕ
l_of b = word_at b 3

abbrev pub count_of : List ℤ → ℕ
count_of b = word_at b 4

abbrev pub active_count_of : List ℤ → ℕ
active_count_of b = word_at b 5

-- the words of each array
abbrev pub sizes : ℕ → ℕ → ℕ → ℕ → List ℕ
sizes v e n l = 16 ∷ v ∷ v ∷ v ∷ v ∷ 2 * e ∷ 2 * e ∷ 2 * e ∷ 2 * e ∷ 2 * e ∷ e ∷ n ∷ n ∷ n ∷ n ∷ n ∷ n ∷ n ∷ l ∷ n ∷ e ∷ []

-- the words of a block, and of a scratch: 2 E boundary entries, 2 E marks, and an entry for each vertex that is noted
abbrev pub block_length : ℕ → ℕ → ℕ → ℕ → ℕ
block_length v e n l = 16 + 4 * v + 12 * e + 8 * n + l

abbrev pub scratch_length : ℕ → ℕ → ℕ
scratch_length v e = 4 * e + min v (2 * e)

-- the words of the scratch that a block of state c is lent
abbrev pub scratch_size : State → ℕ
scratch_size c = scratch_length (vertex_count c) (edge_count c)

abbrev pub sizes_of : List ℤ → List ℕ
sizes_of b = sizes (v_of b) (e_of b) (n_of b) (l_of b)

-- the arrays of a block, as numbers
unfoldable pub rows_of : List ℤ → List (List ℕ)
rows_of b = rows (sizes_of b) (map to_nat b)

abbrev pub row : List (List ℕ) → ℕ → List ℕ
row r k = get_or r k []

-- ---- the state

-- a class word: a defect's vertex, V + the first member of a blossom, or V + 1024 for a removed one
unfoldable pub class_from : ℕ → ℕ → NodeClass
class_from v x = if ltb x v then defect_vertex x else if eqb x (v + removed_place) then removed else blossom (x - v)

-- the stretches of a list that begin at the given places, each up to the next: the sides at vertex v stand from first(v) to first(v + 1)
unfoldable pub stretches : List ℕ → List ℕ → List (List ℕ)
stretches [] l = []
stretches (f ∷ fs) l = take (get_or fs 0 (length l) - f) (drop f l) ∷ stretches fs l

-- an overgrown entry is one word, amount * 1024 + vertex
unfoldable pub overgrown_from : ℕ → Overgrown
overgrown_from x = record { vertex = x % 1024; amount = x / 1024 }

-- the stack that stands in a list, its top last there
unfoldable pub stack_from : List ℕ → List Overgrown
stack_from l = map overgrown_from (reverse l)

-- the lists of the nodes stand in the store without gaps, of each node the boundary and then the stack: from their lengths and the store
unfoldable pub boundaries : List ℕ → List ℕ → List ℕ → List (List ℕ)
boundaries [] os l = []
boundaries (b ∷ bs) [] l = []
boundaries (b ∷ bs) (o ∷ os) l = take b l ∷ boundaries bs os (drop (b + o) l)

unfoldable pub stacks : List ℕ → List ℕ → List ℕ → List (List Overgrown)
stacks [] os l = []
stacks (b ∷ bs) [] l = []
stacks (b ∷ bs) (o ∷ os) l = stack_from (take o (drop b l)) ∷ stacks bs os (drop (b + o) l)

-- the state of the arrays; flags are virtual + 2 * defect; of the arrays over nodes only the first `count` words count
unfoldable pub state_from : List (List ℕ) → State
state_from r =
    let count = get_or (row r header_row) 4 0 in
    record {
      graph =
          record {
            end = row r end_row;
            weight = row r weight_row;
            original = row r original_row;
            reweighted = get_or (row r header_row) 6 0;
            at = stretches (row r first_row) (row r at_row);
            virtual = map (λ x. x % 2) (row r flags_row);
          };
      vertices = record { defect = map (λ x. x / 2) (row r flags_row); vertex_holder = row r vertex_holder_row; vertex_grandson = row r vertex_grandson_row };
      sides = record { growth = row r growth_row; holder = row r holder_row; grandson = row r grandson_row };
      nodes = record {
        class = map (class_from (get_or (row r header_row) 0 0)) (take count (row r class_row));
        grow_state = take count (row r grow_state_row);
        parent = take count (row r parent_row);
        dual = take count (row r dual_row);
        boundary = boundaries (take count (row r boundary_length_row)) (take count (row r overgrown_length_row)) (row r store_row);
        overgrown = stacks (take count (row r boundary_length_row)) (take count (row r overgrown_length_row)) (row r store_row);
      };
      node_limit = get_or (row r header_row) 2 0;
      store_limit = get_or (row r header_row) 3 0;
      active = take (get_or (row r header_row) 5 0) (row r active_row);
    }

unfoldable pub state_of : List ℤ → State
state_of b = state_from (rows_of b)

-- ---- refusals 1 and 2 of a block

-- 1 unless: the sizes are in range and the block has their length
unfoldable pub sized : List ℤ → Bool
sized b = leb 16 (length b) && sizes_ok (v_of b) (e_of b) (n_of b) (l_of b) && eqb (length b) (block_length (v_of b) (e_of b) (n_of b) (l_of b))

-- from place to place no fall, and none above m
unfoldable pub rising_to : List ℕ → ℕ → Bool
rising_to [] m = true
rising_to (f ∷ fs) m = leb f (get_or fs 0 m) && rising_to fs m

-- lists that start at s and have k and o entries: they start at a and end within l
unfoldable pub fits_at : ℕ → ℕ → ℕ → ℕ → ℕ → Bool
fits_at a l s k o = eqb s a && leb k l && leb o l && leb (a + k + o) l

-- every node's lists start where those before it end, and end within l
unfoldable pub packed_from : ℕ → ℕ → List ℕ → List ℕ → List ℕ → Bool
packed_from l a [] bs os = true
packed_from l a (s ∷ ss) [] os = true
packed_from l a (s ∷ ss) (b ∷ bs) [] = true
packed_from l a (s ∷ ss) (b ∷ bs) (o ∷ os) = fits_at a l s b o && packed_from l (a + b + o) ss bs os

-- the starts and lengths of the nodes' lists fit the store
unfoldable pub packed : List ℤ → Bool
packed b =
    packed_from (l_of b) 0 (take (count_of b) (row (rows_of b) start_row))
    (take (count_of b) (row (rows_of b) boundary_length_row)) (take (count_of b) (row (rows_of b) overgrown_length_row))

-- 2 unless: no more nodes and active nodes than N, the stretches of the lists in order, and the state that they give sound
unfoldable pub block_sound : List ℤ → Bool
block_sound b =
    leb (count_of b) (n_of b) && leb (active_count_of b) (n_of b) && packed b && rising_to (row (rows_of b) first_row) (2 * e_of b)
    && state_sound (state_of b)

-- ---- what every call but open asks of lent memory

-- block and scratch have their exact lengths, and the sizes are in range
unfoldable pub memory_fits : List ℤ → List ℤ → Bool
memory_fits b t = sized b && eqb (length t) (scratch_length (v_of b) (e_of b))

-- 0, or the refusal of the block b, where `fits` says that the lengths are right
unfoldable pub block_refusal : Bool → List ℤ → ℕ
block_refusal fits b = if fits then (if block_sound b then 0 else 2) else 1

-- 0, or the refusal
unfoldable pub memory_refusal : List ℤ → List ℤ → ℕ
memory_refusal b t = block_refusal (memory_fits b t) b

-- the same where a list of m words is lent too, which must be k for each edge
unfoldable pub list_refusal : List ℤ → List ℤ → ℕ → ℕ → ℕ
list_refusal b t m k = block_refusal (memory_fits b t && eqb m (k * e_of b)) b
