-- A list of calls in words (SPECIFICATION 25): four words a call, its kind and three more.
use Rattle.std.specs.Prelude.{ℕ, ◌+◌, ◌*◌, Bool, List, map, ℤ, pos, eqb, leb, length, take, drop, get_or, if◌then◌else◌}
use Rattle.graph.specs.Basic.{below}
use Rattle.graph.specs.Word.{word_at}

-- a call of a list
pub data ListCall : Type 0 where
  list_defect : ℕ → ℕ → ListCall  -- vertex, state
  list_blossom : ℕ → List ℤ → ListCall  -- state, circle
  list_state : ℕ → ℕ → ListCall  -- node, state
  list_prepare : ℕ → ℕ → ListCall  -- node, direction
  list_length : ℕ → ℕ → Bool → ListCall  -- node, direction, preparing first
  list_grow : ℕ → ℤ → ListCall  -- node, length
  list_advance : ℕ → ListCall  -- node
  list_clear : ListCall
  list_vertex : ℕ → ListCall  -- node: its representative vertex
  list_node : ℕ → ListCall  -- node: what is stored of it
  list_gap : ℕ → ListCall  -- edge
  list_other : ListCall  -- no call

-- a circle of z nodes that stand from place y on among those that are lent
unfoldable pub circle_call : List ℤ → ℕ → ℕ → ℕ → ListCall
circle_call circles x y z = if leb (y + z) (length circles) then list_blossom x (take z (drop y circles)) else list_other

-- preparing first is 1 or 0
unfoldable pub length_call : ℕ → ℕ → ℕ → ListCall
length_call x y z = if leb z 1 then list_length x y (eqb z 1) else list_other

-- the call of four words: kinds are those of records (SPECIFICATION 10.2), and 14 to 16 for what is read
unfoldable pub list_call_of : List ℤ → List ℤ → ListCall
list_call_of circles w =
    if eqb (word_at w 0) 4 then list_defect (word_at w 1) (word_at w 2)
    else if eqb (word_at w 0) 5 then circle_call circles (word_at w 1) (word_at w 2) (word_at w 3)
    else if eqb (word_at w 0) 6 then list_state (word_at w 1) (word_at w 2)
    else if eqb (word_at w 0) 7 then list_prepare (word_at w 1) (word_at w 2)
    else if eqb (word_at w 0) 8 then length_call (word_at w 1) (word_at w 2) (word_at w 3)
    else if eqb (word_at w 0) 9 then list_grow (word_at w 1) (get_or w 2 (pos 0))
    else if eqb (word_at w 0) 11 then list_advance (word_at w 1)
    else if eqb (word_at w 0) 13 then list_clear
    else if eqb (word_at w 0) 14 then list_vertex (word_at w 1)
    else if eqb (word_at w 0) 15 then list_node (word_at w 1)
    else if eqb (word_at w 0) 16 then list_gap (word_at w 1)
    else list_other

-- call number i of the words
unfoldable pub list_call_at : List ℤ → List ℤ → ℕ → ListCall
list_call_at circles words i = list_call_of circles (take 4 (drop (4 * i) words))

-- the first n calls
unfoldable pub list_calls : List ℤ → List ℤ → ℕ → List ListCall
list_calls circles words n = map (list_call_at circles words) (below n)
