-- The calls on one node, reading, and clear.
use Rattle.std.specs.Prelude.{ℕ, zero, suc, Bool, true, false, ◌&&◌, List, [], ◌∷◌, ℤ, pos, negsuc, neg_ℤ, ◌==◌, nat_eq, nat_lt, if◌then◌else◌}
use Rattle.graph.specs.State.{State, defect_vertex, blossom, removed, class_of, grow_state_of, with_grow_state, stay, growing, shrinking, down, up}
use Rattle.graph.specs.Open.{cleared}
use Rattle.graph.specs.Active.{activated}
use Rattle.answers.specs.Outcome.{Answer}
use Rattle.answers.specs.Outcome.{Done, Prepared, Refused, Vertex}
use Rattle.answers.specs.Answer.{Reply, says, free_or}
use Rattle.calls.specs.Refuse.{bad_node, node_refusal, store_short, unless}
use Rattle.pass.specs.Prepare.{prepare_node}
use Rattle.update_length.specs.Scan.{scan}
use Rattle.growth.specs.Growth.{grow_check, grow_apply}

-- ---- set state

unfoldable pub set_grow_state : State → ℕ → ℕ → Reply
set_grow_state c n x = unless (node_refusal c n (nat_lt shrinking x) false) c (record { answer = Done; state = with_grow_state (activated c n x) n x })

-- ---- prepare

unfoldable pub prepare_dual_node_growth : State → ℕ → ℕ → Reply
prepare_dual_node_growth c n d =
    unless (node_refusal c n (nat_lt up d) (store_short c (n ∷ []) 1)) c
    (record { answer = Prepared (prepare_node c n d).passes; state = (prepare_node c n d).state })

-- ---- length

-- the state on which a length is scanned: prepared first, or as it is
unfoldable pub readied : State → ℕ → ℕ → Bool → State
readied c n d first = if first then (prepare_node c n d).state else c

unfoldable pub max_update_length : State → ℕ → ℕ → Bool → Reply
max_update_length c n d first =
    unless (node_refusal c n (nat_lt up d) (first && store_short c (n ∷ []) 1)) c (record { answer = scan (readied c n d first) n d; state = readied c n d first })

-- ---- growth

-- a prepared node grows by l, or is refused
unfoldable pub grow_prepared : State → ℕ → ℕ → ℕ → Reply
grow_prepared c n d l = unless (grow_check c n d l) c (record { answer = Done; state = grow_apply c n d l })

-- a node is prepared and grows by l above 0, in direction d
unfoldable pub grow_toward : State → ℕ → ℕ → ℕ → Reply
grow_toward c n d l = unless (node_refusal c n false (store_short c (n ∷ []) 1)) c (grow_prepared (prepare_node c n d).state n d l)

unfoldable pub grow_dual_node : State → ℕ → ℤ → Reply
grow_dual_node c n (pos zero) = unless (node_refusal c n false false) c (says Done c)
grow_dual_node c n (pos (suc l)) = grow_toward c n up (suc l)
grow_dual_node c n (negsuc l) = grow_toward c n down (suc l)

-- ---- advance

-- the length that a node of state x grows by on a free answer
unfoldable pub signed_for : ℕ → ℤ → ℤ
signed_for x l = if x == growing then l else neg_ℤ l

-- growth by a free answer's limit; any other answer is handed back
unfoldable pub follow : State → ℕ → ℕ → Answer → Reply
follow c n x a = free_or (says a c) (λ l e. grow_dual_node c n (signed_for x l)) (λ e. says a c) a

-- by the length answer of a node that is not Stay
unfoldable pub advance_by : ℕ → ℕ → Reply → Reply
advance_by n x r = follow r.state n x r.answer

unfoldable pub toward : ℕ → ℕ
toward x = if x == growing then up else down

unfoldable pub advance : State → ℕ → Reply
advance c n =
    unless (node_refusal c n false false) c
    (if nat_eq (grow_state_of c n) stay then says Done c else advance_by n (grow_state_of c n) (max_update_length c n (toward (grow_state_of c n)) true))

-- ---- reading

-- the growth of every side
unfoldable pub growth_table : State → List ℕ
growth_table c = c.sides.growth

-- down the first members from node n, at most `fuel` nodes
unfoldable pub representative_by : ℕ → State → ℕ → ℕ
representative_by zero c n = 0
representative_by (suc fuel) c n = elim (class_of c n) [ defect_vertex v ↦ v | blossom m ↦ representative_by fuel c m | removed ↦ 0 ]

-- a member is numbered below its blossom, so n + 1 nodes are enough from node n
unfoldable pub representative_vertex_of : State → ℕ → ℕ
representative_vertex_of c n = representative_by (suc n) c n

unfoldable pub representative_vertex : State → ℕ → Reply
representative_vertex c n = says (if bad_node c n then Refused 3 else Vertex (representative_vertex_of c n)) c

-- ---- clear

unfoldable pub clear : State → Reply
clear c = record { answer = Done; state = cleared c }
