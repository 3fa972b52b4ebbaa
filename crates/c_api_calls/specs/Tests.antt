-- How often memory is tested while a list of calls is made: before the first, and where it is not certain that a call kept the block sound.
use Rattle.std.specs.Prelude.{ℕ, ◌+◌, Bool, true, List, [], ◌∷◌, map, ℤ, eqb, if◌then◌else◌}
use Rattle.graph.specs.State.{State}
use Rattle.graph.specs.Sound.{state_sound}
use Rattle.graph.specs.Word.{to_nat}
use Rattle.graph.specs.Layout.{state_of, memory_refusal}
use Rattle.calls.specs.Insert.{insert_defect, insert_blossom}
use Rattle.calls.specs.Each.{set_grow_state, prepare_dual_node_growth, max_update_length, grow_dual_node, advance, clear}
use Rattle.calls.specs.Keeps.{prepare_keeps, length_keeps, grow_keeps, advance_keeps, blossom_keeps}
use Rattle.c_api_calls.specs.ListCall.{ListCall, list_defect, list_blossom, list_state, list_prepare, list_length, list_grow, list_advance, list_clear, list_vertex, list_node, list_gap, list_other}

-- whether a call certainly keeps a sound state sound
unfoldable pub keeps : State → ListCall → Bool
keeps c (list_defect v x) = true
keeps c (list_blossom x circle) = blossom_keeps c x (map to_nat circle)
keeps c (list_state n x) = true
keeps c (list_prepare n d) = prepare_keeps c n d
keeps c (list_length n d first) = length_keeps c n d first
keeps c (list_grow n l) = grow_keeps c n l
keeps c (list_advance n) = advance_keeps c n
keeps c list_clear = true
keeps c (list_vertex n) = true
keeps c (list_node n) = true
keeps c (list_gap e) = true
keeps c list_other = true

-- the state that it leaves
unfoldable pub leaves : State → ListCall → State
leaves c (list_defect v x) = (insert_defect c v x).state
leaves c (list_blossom x circle) = (insert_blossom c x (map to_nat circle)).state
leaves c (list_state n x) = (set_grow_state c n x).state
leaves c (list_prepare n d) = (prepare_dual_node_growth c n d).state
leaves c (list_length n d first) = (max_update_length c n d first).state
leaves c (list_grow n l) = (grow_dual_node c n l).state
leaves c (list_advance n) = (advance c n).state
leaves c list_clear = (clear c).state
leaves c (list_vertex n) = c
leaves c (list_node n) = c
leaves c (list_gap e) = c
leaves c list_other = c

-- tests from state c on, of which `known` says whether it is known to be sound; behind a test that fails every call is refused without one
unfoldable pub tests_from : Bool → State → List ListCall → ℕ
tests_from known c [] = 0
tests_from known c (k ∷ ks) =
    if known then tests_from (keeps c k) (leaves c k) ks
    else 1 + (if state_sound c then tests_from (keeps c k) (leaves c k) ks else 0)

-- on block b with scratch t: memory is tested before the first call
unfoldable pub tests_in : List ℤ → List ℤ → List ListCall → ℕ
tests_in b t [] = 0
tests_in b t (k ∷ ks) = 1 + (if eqb (memory_refusal b t) 0 then tests_from (keeps (state_of b) k) (leaves (state_of b) k) ks else 0)
