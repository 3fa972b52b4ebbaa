-- A block of 2 vertices and 1 edge, whose weight was changed from 6 to 4, with one defect node, and the state that it holds: computed, so that layout and tests are seen to mean what they say.
use Rattle.std.specs.Prelude.{◌≡◌, refl, true, false, List, [], ◌∷◌, map, ℤ, pos, negsuc, set}
use Rattle.graph.specs.Basic
use Rattle.graph.specs.State.{State, defect_vertex}
use Rattle.graph.specs.Open.{sizes_ok, sides_of}
use Rattle.graph.specs.Sound.{node_or_none, is_defect, stored_defect, edge_sound, vertex_sound, side_sound, class_sound, parent_sound, over_sound, own_lists, node_sound, entries_of, entries, active_sound, sound, is_removed, live_or_none, first_live, emptied, node_live, sound_removed, state_sound}
use Rattle.graph.specs.Word.{to_nat, word_at}
use Rattle.graph.specs.Rows.{rows}
use Rattle.graph.specs.Layout.{rows_of, class_from, stretches, overgrown_from, stack_from, boundaries, stacks, state_from, state_of, sized, rising_to, fits_at, packed_from, packed, block_sound}

-- the words, array by array
abbrev block : List ℤ
block =
    map pos
    (2 ∷ 1 ∷ 2 ∷ 4 ∷ 1 ∷ 1 ∷ 1 ∷ 0 ∷ 0 ∷ 0 ∷ 0 ∷ 0 ∷ 0 ∷ 0 ∷ 0 ∷ 0 ∷ 2 ∷ 1 ∷ 1 ∷ 0 ∷ 1 ∷ 0 ∷ 0 ∷ 1 ∷ 0 ∷ 1 ∷ 3 ∷ 0 ∷ 1
    ∷ 0 ∷ 1 ∷ 0 ∷ 0 ∷ 1 ∷ 4 ∷ 0 ∷ 0 ∷ 1 ∷ 0 ∷ 0 ∷ 0 ∷ 3 ∷ 0 ∷ 0 ∷ 0 ∷ 1 ∷ 0 ∷ 1 ∷ 0 ∷ 0 ∷ 2048 ∷ 7 ∷ 9 ∷ 0 ∷ 9 ∷ 6 ∷ [])

-- the state that they hold
abbrev state : State
state = record {
  graph = record { end = 0 ∷ 1 ∷ []; weight = 4 ∷ []; original = 6 ∷ []; reweighted = 1; at = (0 ∷ []) ∷ (1 ∷ []) ∷ []; virtual = 0 ∷ 1 ∷ [] };
  vertices = record { defect = 1 ∷ 0 ∷ []; vertex_holder = 1 ∷ 0 ∷ []; vertex_grandson = 1 ∷ 0 ∷ [] };
  sides = record { growth = 3 ∷ 0 ∷ []; holder = 1 ∷ 0 ∷ []; grandson = 1 ∷ 0 ∷ [] };
  nodes =
      record {
        class = defect_vertex 0 ∷ [];
        grow_state = 1 ∷ [];
        parent = 0 ∷ [];
        dual = 3 ∷ [];
        boundary = (0 ∷ []) ∷ [];
        overgrown = (record { vertex = 0; amount = 2 } ∷ []) ∷ [];
      };
  node_limit = 2;
  store_limit = 4;
  active = 0 ∷ [];
}

pub holds : state_of block ≡ state
unfolding state_of state_from rows_of rows word_at to_nat class_from stretches overgrown_from stack_from boundaries stacks
holds = refl

pub is-sized : sized block ≡ true
unfolding sized sizes_ok word_at to_nat
is-sized = refl

pub is-sound : block_sound block ≡ true
unfolding block_sound packed packed_from fits_at rising_to state_of state_from rows_of rows word_at to_nat class_from stretches
    overgrown_from stack_from boundaries stacks state_sound sound_removed node_live is_removed live_or_none first_live emptied sound
    active_sound entries entries_of node_sound own_lists over_sound parent_sound class_sound side_sound vertex_sound edge_sound
    stored_defect is_defect node_or_none sides_of Basic.fold Basic.all Basic.any Basic.only Basic.member Basic.below
    Basic.distinct Basic.same Basic.all_below Basic.sum_below
is-sound = refl

-- a negative growth is out of range
pub negative-growth : block_sound (set block 26 (negsuc 0)) ≡ false
unfolding block_sound packed packed_from fits_at rising_to state_of state_from rows_of rows word_at to_nat class_from stretches
    overgrown_from stack_from boundaries stacks state_sound sound_removed node_live is_removed live_or_none first_live emptied sound
    active_sound entries entries_of node_sound own_lists over_sound parent_sound class_sound side_sound vertex_sound edge_sound
    stored_defect is_defect node_or_none sides_of Basic.fold Basic.all Basic.any Basic.only Basic.member Basic.below
    Basic.distinct Basic.same Basic.all_below Basic.sum_below
negative-growth = refl

-- a side twice in the boundary of an outermost node
pub side-twice : block_sound (set (set (set block 45 (pos 2)) 47 (pos 0)) 50 (pos 0)) ≡ false
unfolding block_sound packed packed_from fits_at rising_to state_of state_from rows_of rows word_at to_nat class_from stretches
    overgrown_from stack_from boundaries stacks state_sound sound_removed node_live is_removed live_or_none first_live emptied sound
    active_sound entries entries_of node_sound own_lists over_sound parent_sound class_sound side_sound vertex_sound edge_sound
    stored_defect is_defect node_or_none sides_of Basic.fold Basic.all Basic.any Basic.only Basic.member Basic.below
    Basic.distinct Basic.same Basic.all_below Basic.sum_below
side-twice = refl

-- the node removed, and still holding
pub removed-holds : block_sound (set block 35 (pos 1026)) ≡ false
unfolding block_sound packed packed_from fits_at rising_to state_of state_from rows_of rows word_at to_nat class_from stretches
    overgrown_from stack_from boundaries stacks state_sound sound_removed node_live is_removed live_or_none first_live emptied sound
    active_sound entries entries_of node_sound own_lists over_sound parent_sound class_sound side_sound vertex_sound edge_sound
    stored_defect is_defect node_or_none sides_of Basic.fold Basic.all Basic.any Basic.only Basic.member Basic.below
    Basic.distinct Basic.same Basic.all_below Basic.sum_below
removed-holds = refl
