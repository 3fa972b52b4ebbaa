-- Sound states that no calls reach, on which a preparation for shrinking loses soundness, each in one of the ways for which the test has a
-- part: the test is not passed there. One edge of weight 2 from vertex 0 to vertex 1; node 0 is prepared.
use Rattle.std.specs.Prelude.{ℕ, ◌≡◌, refl, true, false, List, [], ◌∷◌}
use Rattle.graph.specs.State.{State, Overgrown, defect_vertex, down}
use Rattle.graph.specs.Open.{graph_of}
use Rattle.graph.specs.Sound.{state_sound}
use Rattle.pass.specs.Prepare.{prepare_node}
use Rattle.pass.specs.KeepsSound.{own_side, own_vertex, may_go, side_may_go, pass_own, passes_own, holds_lists, keeps_sound}
use Rattle.calls.specs.Opens.{everything}

-- two nodes: who holds the two vertices and the two sides, what each of the nodes lists, and what has grown
pub two_nodes : List ℕ → List ℕ → List ℕ → List (List ℕ) → List (List Overgrown) → State
two_nodes vertex_holder holder growth boundary overgrown = record {
  graph = graph_of 2 (record { left = 0; right = 1; weight = 2 } ∷ []) [];
  vertices = record { defect = 0 ∷ 0 ∷ []; vertex_holder = vertex_holder; vertex_grandson = 0 ∷ 0 ∷ [] };
  sides = record { growth = growth; holder = holder; grandson = 1 ∷ 1 ∷ [] };
  nodes = record {
    class = defect_vertex 0 ∷ defect_vertex 1 ∷ [];
    grow_state = 0 ∷ 0 ∷ [];
    parent = 0 ∷ 0 ∷ [];
    dual = 0 ∷ 0 ∷ [];
    boundary = boundary;
    overgrown = overgrown;
  };
  node_limit = 2;
  store_limit = 8;
  active = [];
}

-- node 0 has vertex 0 at the top of its stack, with amount 0, and node 1 holds and lists the side there
pub top_beside_another : State
top_beside_another = two_nodes (1 ∷ 0 ∷ []) (2 ∷ 0 ∷ []) (0 ∷ 0 ∷ []) ([] ∷ (0 ∷ []) ∷ []) ((record { vertex = 0; amount = 0 } ∷ []) ∷ [] ∷ [])

-- node 0 lists side 0, of growth 0, at vertex 0, which node 1 holds and has on its stack
pub side_at_another : State
side_at_another = two_nodes (2 ∷ 0 ∷ []) (1 ∷ 0 ∷ []) (0 ∷ 0 ∷ []) ((0 ∷ []) ∷ [] ∷ []) ([] ∷ (record { vertex = 0; amount = 1 } ∷ []) ∷ [])

-- node 0 has vertex 0 at the top of its stack, with amount 0, and does not hold the side across, which it then lists
pub side_across_free : State
side_across_free = two_nodes (1 ∷ 0 ∷ []) (0 ∷ 0 ∷ []) (0 ∷ 0 ∷ []) ([] ∷ [] ∷ []) ((record { vertex = 0; amount = 0 } ∷ []) ∷ [] ∷ [])

-- each is sound, the preparation leaves it unsound, and the test says so
pub soundness-lost : (state_sound top_beside_another ≡ true) × (state_sound (prepare_node top_beside_another 0 down).state ≡ false)
    × (keeps_sound top_beside_another 0 ≡ false)
unfolding everything top_beside_another two_nodes own_side own_vertex may_go side_may_go pass_own passes_own holds_lists keeps_sound
soundness-lost = (refl, refl, refl)

pub soundness-lost-by-a-side : (state_sound side_at_another ≡ true) × (state_sound (prepare_node side_at_another 0 down).state ≡ false)
    × (keeps_sound side_at_another 0 ≡ false)
unfolding everything side_at_another two_nodes own_side own_vertex may_go side_may_go pass_own passes_own holds_lists keeps_sound
soundness-lost-by-a-side = (refl, refl, refl)

-- here nothing of another node is freed, and only the end of the test tells it
pub soundness-lost-by-a-list : (state_sound side_across_free ≡ true) × (state_sound (prepare_node side_across_free 0 down).state ≡ false)
    × (pass_own side_across_free 0 ≡ true) × (keeps_sound side_across_free 0 ≡ false)
unfolding everything side_across_free two_nodes own_side own_vertex may_go side_may_go pass_own passes_own holds_lists keeps_sound
soundness-lost-by-a-list = (refl, refl, refl, refl)
