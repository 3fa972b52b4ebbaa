-- On blocks that calls reach no call loses soundness, so that memory is tested once.
use Rattle.std.specs.Prelude.{ℕ, ◌+◌, ◌≤◌, ◌≡◌, true, List, [], ◌∷◌, ◌++◌, map, ℤ, eqb}
use Rattle.std.proofs.Common.{arith, sym, ap, ◌∙◌}
use Rattle.std.proofs.Math.Path.{refl}
use Rattle.graph.specs.State.{State}
use Rattle.graph.specs.Word.{to_nat}
use Rattle.graph.specs.Layout.{state_of, memory_refusal}
use Rattle.graph.specs.laws.State.{if-both}
use Rattle.reachable.specs.Reachable.{after, Reachable}
use Rattle.table_theorem.proofs.laws.Append.{after-append}
use Rattle.soundness_theorem.specs.Theorems.{reached-prepare, reached-length, reached-grow, reached-advance, reached-blossom}
use Rattle.c_api_calls.specs.ListCall.{ListCall, list_defect, list_blossom, list_state, list_prepare, list_length, list_grow, list_advance, list_clear, list_vertex, list_node, list_gap, list_other}
use Rattle.c_api_calls.specs.Tests.{keeps, leaves, tests_from, tests_in}
use Rattle.c_api_calls.specs.laws.Leaves.{as_calls, leaves_after}

module _ (c : State) (r : Reachable c) where
  reached-leaves : (k : ListCall) → Reachable (leaves c k)
  reached-leaves k = record {
    vertices = r.vertices;
    edge_number = r.edge_number;
    nodes = r.nodes;
    store = r.store;
    edges = r.edges;
    virtuals = r.virtuals;
    fits = r.fits;
    accepted-opening = r.accepted-opening;
    calls = r.calls ++ as_calls k;
    is = leaves_after c k ∙ ap (λ (x : State). after x (as_calls k)) r.is ∙ sym (after-append _ r.calls (as_calls k));
  }

  reached-keeps : (k : ListCall) → keeps c k ≡ true
  unfolding keeps
  reached-keeps (list_defect v x) = refl
  reached-keeps (list_blossom x circle) = reached-blossom c r x (map to_nat circle)
  reached-keeps (list_state n x) = refl
  reached-keeps (list_prepare n d) = reached-prepare c r n d
  reached-keeps (list_length n d first) = reached-length c r n d first
  reached-keeps (list_grow n l) = reached-grow c r n l
  reached-keeps (list_advance n) = reached-advance c r n
  reached-keeps list_clear = refl
  reached-keeps (list_vertex n) = refl
  reached-keeps (list_node n) = refl
  reached-keeps (list_gap x) = refl
  reached-keeps list_other = refl

-- no test where the block is known to be sound
pub no-more-tests : (c : State) → Reachable c → (ks : List ListCall) → tests_from true c ks ≡ 0
unfolding tests_from
no-more-tests c r [] = refl
no-more-tests c r (k ∷ ks) = rw (reached-keeps c r k) (no-more-tests (leaves c k) (reached-leaves c r k) ks)

pub one-test-made : (b t : List ℤ) → Reachable (state_of b) → (ks : List ListCall) → tests_in b t ks ≤ 1
unfolding tests_in
one-test-made b t r [] = omega arith
one-test-made b t r (k ∷ ks) =
    let n : tests_from (keeps (state_of b) k) (leaves (state_of b) k) ks ≡ 0 =
    rw (reached-keeps (state_of b) r k) (no-more-tests (leaves (state_of b) k) (reached-leaves (state_of b) r k) ks) in
    let z = if-both (λ x. x ≡ 0) (eqb (memory_refusal b t) 0) n refl in
    omega (arith, z)
