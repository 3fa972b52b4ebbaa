-- A state without removed nodes passes their test.
use Rattle.std.specs.Prelude.{ℕ, ◌-◌, ◌≡◌, true, false, eqb, length}
use Rattle.std.proofs.Math.Decide.{dec_lt}
use Rattle.std.proofs.Common.{arith}
use Rattle.std.proofs.Math.Path.{refl}
use Rattle.std.proofs.Math.ListN.{get_or-eq_default}
use borrow.Author.Tests.{not-true}
use Rattle.graph.specs.Basic.{all_below}
use Rattle.graph.specs.State.{State, Graph, NodeClass, defect_vertex, blossom, removed, vertex_count, side_count, node_count, holder_at, vertex_holder_at, class_of, parent_of}
use Rattle.graph.specs.Sound.{is_removed, live_or_none, first_live, node_live, sound_removed}
use Rattle.graph.specs.Open.{blank_state}
use Rattle.graph.specs.inner.Scans.{live}
use Rattle.graph.specs.laws.Members.{by-test, all-below-at, all-below-from}

module _ (c : State) (z : length c.nodes.class ≡ node_count c) (h : all_below (live c) (node_count c) ≡ true) where
  none_is : (n : ℕ) → is_removed (class_of c n) ≡ false
  unfolding live is_removed
  none_is n =
      elim (dec_lt n (node_count c)) [
        | yes b ↦ not-true _ (all-below-at (live c) (node_count c) n h b)
        | no b ↦ rw (get_or-eq_default c.nodes.class (defect_vertex 0) {n = n} (omega (arith, b, z)))
      ]

  none_or : (x : ℕ) → live_or_none c x ≡ true
  unfolding live_or_none
  none_or x = rw (none_is (x - 1)) (by-test (eqb x 0) (λ e. rw e) (λ e. rw e))

  none_first : (k : NodeClass) → first_live c k ≡ true
  unfolding first_live
  none_first (defect_vertex v) = refl
  none_first (blossom m) = rw (none_is m)
  none_first removed = refl

  none-node : (n : ℕ) → node_live c n ≡ true
  unfolding node_live
  none-node n = rw (none_is n, none_or (parent_of c n), none_first (class_of c n))

  pub none-removed : sound_removed c ≡ true
  unfolding sound_removed
  none-removed =
      rw (
        all-below-from (node_live c) (node_count c) (λ n b. none-node n),
        all-below-from (λ v. live_or_none c (vertex_holder_at c v)) (vertex_count c) (λ v b. none_or (vertex_holder_at c v)),
        all-below-from (λ s. live_or_none c (holder_at c s)) (side_count c) (λ s b. none_or (holder_at c s)),
      )

pub blank-removed : (g : Graph) (n l : ℕ) → sound_removed (blank_state g n l) ≡ true
unfolding blank_state all_below
blank-removed g n l = none-removed (blank_state g n l) refl refl
