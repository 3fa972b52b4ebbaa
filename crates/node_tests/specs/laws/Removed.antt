-- Laws behind the test of removed blossoms.
use Rattle.std.specs.Prelude.{ℕ, ◌+◌, ◌-◌, ◌≤◌, ◌<◌, ◌≡◌, true, false, not, eqb, leb, ltb}
use Rattle.std.proofs.Common.{arith, sym, ◌∙◌}
use borrow.Author.Tests.{eqb-true, ltb-true, leb-true}
use Rattle.graph.specs.State.{State, blossom, vertex_count, node_count, class_of, parent_of}
use Rattle.graph.specs.Sound.{sound, class_sound, parent_sound, node_or_none, is_removed, first_live}
use Rattle.graph.specs.Layout.{class_from}
use Rattle.graph.specs.laws.Class.{class-defect, class-first}
use Rattle.graph.specs.laws.State.{and_right}
use Rattle.graph.specs.laws.Members.{or_cases}
use Rattle.graph.specs.laws.Shape.{sound-node, node-facts}

-- the numbers that the test reads are those of nodes
module _ (c : State) (h : sound c ≡ true) (n : ℕ) (b : n < node_count c) where
  pub parent-node : parent_of c n ≤ node_count c
  unfolding parent_sound node_or_none
  parent-node =
      or_cases (eqb (parent_of c n) 0) _ (node-facts c n (sound-node c h n b)).parent
      (λ e. let z : parent_of c n ≡ 0 = eqb-true _ _ e in omega (arith, z))
      (λ e. leb-true _ _ (and_right (ltb (n + 1) (parent_of c n)) (leb (parent_of c n) (node_count c)) e))

  module _ (x : ℕ) (e : class_from (vertex_count c) x ≡ class_of c n) (r : is_removed (class_of c n) ≡ false) where
    first-is : vertex_count c ≤ x → class_of c n ≡ blossom (x - vertex_count c)
    first-is k = sym e ∙ class-first (vertex_count c) x k (rw (← e) at r)

    pub first-node : vertex_count c ≤ x → x - vertex_count c < n
    unfolding class_sound
    first-node k = ltb-true _ n (rw (first-is k) at (node-facts c n (sound-node c h n b)).class)

    pub first-vertex-live : x < vertex_count c → true ≡ first_live c (class_of c n)
    unfolding first_live
    first-vertex-live k = rw (sym e ∙ class-defect (vertex_count c) x k)

    pub first-member-live : vertex_count c ≤ x → not (is_removed (class_of c (x - vertex_count c))) ≡ first_live c (class_of c n)
    unfolding first_live
    first-member-live k = rw (first-is k)
