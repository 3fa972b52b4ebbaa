use Rattle.graph.specs.Layout.{state_of}
use native.Mathlib.Omega.{arith}
use Rattle.node_tests.specs.laws.Removed.{first-node, first-vertex-live, first-member-live}
use Rattle.node_tests.proofs.removed.first_live.Goals as goal

pub is_removed-requires : goal.is_removed-requires
is_removed-requires c =
    let b = c.args.b.now in (
      c.requires.0.laid,
      rw c.vertex_count-v.ensures.0
          (omega (
            arith,
            c.requires.2,
            first-node (state_of b) c.requires.1 c.args.n c.requires.2 _ c.class-x.ensures.0 c.requires.3
                (omega arith),
          )),
    )

pub returns-then-x-v : goal.returns-then-x-v
returns-then-x-v c =
    first-vertex-live (state_of c.args.b.now) c.requires.1 c.args.n c.requires.2 _ c.class-x.ensures.0
    c.requires.3 (omega arith)

pub returns-else-x-v : goal.returns-else-x-v
returns-else-x-v c =
    rw (c.is_removed.ensures, c.vertex_count-v.ensures.0)
    (first-member-live (state_of c.args.b.now) c.requires.1 c.args.n c.requires.2 _
    c.class-x.ensures.0 c.requires.3 (omega arith))
