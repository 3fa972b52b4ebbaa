use Rattle.graph_tests.specs.inner.Walk.{placed_at}
use borrow.Author.Tests.{lt-ltb, le-ltb}
use Rattle.graph.specs.State.{side_count}
use Rattle.graph.specs.Layout.{state_of}
use native.Mathlib.Omega.{arith}
use Rattle.graph_tests.proofs.edges.placed_at.Goals as goal

pub returns-then-p-side_count : goal.returns-then-p-side_count
unfolding placed_at
returns-then-p-side_count c = let h = c.if-p-side_count.true in
    rw (
      lt-ltb c.args.p (side_count (state_of c.args.b.now))
          (omega (arith, h, c.side_count.ensures)),
      c.holds.ensures,
      c.requires.2.words c.args.p (omega (arith, h, c.side_count.ensures)),
    )

pub returns-else-p-side_count : goal.returns-else-p-side_count
unfolding placed_at
returns-else-p-side_count c = rw (le-ltb c.args.p (side_count (state_of c.args.b.now)) (omega (arith, c.if-p-side_count.false, c.side_count.ensures)))
