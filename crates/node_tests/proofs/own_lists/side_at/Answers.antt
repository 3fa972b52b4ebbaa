use Rattle.graph.specs.laws.SidesAt.{laid-sides}
use Rattle.graph.specs.State.{side_count, boundary_of}
use Rattle.graph.specs.Layout.{state_of}
use borrow.Author.Tests.{ltb-true}
use lib.ListN.{get_or}
use mathlib.Core.Path.{◌∙◌}
use native.Mathlib.Omega.{arith}
use Rattle.node_tests.proofs.own_lists.side_at.Goals as goal

pub number-requires : goal.number-requires
number-requires c = let b = c.args.b.now in
    let p = c.side_place in
    let h = ltb-true (get_or (boundary_of (state_of b) c.args.n) c.args.i 0) (side_count (state_of b)) c.requires.6 in (
      omega (arith, c.requires.4.size, p.ensures.1),
      rw (c.requires.4.words p.result p.ensures.1 ∙ p.ensures.0) (omega (arith, h, laid-sides b c.requires.0)),
    )

pub returns : goal.returns
returns c = let b = c.args.b.now in
    let p = c.side_place in
    let h = ltb-true (get_or (boundary_of (state_of b) c.args.n) c.args.i 0) (side_count (state_of b)) c.requires.6 in
    let e = c.number.ensures ∙ c.requires.4.words p.result p.ensures.1 ∙ p.ensures.0 in
    (e, rw e h)
