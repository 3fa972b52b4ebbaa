use Rattle.node_tests.specs.laws.Marks.{own-lists-both}
use Rattle.graph.specs.Layout.{state_of}
use borrow.Author.Rules.{rules}
use Rattle.node_tests.proofs.own_lists.own_lists.Goals as goal

pub returns : goal.returns
returns c = let x = c.boundary_own-x in
    let y = c.overgrown_own-y in (
      rw (x.ensures.0, y.ensures.0) (own-lists-both (state_of c.args.b.now) c.args.n),
      record { sides-room = search rules; vertices-room = search rules; sides-left = x.ensures.1; vertices-left = y.ensures.1 },
    )
