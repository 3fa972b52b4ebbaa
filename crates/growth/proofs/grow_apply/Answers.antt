use Rattle.growth.proofs.laws.Moving.{sides-after, node-then-sides}
use Rattle.graph.specs.Layout.{state_of}
use Rattle.growth.proofs.grow_apply.Goals as goal

pub move_sides-requires : goal.move_sides-requires
move_sides-requires c =
    let p = c.move_node.ensures in (
      p.formed,
      rw p.nodes c.requires.1,
      rw p.state (sides-after (state_of c.args.b.now) c.args.n c.args.d c.args.l c.requires.2.each),
    )

pub returns : goal.returns
returns c =
    node-then-sides c.args.b.now _ _ c.args.n c.args.d c.args.l
    c.move_node.ensures c.move_sides.ensures
