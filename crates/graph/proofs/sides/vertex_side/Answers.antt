use Rattle.graph.specs.laws.SidesAt.{rising-of, vertex-side-below}
use Rattle.graph.proofs.sides.vertex_side.Goals as goal

pub stretch_side-requires : goal.stretch_side-requires
stretch_side-requires c = (c.requires.0.laid, rising-of c.args.b.now c.requires.0.wired, c.requires.1, c.requires.2)

pub returns : goal.returns
returns c = (
  c.stretch_side.ensures.0,
  rw c.stretch_side.ensures.0
      (vertex-side-below c.args.b.now c.args.v c.args.i c.requires.0.wired c.requires.2),
)
