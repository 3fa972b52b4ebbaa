use Rattle.graph.specs.Layout.{state_of}
use Rattle.graph.specs.laws.List.{side-below}
use Rattle.graph.proofs.lists.boundary_side.Goals as goal

pub returns : goal.returns
returns c = (
  c.boundary_word.ensures.0,
  rw c.boundary_word.ensures.0
      (side-below (state_of c.args.b.now) c.args.n c.args.i c.requires.3 c.requires.4),
)
