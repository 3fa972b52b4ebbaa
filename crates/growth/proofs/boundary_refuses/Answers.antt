use Rattle.graph.specs.inner.Form.{sides_ok}
use Rattle.growth.proofs.boundary_refuses.Goals as goal

pub some_side_refuses-requires : goal.some_side_refuses-requires
unfolding sides_ok
some_side_refuses-requires c = let p = c.requires in (p.0, p.1, p.2, p.3, rw c.boundary-boundary.ensures p.4)

pub returns : goal.returns
returns c = rw c.boundary-boundary.ensures at c.some_side_refuses.ensures
