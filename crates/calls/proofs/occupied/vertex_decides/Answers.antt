use Rattle.calls.specs.Occupied.{vertex_decides}
use Rattle.calls.proofs.occupied.vertex_decides.Goals as goal

pub returns : goal.returns
unfolding vertex_decides
returns c = rw (c.virtual_flag.ensures.0, c.defect_flag.ensures.0, c.holder.ensures.0)
