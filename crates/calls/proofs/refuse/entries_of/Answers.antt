use native.Mathlib.Omega.{arith}
use Rattle.graph.specs.Sound.{entries_of}
use Rattle.calls.proofs.refuse.entries_of.Goals as goal

pub returns : goal.returns
unfolding entries_of
returns c = (rw (c.boundary_len.ensures.0, c.overgrown_len.ensures.0), omega arith)
