use native.Mathlib.Omega.{arith}
use Rattle.graph.specs.laws.Field.{virtual-read}
use Rattle.graph.proofs.vertex.virtual_flag.Goals as goal

pub returns : goal.returns
returns c = (rw c.vertex_word.ensures.0 (virtual-read c.args.b.now c.args.v), omega arith)
