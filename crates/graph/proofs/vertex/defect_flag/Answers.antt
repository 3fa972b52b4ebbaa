use native.Mathlib.Omega.{arith}
use Rattle.graph.specs.laws.Field.{defect-read}
use Rattle.graph.proofs.vertex.defect_flag.Goals as goal

pub returns : goal.returns
returns c = (rw c.vertex_word.ensures.0 (defect-read c.args.b.now c.args.v), omega arith)
