use native.Mathlib.Omega.{arith}
use Rattle.graph.specs.Form.{Laid}
use Rattle.store.specs.laws.Clear.{recounted}
use Rattle.store.proofs.clear.put_node_count.Goals as goal

pub put-requires : goal.put-requires
unfolding Laid
put-requires c = omega arith

pub returns : goal.returns
returns c = rw c.put.ensures (recounted c.args.b.now c.args.x c.requires.0 c.requires.1)
