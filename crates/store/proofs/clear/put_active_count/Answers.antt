use native.Mathlib.Omega.{arith}
use Rattle.graph.specs.Form.{Laid}
use Rattle.store.specs.laws.Clear.{active-recounted}
use Rattle.store.proofs.clear.put_active_count.Goals as goal

pub put-requires : goal.put-requires
unfolding Laid
put-requires c = omega arith

pub returns : goal.returns
returns c = rw c.put.ensures (active-recounted c.args.b.now c.args.x c.requires.0 c.requires.1)
