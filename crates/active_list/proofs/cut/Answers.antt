use Rattle.active_list.specs.laws.Words.{list-cut}
use Rattle.graph.specs.Form.{Laid}
use native.Mathlib.Omega.{arith}
use Rattle.active_list.proofs.cut.Goals as goal

pub put_active_count-requires : goal.put_active_count-requires
unfolding Laid
put_active_count-requires c = (c.requires.0.laid, omega arith)

pub returns : goal.returns
returns c = list-cut _ _ c.requires.0 c.args.j c.put_active_count.ensures c.requires.1
