use Rattle.calls.proofs.laws.Refuse.{bad-outside, bad-removed}
use native.Mathlib.Omega.{arith}
use mathlib.Core.Path.{◌∙◌}
use Rattle.graph.specs.Layout.{state_of}
use Rattle.calls.proofs.refuse.bad_node.Goals as goal

pub returns-then-node_count-n : goal.returns-then-node_count-n
returns-then-node_count-n c = bad-outside (state_of c.args.b.now) c.args.n (omega arith)

pub returns-else-node_count-n : goal.returns-else-node_count-n
returns-else-node_count-n c = c.is_removed.ensures ∙ bad-removed (state_of c.args.b.now) c.args.n (omega arith)
