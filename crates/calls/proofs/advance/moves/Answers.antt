use native.Mathlib.Omega.{arith}
use Rattle.calls.proofs.laws.Advance.{state-beyond}
use Rattle.calls.proofs.advance.moves.Goals as goal

pub returns-then-node_count-n : goal.returns-then-node_count-n
returns-then-node_count-n c = state-beyond _ c.args.n c.requires (omega (arith, c.node_count.ensures.0, c.if-node_count-n.true))

pub returns-else-node_count-n : goal.returns-else-node_count-n
returns-else-node_count-n c = rw c.grow_state.ensures.0
