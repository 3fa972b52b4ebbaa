use native.Mathlib.Omega.{arith}
use mathlib.Core.Path.{sym}
use Rattle.graph.specs.laws.State.{opposite-even, opposite-odd}
use Rattle.graph.proofs.side.opposite.Goals as goal

pub returns-then-s-eq0 : goal.returns-then-s-eq0
returns-then-s-eq0 c = (sym (opposite-even c.args.s c.if-s-eq0.true), omega arith)

pub returns-else-s-eq0 : goal.returns-else-s-eq0
returns-else-s-eq0 c = (sym (opposite-odd c.args.s (omega arith)), omega arith)
