use native.Mathlib.Omega.{arith}
use Rattle.store.specs.laws.Move.{shifted_none}
use Rattle.store.proofs.replace.shift_starts.Goals as goal

pub shift_each-requires : goal.shift_each-requires
shift_each-requires c = c.requires

pub returns-then-add-sub : goal.returns-then-add-sub
returns-then-add-sub c = c.shift_each.ensures

pub returns-else-add-sub : goal.returns-else-add-sub
returns-else-add-sub c = shifted_none c.args.b.now c.args.add c.args.sub c.args.lo c.args.hi c.requires.0 (omega arith)
