use Prim.Native.Nat.{◌-◌}
use native.Mathlib.Omega.{arith}
use mathlib.Core.Path.{◌≡◌}
use mathlib.Core.Bool.{true, false, ◌&&◌}
use lib.Dec.{leb}
use Rattle.graph.specs.State.{node_count}
use Rattle.graph.specs.Sound.{stored_defect}
use Rattle.graph.specs.Layout.{state_of}
use Rattle.graph.specs.laws.Scan.{both-le, defect-node}
use Rattle.graph_tests.proofs.sides.stored_defect.Goals as goal

pub returns-then-x-c : goal.returns-then-x-c
unfolding stored_defect
returns-then-x-c c = let q = both-le c.args.x c.node_count-c.result c.if-x-c.true in
    let b = c.args.b.now in
    let z : leb 1 c.args.x && leb c.args.x (node_count (state_of b)) ≡ true = cc in
    rw z (cc (defect-node b (c.args.x - 1) c.requires (omega arith)))

pub returns-else-x-c : goal.returns-else-x-c
unfolding stored_defect
returns-else-x-c c = let b = c.args.b.now in
    let z : leb 1 c.args.x && leb c.args.x (node_count (state_of b)) ≡ false = cc in
    rw z
