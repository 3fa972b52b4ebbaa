use native.Mathlib.Omega.{arith}
use Rattle.grow_pass.specs.laws.Take.{held-working, held-own, vertex-push, vertex-keep}
use Rattle.grow_pass.proofs.take.take_vertex.Goals as goal

pub take_sides-q-requires : goal.take_sides-q-requires
take_sides-q-requires c = let h = c.hold.ensures in (
  held-working c.requires.0 c.args.g c.args.v h,
  held-own c.requires.0 c.args.g c.args.v h c.requires.1,
  omega
      arith,
  omega arith,
)

pub returns-then-q-before : goal.returns-then-q-before
returns-then-q-before c = let h = c.hold.ensures in
    rw c.put.ensures
    (vertex-push c.requires.0 c.args.g c.args.v h c.take_sides-q.ensures (omega arith) (omega arith)
    (omega arith))

pub returns-else-q-before : goal.returns-else-q-before
returns-else-q-before c = let h = c.hold.ensures in
    vertex-keep c.requires.0 c.args.g c.args.v h c.take_sides-q.ensures c.if-q-before.false
