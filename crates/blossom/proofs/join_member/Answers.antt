use native.Mathlib.Omega.{arith}
use Rattle.calls.specs.Insert.{join_step}
use Rattle.blossom.specs.laws.Blossom.{joined-member-stays}
use Rattle.blossom.proofs.join_member.Goals as goal

pub set_grow_state-requires : goal.set_grow_state-requires
set_grow_state-requires c =
    let p = c.join_sides-q.ensures in
    (p.block.formed, rw p.block.nodes c.requires.1, omega arith)

pub set_parent-requires : goal.set_parent-requires
set_parent-requires c = let p = c.join_sides-q.ensures in
    let x = c.set_grow_state.ensures in
    (x.formed, rw (x.nodes, p.block.nodes) c.requires.1, omega (arith, c.requires.3))

pub returns : goal.returns
unfolding join_step
returns c =
    joined-member-stays c.args.m
    c.join_sides-q.ensures
    c.set_grow_state.ensures c.set_parent.ensures
