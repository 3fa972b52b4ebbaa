use native.Mathlib.Omega.{arith}
use Rattle.graph.specs.Layout.{state_of}
use Rattle.calls.proofs.laws.Refuse.{good-inside}
use Rattle.dual_module_node.specs.laws.ReadNode.{defect-told, blossom-told}
use borrow.Author.Rules.{rules}
use Rattle.dual_module_node.proofs.sound.told.Goals as goal

pub class-class-requires : goal.class-class-requires
class-class-requires c =
    (c.requires.0, good-inside (state_of c.args.b.now) c.args.n c.requires.1)

pub grow_state-x-requires : goal.grow_state-x-requires
grow_state-x-requires c =
    (c.requires.0, good-inside (state_of c.args.b.now) c.args.n c.requires.1)

pub parent-p-requires : goal.parent-p-requires
parent-p-requires c =
    (c.requires.0, good-inside (state_of c.args.b.now) c.args.n c.requires.1)

pub dual-y-requires : goal.dual-y-requires
dual-y-requires c =
    (c.requires.0, good-inside (state_of c.args.b.now) c.args.n c.requires.1)

pub returns-then-class-v : goal.returns-then-class-v
returns-then-class-v c =
    let v = c.vertex_count-v.ensures.0 in
    defect-told (state_of c.args.b.now) c.args.n _ c.class-class.ensures.0 c.requires.1
    c.grow_state-x.ensures.0 c.parent-p.ensures.0 c.dual-y.ensures.0
    (omega (arith, v, c.if-class-v.true))

pub returns-else-class-v : goal.returns-else-class-v
returns-else-class-v c =
    let v = c.vertex_count-v.ensures.0 in
    rw v
    (blossom-told (state_of c.args.b.now) c.args.n _ c.class-class.ensures.0 c.requires.1
    c.grow_state-x.ensures.0 c.parent-p.ensures.0 c.dual-y.ensures.0
    (omega (arith, v, c.if-class-v.false)))
