use mathlib.Core.Path.{refl, sym, ◌∙◌}
use Rattle.graph.specs.Layout.{state_of}
use Rattle.memory_tests.specs.laws.Memory.{memory-accepted}
use Rattle.dual_module_node.specs.laws.ReadNode.{node-refused, node-read}
use borrow.Author.Rules.{rules}
use Rattle.dual_module_node.proofs.sound.read_node.Goals as goal

pub bad_node-requires : goal.bad_node-requires
bad_node-requires c = (memory-accepted c.args.b.now c.args.t.now c.requires).formed

pub returns-then-bad_node : goal.returns-then-bad_node
returns-then-bad_node c =
    node-refused refl (state_of c.args.b.now) c.args.n c.requires (sym c.bad_node.ensures ∙ c.if-bad_node.true)

pub told-requires : goal.told-requires
told-requires c =
    ((memory-accepted c.args.b.now c.args.t.now c.requires).formed, sym c.bad_node.ensures ∙ c.if-bad_node.false)

pub returns : goal.returns
returns c =
    c.told.ensures ∙ node-read refl (state_of c.args.b.now) c.args.n c.requires
