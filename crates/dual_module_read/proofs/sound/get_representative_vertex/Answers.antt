use mathlib.Core.Path.{refl, sym, ◌∙◌}
use Rattle.graph.specs.Layout.{state_of}
use Rattle.memory_tests.specs.laws.Memory.{memory-accepted}
use Rattle.calls.proofs.laws.Refuse.{good-inside}
use Rattle.dual_module_read.proofs.laws.Read.{vertex-beyond, vertex-told}
use borrow.Author.Rules.{rules}
use Rattle.dual_module_read.proofs.sound.get_representative_vertex.Goals as goal

pub bad_node-requires : goal.bad_node-requires
bad_node-requires c = (memory-accepted c.args.b.now c.args.t.now c.requires).formed

pub returns-then-bad_node : goal.returns-then-bad_node
returns-then-bad_node c =
    vertex-beyond refl c.requires (state_of c.args.b.now) c.args.n (sym c.bad_node.ensures ∙ c.if-bad_node.true)

pub get_representative_vertex-requires : goal.get_representative_vertex-requires
get_representative_vertex-requires c =
    let l = memory-accepted c.args.b.now c.args.t.now c.requires in
    (l.formed, l.sounds, good-inside (state_of c.args.b.now) c.args.n (sym c.bad_node.ensures ∙ c.if-bad_node.false))

pub returns : goal.returns
returns c =
    vertex-told refl c.requires (state_of c.args.b.now) c.args.n (sym c.bad_node.ensures ∙ c.if-bad_node.false)
    c.get_representative_vertex.ensures
