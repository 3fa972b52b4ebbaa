use native.Mathlib.Omega.{arith}
use mathlib.Core.Path.{sym, ◌∙◌}
use Rattle.graph.specs.Layout.{state_of}
use Rattle.calls.proofs.laws.Read.{first_below, first-same, first-vertex, removed-vertex}
use Rattle.calls.proofs.read.+get_representative_vertex.Goals as goal

pub vertex_count-v-requires : goal.vertex_count-v-requires
vertex_count-v-requires t c = c.requires.0.laid

pub class-x-requires : goal.class-x-requires
class-x-requires t c = (c.requires.0, c.requires.2)

pub is_removed-requires : goal.is_removed-requires
is_removed-requires t c = (c.requires.0.laid, c.requires.2)

pub get_representative_vertex-requires : goal.get_representative_vertex-requires
get_representative_vertex-requires t c =
    let v = c.vertex_count-v.ensures.0 in
    let r = sym c.is_removed.ensures ∙ c.if-is_removed.false in
    let k =
    first_below (state_of c.args.b.now) c.requires.1 c.args.n c.class-x.result
    c.requires.2 c.class-x.ensures.0 r (omega (arith, v, c.if-x-v.false)) in
    (omega (arith, v, k), (c.requires.0, c.requires.1, omega (arith, v, k, c.requires.2)))

pub returns-then-x-v : goal.returns-then-x-v
returns-then-x-v t c =
    first-vertex (state_of c.args.b.now) c.requires.1 c.args.n c.class-x.result c.requires.2
    c.class-x.ensures.0 (omega (arith, c.vertex_count-v.ensures.0, c.if-x-v.true))

pub returns-then-is_removed : goal.returns-then-is_removed
returns-then-is_removed t c = removed-vertex (state_of c.args.b.now) c.args.n (sym c.is_removed.ensures ∙ c.if-is_removed.true)

pub returns-else-is_removed : goal.returns-else-is_removed
returns-else-is_removed t c =
    let v = c.vertex_count-v.ensures.0 in
    let r = sym c.is_removed.ensures ∙ c.if-is_removed.false in
    c.get_representative_vertex.ensures
    ∙ rw v
    (first-same (state_of c.args.b.now) c.requires.1 c.args.n c.class-x.result c.requires.2 c.class-x.ensures.0 r
    (omega (arith, v, c.if-x-v.false)))
