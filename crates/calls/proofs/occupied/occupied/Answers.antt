use mathlib.Core.Path.{sym, ◌∙◌}
use Rattle.graph.specs.Layout.{state_of}
use Rattle.calls.proofs.laws.Occupied.{decides-occupied, decides-read, sides-occupied, sides-read}
use Rattle.calls.proofs.occupied.occupied.Goals as goal

pub returns-then-vertex_decides : goal.returns-then-vertex_decides
returns-then-vertex_decides c =
    let a = c.args in
    let h = sym c.vertex_decides.ensures ∙ c.if-vertex_decides.true in
    (decides-occupied (state_of a.b.now) a.v h, decides-read (state_of a.b.now) a.v h)

pub returns-else-vertex_decides : goal.returns-else-vertex_decides
returns-else-vertex_decides c =
    let a = c.args in
    let h = sym c.vertex_decides.ensures ∙ c.if-vertex_decides.false in
    let r = c.held_side.ensures in
    (r.0 ∙ sides-occupied (state_of a.b.now) a.v h, r.1 ∙ sides-read (state_of a.b.now) a.v h)
