use Rattle.std.specs.Prelude.{ℕ, List, get_or}
use mathlib.Core.Path.{ap, ◌∙◌}
use native.Mathlib.Omega.{arith}
use Rattle.calls.proofs.laws.Defect.{held_none, held_same, held_more, held-size, held-all-block, held-all-scratch}
use Rattle.calls.proofs.defect.hold_sides.Goals as goal

pub loop-i-init : goal.loop-i-init
loop-i-init c = held_none c.args.n c.args.v c.requires.0 c.requires.1 c.requires.3

pub vertex_side-s-requires : goal.vertex_side-s-requires
vertex_side-s-requires c = let q = c.loop-i.invariant in (q.block.formed, rw q.block.vertices q.inside, rw (held_same q) (omega arith))

pub loop-i-preserved : goal.loop-i-preserved
loop-i-preserved c =
    let d = c.loop-i in
    let v = c.vertex_side-s in
    rw c.put.ensures
    (held_more d.invariant v.result (omega arith)
    (v.ensures.0 ∙ ap (λ (l : List ℕ). get_or l d.i 0) (held_same d.invariant))
    c.hold.ensures)

pub shape_of-t : goal.shape_of-t
shape_of-t c = held-size c.loop-i.invariant c.requires.0 c.requires.3

pub returns : goal.returns
returns c = let q = c.loop-i.invariant in (held-all-block q (omega arith), held-all-scratch q (omega arith), c.sides_len-l.ensures.0)
