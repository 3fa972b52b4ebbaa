use mathlib.Core.Path.{◌∙◌}
use Rattle.pass.proofs.laws.Scratch.{scratch-same}
use Rattle.calls.proofs.laws.Defect.{defect-block, defect-scratch, defect-count}
use Rattle.calls.proofs.defect.hold_defect.Goals as goal

pub hold_sides-requires : goal.hold_sides-requires
hold_sides-requires c = let p = c.set_defect.ensures in
    let q = c.hold.ensures in
    (q.formed, rw (q.vertices, p.vertices) c.requires.1, c.requires.2, c.requires.3 ∙ scratch-same p ∙ scratch-same q)

pub returns : goal.returns
returns c = let p = c.set_defect.ensures in
    let q = c.hold.ensures in
    let r = c.hold_sides.ensures in
    (defect-block c.args.v c.args.n p q r.0, defect-scratch c.args.v c.args.n p q r.1, defect-count c.args.v c.args.n p q r.2)
