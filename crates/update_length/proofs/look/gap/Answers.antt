use Rattle.update_length.specs.laws.Length.{length-left}
use Rattle.update_length.specs.Scan.{gap_of}
use Rattle.gap.specs.laws.Gap.{left-side, over-side, weight-small}
use Rattle.graph.specs.Layout.{state_of}
use Rattle.graph.specs.State.{opposite, grown_over, weight_over}
use mathlib.Core.Path.{◌≡◌, sym, ◌∙◌}
use Prim.Native.Nat.{◌+◌, ◌-◌}
use native.Mathlib.Omega.{arith}
use Rattle.update_length.proofs.look.gap.Goals as goal

pub overflow_sub-result : goal.overflow_sub-result
overflow_sub-result c =
    let d = state_of c.args.b.now in
    let g = c.requires.1.growths in
    let e = over-side d c.args.s c.in-Over.x (sym c.in-Over.is ∙ c.edge_gap.ensures) in
    omega (arith, e.0, g c.args.s, g (opposite c.args.s))

pub overflow_add-result : goal.overflow_add-result
overflow_add-result c =
    let d = state_of c.args.b.now in
    let e = left-side d c.args.s c.in-Left.x (sym c.in-Left.is ∙ c.edge_gap.ensures) in
    omega (arith, e, weight-small c.args.b.now c.args.s c.requires.0 c.requires.2)

pub returns-in-Over : goal.returns-in-Over
unfolding gap_of
returns-in-Over c =
    let d = state_of c.args.b.now in
    let g = c.requires.1.growths in
    let e = over-side d c.args.s c.in-Over.x (sym c.in-Over.is ∙ c.edge_gap.ensures) in
    let w = weight_over d c.args.s in
    let h = grown_over d c.args.s in
    let z : 4398046511104 - c.in-Over.x ≡ 4398046511104 + w - h = omega (arith, e.0) in
    (rw z (length-left w h (omega (arith, e.0, g c.args.s, g (opposite c.args.s)))), omega arith)

pub returns-in-Left : goal.returns-in-Left
unfolding gap_of
returns-in-Left c =
    let d = state_of c.args.b.now in
    let e = left-side d c.args.s c.in-Left.x (sym c.in-Left.is ∙ c.edge_gap.ensures) in
    let w = weight_over d c.args.s in
    let h = grown_over d c.args.s in
    let z : 4398046511104 + c.in-Left.x ≡ 4398046511104 + w - h = omega (arith, e) in (
      rw z (length-left w h (omega (arith, e))),
      omega
          (arith, e, weight-small c.args.b.now c.args.s c.requires.0 c.requires.2),
    )
