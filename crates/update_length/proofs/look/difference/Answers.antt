use lib.IntN.{sub_ℕ}
use native.Mathlib.Omega.{arith}
use mathlib.Core.Path.{◌≡◌, ap, ◌∙◌}
use Prim.Native.Nat.{◌+◌, ◌≤◌}
use Rattle.graph.specs.State.{opposite, grown_over, weight_over}
use Rattle.graph.specs.Layout.{state_of}
use Rattle.update_length.specs.Scan.{gap_of}
use Rattle.update_length.specs.laws.Length.{length-left}
use Rattle.update_length.proofs.look.difference.Goals.{After-growth-h}
use Rattle.update_length.proofs.look.difference.Goals as goal

-- what has grown, as it is read

grown : (c : After-growth-h) → c.growth-g.result + c.growth-h.result
    ≡ grown_over (state_of c.args.b.now) c.args.s
grown c = cc

small : (c : After-growth-h) → c.growth-g.result + c.growth-h.result ≤ 2200000000000
small c =
    let r = c.requires.1.growths in
    let g = grown c in
    omega (arith, g, r c.args.s, r (opposite c.args.s))

pub overflow_sub-result : goal.overflow_sub-result
overflow_sub-result c = let h = small c in omega arith

pub returns : goal.returns
unfolding gap_of
returns c =
    let h = small c in
    let w = c.weight-w in
    let x = c.growth-g.result + c.growth-h.result in
    let y = ap (λ z. sub_ℕ z x) w.ensures.0 ∙ ap (sub_ℕ (weight_over (state_of c.args.b.now) c.args.s)) (grown c) in
    (length-left w.result x (omega arith) ∙ y, omega (arith, h, w.ensures.1))
