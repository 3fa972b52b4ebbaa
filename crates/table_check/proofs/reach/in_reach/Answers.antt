use Rattle.table_check.specs.Tests.{all_marked}
use mathlib.Core.Path.{◌≡◌, ◌∙◌, ap}
use native.Mathlib.Omega.{arith}
use Prim.Native.Nat.{◌-◌, ℕ}
use mathlib.Core.List.{List}
use Rattle.table_check.specs.laws.Marks.{zeros-part}
use Rattle.table_check.proofs.reach.in_reach.Goals as goal

pub returns : goal.returns
returns c =
    let a = c.args in
    let z : a.v - 0 ≡ a.v = omega arith in
    c.reach_by.ensures
    ∙ ap (λ (m : List ℕ). all_marked a.v a.e a.edges.now a.virtuals.now m) (rw z (zeros-part 1024 a.v (omega arith)))
