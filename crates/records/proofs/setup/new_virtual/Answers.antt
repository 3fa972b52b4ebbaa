use native.Mathlib.Omega.{arith}
use Prim.Native.Nat.{◌-◌}
use mathlib.Core.Path.{◌≡◌, ap}
use mathlib.Core.Bool.{◌&&◌}
use lib.Dec.{ltb}
use Rattle.records.specs.Setup.{new_virtual}
use borrow.Author.Rules.{rules}
use Rattle.records.proofs.setup.new_virtual.Goals as goal

pub returns : goal.returns
unfolding new_virtual
returns c =
    let a = c.args in
    let z : a.n - 0 ≡ a.n = omega arith in
    ap (λ t. ltb a.x 64 && t) (rw z at c.missing.ensures)
