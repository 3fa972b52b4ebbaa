use native.Mathlib.Omega.{arith}
use mathlib.Core.Path.{refl}
use mir.Facts.{to_z-of_z}
use Rattle.calls.proofs.laws.Replies.{usable-steady, along-up}
use Rattle.calls.proofs.core_calls.grow_dual_node.Goals as goal

pub grow_along-requires : goal.grow_along-requires
grow_along-requires c = (usable-steady c.requires c.args.n 1, omega arith, λ e. refl)

pub returns : goal.returns
returns c =
    let g = c.grow_along.ensures in
    (rw (to_z-of_z c.ranges.length, along-up c.args.length) at g.0, g.1)
