use native.Mathlib.Omega.{arith}
use mathlib.Core.Path.{refl}
use Rattle.update_length.specs.Scan.{look_peer}
use Rattle.update_length.specs.inner.Length.{look_by, room_in}
use Rattle.update_length.specs.laws.Length.{length-zero, length-nonzero}
use Rattle.update_length.proofs.look.look_peer.Goals as goal

pub returns-then-l-eq-ZERO : goal.returns-then-l-eq-ZERO
unfolding look_peer look_by room_in
returns-then-l-eq-ZERO c = rw (length-zero _ c.if-l-eq-ZERO.true) (record { what = cc; fits = omega arith })

pub returns-else-l-eq-ZERO : goal.returns-else-l-eq-ZERO
unfolding look_peer look_by room_in
returns-else-l-eq-ZERO c = rw (length-nonzero _ c.if-l-eq-ZERO.false) (record { what = refl; fits = omega arith })
