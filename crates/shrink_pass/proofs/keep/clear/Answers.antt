use native.Mathlib.Omega.{arith}
use Rattle.shrink_pass.specs.laws.Finish.{kept-below, cleared-scratch}
use Rattle.shrink_pass.proofs.keep.clear.Goals as goal

pub unmark-requires : goal.unmark-requires
unmark-requires c = let q = c.requires.0 in (q.room, c.requires.1, omega (arith, q.size), kept-below q)

pub returns : goal.returns
returns c =
    rw (
      c.wipe-2.ensures,
      c.wipe.ensures,
      c.unmark.ensures,
    )
    (cleared-scratch c.requires.0)
