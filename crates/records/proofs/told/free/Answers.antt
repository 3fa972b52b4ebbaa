use lib.ListN.{take, length-take}
use native.Mathlib.Omega.{arith}
use Prim.Native.Nat.{◌-◌}
use mathlib.Core.Path.{◌≡◌}
use mir.Facts.{to_z-of_z}
use Rattle.records.specs.Text.{ascii}
use Rattle.records.specs.laws.Write.{told-as, written-front, written_then}
use Rattle.records.specs.laws.Told.{one-short, free-line}
use borrow.Author.Rules.{rules}
use Rattle.records.proofs.told.free.Goals as goal

pub slice_bounds-tell-end : goal.slice_bounds-tell-end
slice_bounds-tell-end c =
    omega (
      arith,
      c.signed-n.auto.t,
      c.signed-n.ensures.1,
      c.word-m.ensures.place,
    )

pub tell-requires : goal.tell-requires
tell-requires c =
    let few = one-short c.flag.result (omega (arith, c.flag.ensures.1)) in (
      search rules,
      omega (
        arith,
        length-take (c.signed-n.result - 0) c.signed-n.new.t,
        c.signed-n.ensures.1,
        c.word-m.ensures.place,
      ),
    )

pub returns : goal.returns
unfolding ascii
returns c =
    let z : c.signed-n.result - 0 ≡ c.signed-n.result = omega arith in
    let front : take c.signed-n.result c.signed-n.new.t ≡ _ =
    written-front (written_then c.word-m.ensures c.signed-n.ensures.0)
    (omega (
      arith,
      (written_then c.word-m.ensures c.signed-n.ensures.0).place,
      c.signed-n.ensures.1,
      c.word-m.ensures.place,
    )) in
    told-as c.tell.ensures
    (rw z (free-line c.args.k c.args.x _ c.args.e _ _ front (to_z-of_z c.ranges.x) c.flag.ensures.0))
