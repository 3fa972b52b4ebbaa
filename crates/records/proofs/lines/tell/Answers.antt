use Prim.Native.Nat.{◌-◌, ◌≤◌}
use native.Mathlib.Omega.{arith}
use mathlib.Core.Path.{◌≡◌}
use mathlib.Core.List.{◌++◌}
use lib.ListN.{length}
use Rattle.records.specs.Text.{spaced}
use Rattle.records.specs.Lines.{line}
use Rattle.records.specs.laws.Write.{told-as, told-fits, room-here, written-front}
use borrow.Author.Rules.{rules}
use Rattle.records.proofs.lines.tell.Goals as goal

pub write_line-e-requires : goal.write_line-e-requires
write_line-e-requires c =
    let h = room-here c.args.o.full (length c.args.lines.now) c.args.o.at c.if-o-lines.true in
    (omega (arith, c.requires.0, h.1), c.requires.1)

pub returns-then-o-lines : goal.returns-then-o-lines
returns-then-o-lines c =
    let h = room-here c.args.o.full (length c.args.lines.now) c.args.o.at c.if-o-lines.true in
    let w = c.write_line-e.ensures in
    let few : length (line c.args.k (c.args.w.now ++ spaced c.args.ns.now)) ≤ 128 = omega (arith, w.0.place, w.1) in
    told-fits c.args.lines.now c.args.o.at c.args.o.full _ _ _ h.0 c.requires.0 (omega (arith, few, h.1)) few w.0

pub slice_bounds-put_line-end : goal.slice_bounds-put_line-end
slice_bounds-put_line-end c = omega (arith, c.write_line-n.auto.t)

pub returns : goal.returns
returns c =
    let z : c.write_line-n.result - 0 ≡ c.write_line-n.result = omega arith in
    told-as c.put_line.ensures
    (rw z
    (written-front c.write_line-n.ensures.0
    (omega (arith, c.write_line-n.ensures.0.place, c.write_line-n.ensures.1))))
