use native.Mathlib.Omega.{arith}
use Prim.Native.Nat.{◌-◌}
use mathlib.Core.Path.{refl}
use Rattle.records.specs.laws.Write.{told-lines}
use Rattle.record_step.specs.laws.Asking.{part_room, part-formed, part_sound, part-opened, asked-table, asked-contacts, asked-block, asked-lines, part-kept}
use Rattle.records.specs.laws.Opening.{small_of}
use borrow.Author.Rules.{rules}
use Rattle.record_step.proofs.one_record.ask.Goals as goal

pub slice_bounds-table-end : goal.slice_bounds-table-end
slice_bounds-table-end c =
    omega (
      arith,
      part_room c.requires.1
          c.requires.4 _ c.block_length-m.ensures,
    )

pub table-requires : goal.table-requires
table-requires c = (
  c.requires.0,
  part-formed c.requires.1
      c.requires.4 _
      c.block_length-m.ensures,
)

pub returns-then-kind-eq10 : goal.returns-then-kind-eq10
returns-then-kind-eq10 c =
    let t =
    asked-table c.requires.1 c.requires.4 _
    c.block_length-m.ensures c.requires.2 _
    c.if-kind-eq10.true c.table.ensures in
    (t.0, t.1, refl)

pub slice_bounds-contacts-end : goal.slice_bounds-contacts-end
slice_bounds-contacts-end c =
    omega (
      arith,
      part_room c.requires.1
          c.requires.4 _
          c.block_length-m.ensures,
    )

pub contacts-requires : goal.contacts-requires
contacts-requires c =
    let m = c.block_length-m.ensures in
    (c.requires.0, part-formed c.requires.1 c.requires.4 _ m, part_sound c.requires.1 c.requires.4 _ m)

pub returns-then-kind-eq12 : goal.returns-then-kind-eq12
returns-then-kind-eq12 c =
    let t =
    asked-contacts c.requires.1 c.requires.4 _
    c.block_length-m.ensures c.requires.2 _
    c.if-kind-eq12.true c.contacts.ensures in
    (t.0, t.1, refl)

pub scratch_length-q-requires : goal.scratch_length-q-requires
scratch_length-q-requires c = let z = small_of _ c.requires.1.small in omega arith

pub slice_bounds-call-end : goal.slice_bounds-call-end
slice_bounds-call-end c =
    omega (
      arith,
      part_room c.requires.1
          c.requires.4 _ c.block_length-m.ensures,
    )

pub slice_bounds-call-end-2 : goal.slice_bounds-call-end-2
slice_bounds-call-end-2 c =
    let z = small_of _ c.requires.1.small in
    omega (arith, c.requires.5, c.scratch_length-q.ensures)

pub call-a-requires : goal.call-a-requires
call-a-requires c = (
  part-opened c.requires.1 c.requires.4 _ c.block_length-m.ensures _ _ c.scratch_length-q.ensures
      c.requires.5 c.requires.6,
  c.requires.2,
  c.requires.3,
  c.if-kind-eq10.false,
  c.if-kind-eq12.false,
)

pub returns : goal.returns
returns c =
    let e = c.call-a.ensures in
    let l = c.block_length-m.ensures in (
      told-lines c.answer.ensures (asked-lines c.requires.1 c.requires.4 _ l e.0 _),
      asked-block c.requires.1 c.requires.4 _ l e.0,
      part-kept (c.scratch_length-q.result - 0) c.args.scratch.now e.1,
    )
