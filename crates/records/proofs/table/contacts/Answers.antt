use native.Mathlib.Omega.{arith}
use Rattle.graph.specs.Layout.{state_of}
use Rattle.records.specs.laws.Table.{telling-none, telling-more, telling-all, contacts-start, contacts-more, contacts-end}
use Rattle.records.proofs.table.contacts.Goals as goal

pub edge_count-e-end-requires : goal.edge_count-e-end-requires
edge_count-e-end-requires c = c.requires.1.laid

pub loop-e-init : goal.loop-e-init
loop-e-init c = telling-none c.requires.0 (contacts-start _ _)

pub contact_line-out-requires : goal.contact_line-out-requires
contact_line-out-requires c =
    (c.loop-e.invariant.room, c.requires.1, c.requires.2, omega (arith, c.edge_count-e-end.ensures.0))

pub loop-e-preserved : goal.loop-e-preserved
loop-e-preserved c =
    telling-more c.loop-e.invariant
    (contacts-more c.args.k (state_of c.args.b.now) c.loop-e.e (omega (arith, c.edge_count-e-end.ensures.0)))
    c.contact_line-out.ensures

pub returns : goal.returns
returns c =
    telling-all c.loop-e.invariant
    (contacts-end c.args.k (state_of c.args.b.now) c.loop-e.e (omega (arith, c.edge_count-e-end.ensures.0)))
