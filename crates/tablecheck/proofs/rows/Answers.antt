use Rattle.std.proofs.Common.{arith}
use borrow.Author.Rules.{rules}
use Rattle.tablecheck.specs.laws.Read.{so-begun, so-more, so-all}
use Rattle.tablecheck.proofs.rows.Goals as goal

pub loop-i-init : goal.loop-i-init
loop-i-init g c =
    let a = c.args in
    let e = c.begin-k.ensures in
    so-begun a.table.now.v a.table.now.e a.table.now.edges.now a.table.now.virtuals.now a.table.now.defects.now a.table.now.duals.now a.table.now.growths.now e.0 e.1 c.requires.7

pub loop-i-preserved : goal.loop-i-preserved
loop-i-preserved g c =
    let a = c.args in
    so-more a.table.now.v a.table.now.e a.table.now.edges.now a.table.now.virtuals.now a.table.now.defects.now a.table.now.duals.now a.table.now.growths.now c.read_some.new.list
    c.loop-i.invariant (search rules) c.next-k.ensures

pub returns-clause-told : goal.returns-clause-told
returns-clause-told g c =
    let t = c.args.table.now in
    so-all t.v t.e t.edges.now t.virtuals.now t.defects.now t.duals.now t.growths.now c.loop-i.invariant
    (omega arith) c.requires.6 c.requires.4 c.requires.5 c.end.ensures
