use native.Mathlib.Omega.{arith}
use borrow.Author.Tests.{eq-eqb, le-leb, lt-leb}
use Rattle.memory_tests.specs.laws.Memory.{memory-accepted}
use Rattle.dual_module_gap.specs.GapRead.{gap_told}
use borrow.Author.Rules.{rules}
use Rattle.dual_module_gap.proofs.sound.edge_gap.Goals as goal

pub edge_count-requires : goal.edge_count-requires
edge_count-requires c = (memory-accepted c.args.b.now c.args.t.now c.requires).formed.laid

pub returns-then-edge_count-e : goal.returns-then-edge_count-e
unfolding gap_told
returns-then-edge_count-e c = rw (eq-eqb _ 0 c.requires, le-leb _ _ (rw c.edge_count.ensures.0 at c.if-edge_count-e.true))

pub edge_gap-requires : goal.edge_gap-requires
edge_gap-requires c =
    ((memory-accepted c.args.b.now c.args.t.now c.requires).formed, omega (arith, c.edge_count.ensures.0))

pub returns : goal.returns
unfolding gap_told
returns c =
    let l = rw c.edge_count.ensures.0 at c.if-edge_count-e.false in
    rw (eq-eqb _ 0 c.requires, lt-leb _ _ l, c.edge_gap.ensures)
