use Rattle.std.specs.Prelude.{◌≡◌, length}
use mathlib.Core.Path.{sym, refl, ◌∙◌}
use Rattle.graph.specs.laws.Form.{laid-shape}
use native.Mathlib.Omega.{arith}
use Rattle.graph.specs.Layout.{state_of}
use Rattle.calls.specs.Calls.{growth_table}
use Rattle.calls.proofs.laws.Read.{table_more, table-all, placed-none}
use Rattle.calls.proofs.read.read_table.Goals.{After-side_count-m}
use Rattle.calls.proofs.read.read_table.Goals as goal

-- the table has one number for each side

sized : (c : After-side_count-m) → length (growth_table (state_of c.args.b.now)) ≡ c.side_count-m.result
unfolding growth_table
sized c = (laid-shape c.args.b.now c.requires.0.laid).growth ∙ sym c.side_count-m.ensures.0

pub loop-s-init : goal.loop-s-init
loop-s-init c = (sym (placed-none c.args.table.now), refl)

pub loop-s-preserved : goal.loop-s-preserved
unfolding growth_table
loop-s-preserved c =
    let q = c.loop-s in
    let z = sized c.before.before.before.before.before.before in (
      c.put.ensures
          ∙ table_more (growth_table (state_of c.args.b.now)) c.args.table.now q.s (omega (arith, z))
          (omega (arith, z, c.requires.1)) q.invariant.0 c.growth-g.ensures.0,
      c.put.auto.b ∙ q.invariant.1,
    )

pub returns : goal.returns
returns c =
    let z = sized c.before.before in
    table-all (growth_table (state_of c.args.b.now)) c.args.table.now c.loop-s.s (omega (arith, z))
    c.loop-s.invariant.0
