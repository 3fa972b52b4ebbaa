use native.Mathlib.Omega.{arith}
use Rattle.edge_modifier.specs.laws.Load.{set-none, pair-edge, pair-weight, set_more, set_all}
use Rattle.edge_modifier.proofs.set_weights.Goals as goal

pub loop-i-init : goal.loop-i-init
loop-i-init c = set-none c.args.pairs.now c.requires.0

pub set_weight-requires : goal.set_weight-requires
set_weight-requires c =
    let q = c.loop-i.invariant in (
      q.block.formed,
      rw c.given.ensures.0 (pair-edge q c.requires.1 (omega arith)),
      rw c.given-in-loop-i.ensures.0 (pair-weight q c.requires.2 (omega arith)),
    )

pub loop-i-preserved : goal.loop-i-preserved
loop-i-preserved c =
    set_more c.loop-i.invariant (omega arith)
    (rw (c.given.ensures.0, c.given-in-loop-i.ensures.0) at c.set_weight.ensures)

pub returns : goal.returns
returns c = set_all c.loop-i.invariant (omega arith)
