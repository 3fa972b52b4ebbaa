use mathlib.Core.Path.{refl}
use native.Mathlib.Omega.{arith}
use Rattle.calls.specs.Erasures.{weight_in_range}
use Rattle.edge_modifier.specs.laws.Load.{pairs-more, pairs-fails, pairs-all, in-range, out_of_range}
use Rattle.edge_modifier.proofs.weights_in_range.Goals as goal

pub loop-i-init : goal.loop-i-init
loop-i-init c = refl

pub loop-i-preserved : goal.loop-i-preserved
loop-i-preserved c =
    let a = c.args in (
    pairs-more a.pairs.now weight_in_range c.loop-i.i c.loop-i.invariant (omega arith)
    (in-range a.pairs.now c.loop-i.i (omega arith))
    )

pub returns-then-given-gt1000000 : goal.returns-then-given-gt1000000
returns-then-given-gt1000000 c =
    let a = c.args in
    pairs-fails a.pairs.now weight_in_range c.loop-i.i c.loop-i.invariant (omega arith)
    (out_of_range a.pairs.now c.loop-i.i (omega arith))

pub returns : goal.returns
returns c = pairs-all c.args.pairs.now weight_in_range c.loop-i.i c.loop-i.invariant (omega arith)
