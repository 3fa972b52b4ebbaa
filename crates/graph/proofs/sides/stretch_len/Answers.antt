use native.Mathlib.Omega.{arith}
use Rattle.graph.specs.laws.SidesAt.{around-of, laid-sides}
use Rattle.graph.proofs.sides.stretch_len.Goals as goal

pub overflow_sub-result : goal.overflow_sub-result
overflow_sub-result c = let q = around-of c.args.b.now c.args.v c.requires.0 c.requires.1 c.requires.2 in omega arith

pub returns : goal.returns
returns c =
    let q = around-of c.args.b.now c.args.v c.requires.0 c.requires.1 c.requires.2 in
    let n = laid-sides c.args.b.now c.requires.0 in
    (omega arith, omega arith)
