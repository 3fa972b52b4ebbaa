use native.Mathlib.Omega.{arith}
use mathlib.Core.Path.{refl, ◌∙◌}
use mathlib.Core.Logic.{◌≢◌}
use Rattle.graph.specs.State.{parent_of}
use Rattle.graph.specs.Layout.{state_of}
use Rattle.contacts.specs.laws.Outermost.{parent_above, outermost-up, outermost-here}
use Rattle.contacts.proofs.outermost.Goals as goal

pub loop-p-init : goal.loop-p-init
loop-p-init c = (c.requires.2, c.parent-p.ensures.0, refl)

pub parent-p-requires-in-loop-p : goal.parent-p-requires-in-loop-p
parent-p-requires-in-loop-p c =
    let q = c.loop-p in
    let k = parent_above (state_of c.args.b.now) c.requires.1 q.m q.invariant.0 (λ z. omega (arith, z, q.invariant.1)) in
    (c.requires.0, omega (arith, k.0, k.1, q.invariant.1))

pub loop-p-smaller : goal.loop-p-smaller
loop-p-smaller c =
    let q = c.loop-p in
    let k = parent_above (state_of c.args.b.now) c.requires.1 q.m q.invariant.0 (λ z. omega (arith, z, q.invariant.1)) in
    omega (arith, k.0, k.1, q.invariant.1)

pub loop-p-preserved : goal.loop-p-preserved
loop-p-preserved c =
    let q = c.loop-p in
    let d = state_of c.args.b.now in
    let n : parent_of d q.m ≢ 0 = λ z. omega (arith, z, q.invariant.1) in
    let k = parent_above d c.requires.1 q.m q.invariant.0 n in (
      omega (arith, k.0, k.1, q.invariant.1),
      c.parent-p-in-loop-p.ensures.0,
      rw q.invariant.1 (outermost-up d c.requires.1 q.m q.invariant.0 n ∙ q.invariant.2),
    )

pub returns : goal.returns
returns c =
    let q = c.loop-p in
    (outermost-here (state_of c.args.b.now) q.m (omega (arith, q.invariant.1)) ∙ q.invariant.2, q.invariant.0)
