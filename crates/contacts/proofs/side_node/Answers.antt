use native.Mathlib.Omega.{arith}
use mathlib.Core.Path.{refl, ap}
use Prim.Native.Nat.{◌+◌}
use borrow.Author.Tests.{ne_eqb}
use Rattle.graph.specs.Layout.{state_of}
use Rattle.graph.specs.laws.Shape.{side-facts, sound-side}
use Rattle.calls.specs.Contacts.{side_node}
use Rattle.contacts.proofs.side_node.Goals as goal

pub outermost-requires : goal.outermost-requires
outermost-requires c =
    let d = state_of c.args.b.now in
    let h = (side-facts d c.args.s (sound-side d c.requires.1 c.args.s c.requires.2)).holder in
    (c.requires.0, c.requires.1, omega (arith, h, c.holder-h.ensures.0, c.if-h-eq0.false))

pub returns-then-h-eq0 : goal.returns-then-h-eq0
unfolding side_node
returns-then-h-eq0 c = (rw (← c.holder-h.ensures.0, c.if-h-eq0.true) refl, omega arith)

pub returns-else-h-eq0 : goal.returns-else-h-eq0
unfolding side_node
returns-else-h-eq0 c =
    let h = c.holder-h in
    (rw (← h.ensures.0, ne_eqb h.result 0 c.if-h-eq0.false) (ap (λ n. n + 1) c.outermost.ensures.0), omega (arith, c.outermost.ensures.1))
