use Prim.Native.Nat.{◌+◌}
use native.Mathlib.Omega.{arith}
use mathlib.Core.Path.{◌≡◌, sym, ◌∙◌}
use mathlib.Core.Bool.{false}
use lib.Dec.{eqb}
use borrow.Author.Tests.{eq-eqb, ne_eqb}
use Rattle.graph.specs.State.{holder_at, opposite, grown_over, weight_over}
use Rattle.graph.specs.Layout.{state_of}
use Rattle.update_length.specs.Scan.{meets_peer}
use Rattle.update_length.proofs.stop.meets_peer.Goals as goal

pub grow_state-requires : goal.grow_state-requires
grow_state-requires c =
    let e : c.holder-h.result ≡ holder_at (state_of c.args.b.now) (opposite c.args.s) = cc in
    (c.requires.0, omega (arith, e, c.requires.1.holders (opposite c.args.s), c.if-h-eq0.false))

pub returns-then-h-eq0 : goal.returns-then-h-eq0
unfolding meets_peer
returns-then-h-eq0 c =
    let C = state_of c.args.b.now in
    let q : grown_over C c.args.s ≡ weight_over C c.args.s = cc in
    let h : holder_at C (opposite c.args.s) ≡ 0 = cc in
    rw (eq-eqb _ _ q, eq-eqb _ _ h)

pub returns-else-h-eq0 : goal.returns-else-h-eq0
unfolding meets_peer
returns-else-h-eq0 c =
    let C = state_of c.args.b.now in
    let q : grown_over C c.args.s ≡ weight_over C c.args.s = cc in
    let e : c.holder-h.result ≡ holder_at C (opposite c.args.s) = cc in
    rw (eq-eqb _ _ q, ← e, ne_eqb _ _ c.if-h-eq0.false, c.grow_state.ensures.0)

pub returns-else-g-weight : goal.returns-else-g-weight
unfolding meets_peer
returns-else-g-weight c =
    let C = state_of c.args.b.now in
    let g : c.growth.result + c.growth-2.result ≡ grown_over C c.args.s =
    cc in
    let q : eqb (grown_over C c.args.s) (weight_over C c.args.s) ≡ false =
    ne_eqb _ _ (λ e. c.if-g-weight.false (g ∙ e ∙ sym c.weight.ensures.0)) in
    rw q
