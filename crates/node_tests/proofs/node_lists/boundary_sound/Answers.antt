use native.Mathlib.Omega.{arith}
use mathlib.Core.Path.{◌≡◌, sym, ◌∙◌}
use Prim.Native.Nat.{◌+◌, ◌*◌, ◌/◌}
use lib.Dec.{ltb}
use Rattle.graph.specs.Basic.{all}
use Rattle.graph.specs.State.{side_count, boundary_of}
use Rattle.graph.specs.Layout.{state_of}
use Rattle.graph.specs.inner.Form.{sides_ok}
use Rattle.node_tests.specs.laws.Four.{four-more, four-fails}
use borrow.Author.Rules.{rules}
use Rattle.node_tests.proofs.node_lists.boundary_sound.Goals as goal

pub loop-i-init : goal.loop-i-init
unfolding all
loop-i-init c = search rules

pub loop-i-preserved : goal.loop-i-preserved
loop-i-preserved c = let b = c.args.b.now in
    let e = sym c.four_sides.ensures ∙ c.if-not-four_sides.false in
    let z : 4 * c.loop-i.i + 4 ≡ 4 * (c.loop-i.i + 1) = omega arith in
    rw z at (four-more (λ x. ltb x (side_count (state_of b))) (boundary_of (state_of b) c.args.n) (4 * c.loop-i.i) (omega arith) c.loop-i.invariant e)

pub returns-then-not-four_sides : goal.returns-then-not-four_sides
unfolding sides_ok
returns-then-not-four_sides c = let b = c.args.b.now in
    let e = sym c.four_sides.ensures ∙ c.if-not-four_sides.true in
    sym (four-fails (λ x. ltb x (side_count (state_of b))) (boundary_of (state_of b) c.args.n) (4 * c.loop-i.i) (omega arith) e)

pub sides_from-requires : goal.sides_from-requires
sides_from-requires c =
    let r = c.requires in
    let z : c.loop-i.i ≡ c.boundary_len-k.result / 4 = omega arith in
    (r.0, r.1, r.2, r.3, c.start-a.ensures.0, rw z at c.loop-i.invariant)
