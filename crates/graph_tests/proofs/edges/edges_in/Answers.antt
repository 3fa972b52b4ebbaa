use Rattle.graph_tests.specs.laws.Walk.{walking-none}
use Rattle.graph.specs.laws.Scan.{all_more, all-fails}
use Rattle.graph.specs.Sound.{edge_sound}
use Rattle.graph.specs.Form.{Laid}
use Rattle.graph.specs.Layout.{state_of}
use Rattle.graph.specs.State.{edge_count, side_count}
use Rattle.graph.specs.Basic.{all_below}
use lib.Dec.{T}
use Prim.Native.Nat.{◌*◌}
use mathlib.Core.Path.{◌≡◌, refl, sym, ◌∙◌, subst}
use native.Mathlib.Omega.{arith}
use borrow.Author.Rules.{rules}
use Rattle.graph_tests.proofs.edges.edges_in.Goals as goal

pub loop-i-init : goal.loop-i-init
unfolding all_below
loop-i-init c = (refl, walking-none _ _ c.requires.5, refl)

pub loop-i-preserved : goal.loop-i-preserved
loop-i-preserved c = let w = c.walk_edge in (
  all_more _ _ c.loop-i.invariant.0
      (sym c.edge_sound.ensures
      ∙ c.if-not-edge_sound.false),
  w.ensures.0 c.if-not-walk_edge.false,
  search rules,
)

pub returns-then-not-edge_sound : goal.returns-then-not-edge_sound
returns-then-not-edge_sound c = let x = state_of c.args.b.now in
    let f =
    all-fails (edge_sound x) (edge_count x) c.loop-i.i
    (omega (arith, c.loop-i-test.true, c.edge_count-n.ensures))
    (sym c.edge_sound.ensures ∙ c.if-not-edge_sound.true) in
    (λ e. absurd (subst T (sym e) tt), λ e. rw f)

pub returns : goal.returns
unfolding Laid
returns c = let x = state_of c.args.b.now in
    let z : c.loop-i.i ≡ edge_count x = omega (arith, c.loop-i-test.false, c.loop-i.auto.i-end, c.edge_count-n.ensures) in
    let y : 2 * edge_count x ≡ side_count x = omega arith in
    (λ e. (rw (← z) c.loop-i.invariant.0, rw (← y, ← z) c.loop-i.invariant.1), λ e. absurd (subst T e tt))
