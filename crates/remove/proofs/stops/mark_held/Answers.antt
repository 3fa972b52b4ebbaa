use Rattle.graph.specs.laws.Members.{clash}
use mathlib.Core.Bool.{false}
use mathlib.Core.Path.{refl, sym, ◌∙◌}
use Rattle.remove.specs.laws.Stops.{held_none, held_more, held-not, held-all-sides, held-carries}
use Rattle.graph.specs.Layout.{state_of}
use lib.ListN.{length-set}
use native.Mathlib.Omega.{arith}
use Rattle.remove.proofs.stops.mark_held.Goals as goal

pub loop-i-init : goal.loop-i-init
loop-i-init c = (held_none (state_of c.args.b.now) c.args.n c.args.own.now c.requires.4, refl)

pub boundary_side-s-requires : goal.boundary_side-s-requires
boundary_side-s-requires c =
    (c.requires.0.laid, c.requires.0.listed, c.requires.2, c.requires.1 c.args.n c.requires.2, omega arith)

pub returns-then-holder-eq0 : goal.returns-then-holder-eq0
returns-then-holder-eq0 c = (
  held-not c.loop-i.invariant.0 c.boundary_side-s.result (omega arith)
      c.boundary_side-s.ensures.0 (sym c.holder.ensures.0 ∙ c.if-holder-eq0.true),
  λ e. clash false e refl,
)

pub loop-i-preserved : goal.loop-i-preserved
loop-i-preserved c = (
  held_more c.loop-i.invariant.0 c.boundary_side-s.result (omega arith)
      c.boundary_side-s.ensures.0
      (omega (
        arith,
        c.requires.3,
        c.loop-i.invariant.1,
      ))
      (λ e. c.if-holder-eq0.false (c.holder.ensures.0 ∙ e)),
  simp (length-set) c.loop-i.invariant.1,
)

pub returns : goal.returns
returns c = (held-all-sides c.loop-i.invariant.0 (omega arith), λ e. held-carries c.loop-i.invariant.0 (omega arith))
