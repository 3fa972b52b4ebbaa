use mathlib.Core.Path.{◌∙◌}
use native.Mathlib.Omega.{arith}
use Rattle.std.specs.Prelude.{◌≡◌}
use mathlib.Core.Path.{refl}
use Rattle.graph.specs.State.{sides_at}
use Rattle.graph.specs.Layout.{state_of}
use Rattle.graph.specs.laws.Members.{any_here, any-on, any-end}
use Rattle.calls.specs.Occupied.{is_held}
use Rattle.calls.proofs.laws.Defect.{some-node, no_node}
use Rattle.calls.proofs.laws.Occupied.{read_here, read-on, read-end}
use Rattle.calls.proofs.occupied.held_side.Goals as goal

pub loop-i-init : goal.loop-i-init
loop-i-init c = (refl, omega arith)

pub returns-then-holder-ne0 : goal.returns-then-holder-ne0
returns-then-holder-ne0 c =
    let d = c.loop-i in
    let a = c.args in
    let at = sides_at (state_of a.b.now) a.v in
    let h = rw c.vertex_side-s.ensures.0 at (some-node c.holder.ensures.0 c.if-holder-ne0.true) in
    let held = any_here (is_held (state_of a.b.now)) at d.i d.invariant.0 (omega arith) h in
    (held, read_here (state_of a.b.now) at d.i d.invariant.1 (omega arith) h)

pub loop-i-preserved : goal.loop-i-preserved
loop-i-preserved c =
    let d = c.loop-i in
    let a = c.args in
    let at = sides_at (state_of a.b.now) a.v in
    let h = rw c.vertex_side-s.ensures.0 at (no_node c.holder.ensures.0 c.if-holder-ne0.false) in
    let on = any-on (is_held (state_of a.b.now)) at d.i d.invariant.0 (omega arith) h in
    (on, read-on (state_of a.b.now) at d.i d.invariant.1 (omega arith) h)

pub returns : goal.returns
returns c =
    let d = c.loop-i in
    let a = c.args in
    let at = sides_at (state_of a.b.now) a.v in
    let z : c.sides_len-l.result ≡ d.i = omega arith in (
      any-end (is_held (state_of a.b.now)) at d.i d.invariant.0 (omega arith),
      z
          ∙ read-end (state_of a.b.now) at d.i d.invariant.1 (omega arith),
    )
