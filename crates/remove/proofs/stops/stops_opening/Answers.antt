use Rattle.remove.specs.laws.Stops.{carry-none, stops-overgrown, stops-unheld, stops-members}
use Rattle.graph.specs.laws.Form.{formed-shape}
use Rattle.graph.specs.State.{boundary_of}
use Rattle.graph.specs.Layout.{state_of}
use native.Mathlib.Omega.{arith}
use mathlib.Core.Path.{sym, ◌∙◌}
use Rattle.remove.proofs.stops.stops_opening.Goals as goal

pub returns-then-overgrown_len-ne0 : goal.returns-then-overgrown_len-ne0
returns-then-overgrown_len-ne0 c =
    stops-overgrown (state_of c.args.b.now) (formed-shape _ c.requires.0) c.requires.1 c.args.n
    (λ e. c.if-overgrown_len-ne0.true (c.overgrown_len.ensures.0 ∙ e))

pub mark_held-requires : goal.mark_held-requires
mark_held-requires c = (
  c.requires.0,
  c.requires.1,
  c.requires.2,
  c.requires.0.sides-max,
  carry-none 8192 (boundary_of (state_of c.args.b.now) c.args.n),
)

pub members_free-requires : goal.members_free-requires
members_free-requires c = (
  c.requires.0,
  c.requires.1,
  omega (arith, c.requires.2, c.requires.0.nodes-max),
  omega (arith, c.mark_held.auto.own, c.requires.0.sides-max),
)

pub returns-then-mark_held : goal.returns-then-mark_held
returns-then-mark_held c =
    let m = c.mark_held in
    let e = c.if-mark_held.true in
    stops-members (state_of c.args.b.now) (formed-shape _ c.requires.0) c.requires.1 c.args.n m.new.own
    (omega (arith, m.auto.own, c.requires.0.sides-max)) (m.ensures.1 e)
    (sym c.overgrown_len.ensures.0
    ∙ c.if-overgrown_len-ne0.false)
    (sym m.ensures.0 ∙ e) c.members_free.ensures

pub returns-else-mark_held : goal.returns-else-mark_held
returns-else-mark_held c =
    stops-unheld (state_of c.args.b.now) (formed-shape _ c.requires.0) c.requires.1 c.args.n
    (sym c.overgrown_len.ensures.0
    ∙ c.if-overgrown_len-ne0.false)
    (sym c.mark_held.ensures.0 ∙ c.if-mark_held.false)
