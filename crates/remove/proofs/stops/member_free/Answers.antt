use Rattle.remove.specs.laws.Stops.{met-other}
use Rattle.remove.specs.inner.Stops.{is_member}
use borrow.Author.Tests.{eq-eqb, ne_eqb}
use mathlib.Core.Path.{sym, ◌∙◌, refl}
use Rattle.graph.specs.Layout.{state_of}
use Rattle.graph.specs.laws.Members.{clash}
use mathlib.Core.Bool.{true}
use Rattle.remove.proofs.stops.member_free.Goals as goal

pub list_free-requires : goal.list_free-requires
unfolding is_member
list_free-requires c = (
  c.requires.0,
  c.requires.1,
  c.requires.2,
  eq-eqb _ _ (sym c.parent.ensures.0 ∙ c.if-parent-n.true),
  c.requires.4,
  c.requires.5,
  c.requires.6,
)

pub returns-else-parent-n : goal.returns-else-parent-n
unfolding is_member
returns-else-parent-n c = (
  λ e. met-other (state_of c.args.b.now) c.args.n c.args.m c.args.own.now c.args.met.now
      (ne_eqb _ _ (λ q. c.if-parent-n.false (c.parent.ensures.0 ∙ q))) c.requires.6,
  λ e. clash true refl e,
)
