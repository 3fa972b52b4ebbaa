use Rattle.round.specs.laws.Group.{list-room, listed-group}
use Rattle.calls.specs.Round.{answers_of}
use Rattle.graph.specs.Layout.{state_of}
use mathlib.Core.Path.{◌∙◌}
use native.Mathlib.Omega.{arith}
use borrow.Author.Rules.{rules}
use Rattle.round.proofs.group.list_group.Goals as goal

pub list_stops-j-requires : goal.list_stops-j-requires
list_stops-j-requires c = (
  c.requires.0,
  c.list_conflicts-k.auto.list ∙ c.requires.1,
  omega (
    arith,
    c.list_conflicts-k.ensures.count,
    list-room c.args.b.now c.requires.0.formed.laid,
  ),
)

pub returns : goal.returns
returns c =
    listed-group
    (answers_of (state_of c.args.b.now)
    (state_of c.args.b.now).active)
    c.list_conflicts-k.ensures
    (omega (arith, c.requires.1, list-room c.args.b.now c.requires.0.formed.laid))
    c.list_stops-j.ensures
