use Rattle.round.specs.laws.Group.{asked-free, asked-listed}
use Rattle.calls.specs.Round.{answers_of}
use Rattle.graph.specs.Layout.{state_of}
use mathlib.Core.Path.{sym, ◌∙◌}
use borrow.Author.Rules.{rules}
use Rattle.round.proofs.group.ask.Goals as goal

pub returns-then-all_free : goal.returns-then-all_free
returns-then-all_free c =
    asked-free
    (answers_of (state_of c.args.b.now)
    (state_of c.args.b.now).active)
    _
    (sym c.all_free.ensures ∙ c.if-all_free.true) c.free_group.ensures

pub returns : goal.returns
returns c =
    asked-listed
    (answers_of (state_of c.args.b.now)
    (state_of c.args.b.now).active)
    _
    (sym c.all_free.ensures ∙ c.if-all_free.false)
    c.list_group.ensures
