use Rattle.dual_module_round.specs.laws.Called.{group-tested, group-unlike}
use mathlib.Core.Path.{sym, ◌∙◌}
use Rattle.dual_module_round.proofs.group_refusal.Goals as goal

pub returns-then-entries_fit : goal.returns-then-entries_fit
returns-then-entries_fit c =
    c.trial_refusal.ensures
    ∙ group-tested c.args.b.now c.args.s.now c.args.t.now c.args.m
    (sym c.entries_fit.ensures ∙ c.if-entries_fit.true)

pub returns : goal.returns
returns c =
    group-unlike c.args.b.now c.args.s.now c.args.t.now c.args.m
    (sym c.entries_fit.ensures ∙ c.if-entries_fit.false)
