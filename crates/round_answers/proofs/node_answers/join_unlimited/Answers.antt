use Rattle.calls.specs.Group.{found_as}
use mir.Syntax.{w64}
use borrow.Author.Rules.{sfits_of}
use mir.Facts.{to_z-of_z}
use Rattle.calls.specs.Round.{join_unlimited}
use mathlib.Core.Path.{sym, ap}
use Rattle.round_answers.proofs.node_answers.join_unlimited.Goals as goal

pub returns-in-NonZeroGrow : goal.returns-in-NonZeroGrow
unfolding join_unlimited
returns-in-NonZeroGrow c =
    rw (to_z-of_z {w = w64} (sfits_of (rw c.in-NonZeroGrow.is at c.well_formed.0).1.1.1.1.0.1))
    (ap (λ g. join_unlimited (found_as g) c.args.f) (sym c.in-NonZeroGrow.is))

pub returns-in-Unlimited : goal.returns-in-Unlimited
unfolding join_unlimited
returns-in-Unlimited c = ap (λ g. join_unlimited (found_as g) c.args.f) (sym c.in-Unlimited.is)

pub returns-in-Conflicts : goal.returns-in-Conflicts
unfolding join_unlimited
returns-in-Conflicts c = ap (λ g. join_unlimited (found_as g) c.args.f) (sym c.in-Conflicts.is)
