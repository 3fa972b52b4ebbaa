use Rattle.calls.specs.Group.{found_as}
use mir.Facts.{to_z-of_z}
use mathlib.Core.Path.{sym, ap, ◌∙◌}
use Rattle.answers.specs.Outcome.{Length}
use Rattle.calls.specs.Round.{join_free}
use borrow.Author.Rules.{sfits_of}
use Rattle.round_answers.proofs.node_answers.join_free_length.Goals as goal

pub returns-in-NonZeroGrow : goal.returns-in-NonZeroGrow
unfolding join_free
returns-in-NonZeroGrow c =
    (rw
    (to_z-of_z
    (sfits_of (rw c.in-NonZeroGrow.is at c.well_formed.1.0).1.1.1.1.0.1))
    at c.join_length.ensures)
    ∙ ap (λ m. join_free (found_as c.args.g) (Length m)) (sym c.in-NonZeroGrow.is)

pub returns-in-Unlimited : goal.returns-in-Unlimited
unfolding join_free
returns-in-Unlimited c = c.join_unlimited.ensures ∙ ap (λ m. join_free (found_as c.args.g) (Length m)) (sym c.in-Unlimited.is)

pub returns-in-Conflicting : goal.returns-in-Conflicting
unfolding join_free
returns-in-Conflicting c = ap (λ m. join_free (found_as c.args.g) (Length m)) (sym c.in-Conflicting.is)

pub returns-in-TouchingVirtual : goal.returns-in-TouchingVirtual
unfolding join_free
returns-in-TouchingVirtual c = ap (λ m. join_free (found_as c.args.g) (Length m)) (sym c.in-TouchingVirtual.is)

pub returns-in-BlossomNeedExpand : goal.returns-in-BlossomNeedExpand
unfolding join_free
returns-in-BlossomNeedExpand c = ap (λ m. join_free (found_as c.args.g) (Length m)) (sym c.in-BlossomNeedExpand.is)

pub returns-in-VertexShrinkStop : goal.returns-in-VertexShrinkStop
unfolding join_free
returns-in-VertexShrinkStop c = ap (λ m. join_free (found_as c.args.g) (Length m)) (sym c.in-VertexShrinkStop.is)

pub returns-in-VertexShrinkStopPeer : goal.returns-in-VertexShrinkStopPeer
unfolding join_free
returns-in-VertexShrinkStopPeer c = ap (λ m. join_free (found_as c.args.g) (Length m)) (sym c.in-VertexShrinkStopPeer.is)
