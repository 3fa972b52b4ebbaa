use mathlib.Core.Path.{sym, ap}
use Rattle.answers.specs.Outcome.{Length}
use Rattle.answers.specs.Answer.{is_free}
use Rattle.round_answers.proofs.node_answers.is_free_length.Goals as goal

pub returns-in-NonZeroGrow : goal.returns-in-NonZeroGrow
unfolding is_free
returns-in-NonZeroGrow c = ap (λ m. is_free (Length m)) (sym c.in-NonZeroGrow.is)

pub returns-in-Unlimited : goal.returns-in-Unlimited
unfolding is_free
returns-in-Unlimited c = ap (λ m. is_free (Length m)) (sym c.in-Unlimited.is)

pub returns-in-Conflicting : goal.returns-in-Conflicting
unfolding is_free
returns-in-Conflicting c = ap (λ m. is_free (Length m)) (sym c.in-Conflicting.is)

pub returns-in-TouchingVirtual : goal.returns-in-TouchingVirtual
unfolding is_free
returns-in-TouchingVirtual c = ap (λ m. is_free (Length m)) (sym c.in-TouchingVirtual.is)

pub returns-in-BlossomNeedExpand : goal.returns-in-BlossomNeedExpand
unfolding is_free
returns-in-BlossomNeedExpand c = ap (λ m. is_free (Length m)) (sym c.in-BlossomNeedExpand.is)

pub returns-in-VertexShrinkStop : goal.returns-in-VertexShrinkStop
unfolding is_free
returns-in-VertexShrinkStop c = ap (λ m. is_free (Length m)) (sym c.in-VertexShrinkStop.is)

pub returns-in-VertexShrinkStopPeer : goal.returns-in-VertexShrinkStopPeer
unfolding is_free
returns-in-VertexShrinkStopPeer c = ap (λ m. is_free (Length m)) (sym c.in-VertexShrinkStopPeer.is)
