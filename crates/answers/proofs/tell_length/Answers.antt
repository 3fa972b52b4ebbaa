use mathlib.Core.Path.{sym, ap, ◌∙◌}
use mathlib.Core.List.{[], ◌∷◌}
use Rattle.answers.specs.Numbers.{length_numbers}
use Rattle.answers.specs.laws.Numbers.{tells_as}
use Rattle.answers.proofs.tell_length.Goals as goal

pub returns-in-Unlimited : goal.returns-in-Unlimited
unfolding length_numbers
returns-in-Unlimited c =
    tells_as c.front.ensures
    (ap (λ f. 1 ∷ f ∷ []) c.flag.ensures.0
    ∙ ap length_numbers (sym c.in-Unlimited.is))

pub returns-in-Conflicting : goal.returns-in-Conflicting
unfolding length_numbers
returns-in-Conflicting c = tells_as c.front-in-Conflicting.ensures (ap length_numbers (sym c.in-Conflicting.is))

pub returns-in-TouchingVirtual : goal.returns-in-TouchingVirtual
unfolding length_numbers
returns-in-TouchingVirtual c =
    tells_as c.front-in-TouchingVirtual.ensures (ap length_numbers (sym c.in-TouchingVirtual.is))

pub returns-in-BlossomNeedExpand : goal.returns-in-BlossomNeedExpand
unfolding length_numbers
returns-in-BlossomNeedExpand c =
    tells_as c.front-in-BlossomNeedExpand.ensures (ap length_numbers (sym c.in-BlossomNeedExpand.is))

pub returns-in-VertexShrinkStop : goal.returns-in-VertexShrinkStop
unfolding length_numbers
returns-in-VertexShrinkStop c =
    tells_as c.front-in-VertexShrinkStop.ensures (ap length_numbers (sym c.in-VertexShrinkStop.is))

pub returns-in-VertexShrinkStopPeer : goal.returns-in-VertexShrinkStopPeer
unfolding length_numbers
returns-in-VertexShrinkStopPeer c =
    tells_as c.front-in-VertexShrinkStopPeer.ensures (ap length_numbers (sym c.in-VertexShrinkStopPeer.is))
