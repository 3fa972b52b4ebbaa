use mathlib.Core.Path.{sym, ◌∙◌}
use Rattle.shrink_pass.specs.laws.Release.{does-drop, does-no-drop}
use Rattle.shrink_pass.proofs.release.drop_vertex.Goals as goal

pub returns-then-holder-n : goal.returns-then-holder-n
returns-then-holder-n c =
    does-drop _ _
    (sym c.holder.ensures.0
    ∙ c.if-holder-n.true)
    c.part_vertex.ensures

pub returns-else-holder-n : goal.returns-else-holder-n
returns-else-holder-n c = does-no-drop c.requires.0 _ _ (λ z. c.if-holder-n.false (c.holder.ensures.0 ∙ z))
