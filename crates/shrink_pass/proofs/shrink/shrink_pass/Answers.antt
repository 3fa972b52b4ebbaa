use mathlib.Core.Path.{sym, ◌∙◌}
use Rattle.shrink_pass.specs.laws.Idle.{idle-test, after-idle}
use Rattle.shrink_pass.proofs.shrink.shrink_pass.Goals as goal

pub returns-else-z-any_emptied : goal.returns-else-z-any_emptied
returns-else-z-any_emptied c =
    let s = c.requires in
    let i = idle-test c.empty_tops-z.result c.any_emptied.result c.if-z-any_emptied.false in
    after-idle _ _ _ s.0.formed s.1 (sym c.empty_tops-z.ensures ∙ i.0)
    (sym c.any_emptied.ensures ∙ i.1)
