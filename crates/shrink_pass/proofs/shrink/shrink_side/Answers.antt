use mathlib.Core.Path.{sym, ◌∙◌}
use Rattle.shrink_pass.specs.laws.Shrink.{does-scan-note, does-scan-keep}
use Rattle.shrink_pass.proofs.shrink.shrink_side.Goals as goal

pub returns-then-emptied : goal.returns-then-emptied
returns-then-emptied c =
    does-scan-note _
    (sym c.emptied.ensures ∙ c.if-emptied.true)
    c.note_end.ensures

pub returns-else-emptied : goal.returns-else-emptied
returns-else-emptied c =
    does-scan-keep _ (sym c.emptied.ensures ∙ c.if-emptied.false)
    (c.keep_once.ensures _ c.requires.0)
