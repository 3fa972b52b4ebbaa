use native.Mathlib.Omega.{arith}
use mathlib.Core.Path.{sym, ◌∙◌}
use Rattle.shrink_pass.specs.laws.Shrinking.{does-keep-new, does-keep-old}
use Rattle.shrink_pass.proofs.keep.keep_once.Goals as goal

pub returns-then-word-eq0 : goal.returns-then-word-eq0
returns-then-word-eq0 c =
    λ b q. rw (c.put-then-word-eq0.ensures, c.put.ensures)
    (does-keep-new q _ (omega arith)
    (sym c.word.ensures.0
    ∙ c.if-word-eq0.true))

pub returns-else-word-eq0 : goal.returns-else-word-eq0
returns-else-word-eq0 c = λ b q. does-keep-old q _ (omega arith) (λ z. c.if-word-eq0.false (c.word.ensures.0 ∙ z))
