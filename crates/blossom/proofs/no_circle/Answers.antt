use mathlib.Core.Path.{◌∙◌}
use Rattle.blossom.specs.laws.Circle.{no-circle-count, no-circle-repeat}
use Rattle.blossom.proofs.no_circle.Goals as goal

pub returns-then-circle : goal.returns-then-circle
returns-then-circle c = no-circle-count c.args.circle.now c.if-circle.true

pub returns-else-circle : goal.returns-else-circle
returns-else-circle c = c.repeats.ensures ∙ no-circle-repeat c.args.circle.now c.if-circle.false
