use mathlib.Core.Path.{ap, sym, ◌∙◌}
use lib.Dec.{eqb}
use Rattle.grow_pass.specs.laws.Take.{take-free, take-held}
use Rattle.grow_pass.proofs.take.take_side.Goals as goal

pub returns-then-holder-eq0 : goal.returns-then-holder-eq0
returns-then-holder-eq0 c = rw (c.put.ensures, c.called_if.ensures)
    (take-free c.requires.0 c.requires.1 c.args.s c.requires.2 c.args.g (eqb c.weight-w.result 0)
    (sym c.holder.ensures.0 ∙ c.if-holder-eq0.true)
    c.hold.ensures (ap (λ x. eqb x 0) c.weight-w.ensures.0))

pub returns-else-holder-eq0 : goal.returns-else-holder-eq0
returns-else-holder-eq0 c = take-held c.requires.0 c.args.g c.args.s (λ z. c.if-holder-eq0.false (c.holder.ensures.0 ∙ z))
