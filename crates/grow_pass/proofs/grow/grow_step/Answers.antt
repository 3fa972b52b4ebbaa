use native.Mathlib.Omega.{arith}
use mathlib.Core.Path.{sym, ◌∙◌}
use Rattle.grow_pass.specs.laws.Grow.{far-worked, far-fits, step-note, step-keep}
use Rattle.grow_pass.proofs.grow.grow_step.Goals as goal

pub note_far-requires : goal.note_far-requires
note_far-requires c = let h = c.hold_far.ensures in
    ((far-worked c.requires.0 c.args.s h).working, omega arith, omega arith, far-fits c.requires.0 c.args.s h c.requires.3)

pub returns-then-reaches : goal.returns-then-reaches
returns-then-reaches c = step-note c.requires.0 c.args.s (sym c.reaches.ensures ∙ c.if-reaches.true)
    c.hold_far.ensures c.note_far.ensures

pub returns-else-reaches : goal.returns-else-reaches
returns-else-reaches c = rw c.put.ensures (step-keep c.requires.0 c.args.s (omega arith) (sym c.reaches.ensures ∙ c.if-reaches.false))
