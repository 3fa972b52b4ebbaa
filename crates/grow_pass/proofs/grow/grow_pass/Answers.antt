use mathlib.Core.Path.{sym, ◌∙◌}
use Rattle.grow_pass.specs.laws.Grow.{ready-sides, pass-room, pass-after, pass-idle}
use Rattle.grow_pass.proofs.grow.grow_pass.Goals as goal

pub reaches_any-requires : goal.reaches_any-requires
reaches_any-requires c = let p = c.requires in (p.0.formed, p.0.node, ready-sides p.0 p.1)

pub finish-requires : goal.finish-requires
finish-requires c = let p = c.requires in
    let x = c.grow_work-p.ensures in
    (x.working, pass-room p.0 p.1 x)

pub returns-then-reaches_any : goal.returns-then-reaches_any
returns-then-reaches_any c = rw c.called.ensures (pass-after c.requires.0 c.grow_work-p.ensures c.finish.ensures)

pub returns-else-reaches_any : goal.returns-else-reaches_any
returns-else-reaches_any c = pass-idle c.requires.0 (sym c.reaches_any.ensures ∙ c.if-reaches_any.false)
