use native.Mathlib.Omega.{arith}
use mathlib.Core.Path.{sym, ◌∙◌}
use Rattle.grow_pass.specs.laws.Grow.{far-room, far-note, far-held}
use Rattle.grow_pass.proofs.grow.note_far.Goals as goal

pub put-requires : goal.put-requires
put-requires c = let v = c.end-v in
    let r = far-room c.requires.0 c.args.s v.result v.ensures.1
    (sym c.holder.ensures.0 ∙ c.if-holder-eq0.true) c.requires.2 c.requires.3 in
    (omega (arith, c.requires.0.holding.size), omega arith)

pub returns-then-holder-eq0 : goal.returns-then-holder-eq0
returns-then-holder-eq0 c = let v = c.end-v in
    let z = sym c.holder.ensures.0 ∙ c.if-holder-eq0.true in
    rw c.put.ensures
    (far-note c.requires.0 c.args.s _ v.result c.opposite-o.ensures.0 v.ensures.0
    (far-room c.requires.0 c.args.s v.result v.ensures.1 z c.requires.2 c.requires.3) z c.set_holder.ensures)

pub returns-else-holder-eq0 : goal.returns-else-holder-eq0
returns-else-holder-eq0 c = far-held c.requires.0 c.args.s _ _ c.opposite-o.ensures.0 c.end-v.ensures.0
    (λ z. c.if-holder-eq0.false (c.holder.ensures.0 ∙ z))
