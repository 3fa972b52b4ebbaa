use Rattle.grow_pass.specs.laws.Take.{step-taken}
use Rattle.grow_pass.proofs.take.take_step.Goals as goal

pub returns : goal.returns
returns c = step-taken c.requires.0 c.args.s _ _ c.opposite-o.ensures.0
    c.end-v.ensures.0 _ c.grandson-g.ensures.0 c.take_vertex.ensures
