use mathlib.Core.Path.{◌∙◌}
use Rattle.grow_pass.specs.laws.Grow.{finish-block, finish-scratch}
use Rattle.grow_pass.proofs.grow.finish.Goals as goal

pub returns : goal.returns
returns c = (
  finish-block c.args.t.now c.args.n c.args.m _ c.args.p
      c.overgrown_len-o.ensures.0 c.replace_lists.ensures,
  c.wipe-3.ensures
      ∙ rw (
        c.wipe-2.ensures,
        c.wipe.ensures,
      )
      (finish-scratch c.requires.0),
)
