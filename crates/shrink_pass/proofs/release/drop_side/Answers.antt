use Rattle.shrink_pass.specs.laws.Release.{does-drop-side}
use mathlib.Core.Path.{ap}
use lib.Dec.{eqb}
use Rattle.shrink_pass.proofs.release.drop_side.Goals as goal

pub returns : goal.returns
returns c =
    rw c.called_if.ensures
    (does-drop-side c.requires.0 _ _
    c.free.ensures
    (ap (λ x. eqb x 0) c.weight-empty.ensures.0)
    (λ k. rw c.opposite-o.ensures.0
    at (c.keep_once-q.ensures _ k)))
