use Rattle.node_tests.specs.laws.Active.{once-active}
use Rattle.graph.specs.Layout.{state_of}
use mathlib.Core.Path.{◌∙◌}
use Rattle.node_tests.proofs.active.active_sound.Goals as goal

pub returns : goal.returns
returns c = c.active_once.ensures ∙ once-active (state_of c.args.b.now)
