use Rattle.graph_tests.specs.laws.Walk.{walking-all}
use mathlib.Core.Path.{◌∙◌}
use Rattle.graph_tests.proofs.edges.wired.Goals as goal

pub returns-then-edges_in : goal.returns-then-edges_in
returns-then-edges_in c = let w = c.edges_in.ensures.0 c.if-edges_in.true in
    rw w.0 (c.all_reached.ensures ∙ walking-all c.args.b.now _ c.requires.0 c.requires.1 w.1)
