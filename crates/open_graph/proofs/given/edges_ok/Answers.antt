use mathlib.Core.Path.{sym, ◌∙◌}
use native.Mathlib.Omega.{arith}
use Rattle.graph.specs.Open.{edge_ok}
use Rattle.graph.specs.Opening.{edges_from}
use Rattle.open_graph.specs.laws.Open.{rest_all, edges_more, edges-fails, edges-count}
use Rattle.open_graph.proofs.given.edges_ok.Goals as goal

pub loop-i-preserved : goal.loop-i-preserved
loop-i-preserved c = (edges_more c.args.v c.args.edges.now c.loop-i.i c.loop-i.invariant (omega arith)
    (sym c.edge_ok.ensures ∙ c.if-not-edge_ok.false))

pub returns-then-not-edge_ok : goal.returns-then-not-edge_ok
returns-then-not-edge_ok c =
    edges-fails c.args.v c.args.edges.now c.loop-i.i c.loop-i.invariant (omega arith)
    (sym c.edge_ok.ensures ∙ c.if-not-edge_ok.true)

pub returns : goal.returns
returns c =
    rest_all (edge_ok c.args.v) (edges_from c.args.edges.now) c.loop-i.i c.loop-i.invariant
    (rw (edges-count c.args.edges.now) (omega arith))
