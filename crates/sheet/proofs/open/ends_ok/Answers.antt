use native.Mathlib.Omega.{arith}
use mathlib.Core.Path.{refl, sym, ◌∙◌}
use Rattle.graph.specs.Basic.{all}
use Rattle.graph.specs.Opening.{edge_at, edges_from}
use Rattle.graph.specs.laws.Scan.{list-more, list-fails, list_done}
use Rattle.open_graph.specs.laws.Open.{edges-count, edges-get}
use Rattle.sheet.proofs.open.ends_ok.Goals as goal

pub loop-i-init : goal.loop-i-init
unfolding all
loop-i-init c = refl

pub loop-i-preserved : goal.loop-i-preserved
loop-i-preserved c =
    let l = c.args.edges.now in
    let g = edges-get l c.loop-i.i (omega arith) in
    list-more _ (edges_from l) c.loop-i.i (edge_at l 0) (rw (edges-count l) (omega arith)) c.loop-i.invariant
    (rw g (sym c.end_ok.ensures ∙ c.if-not-end_ok.false))

pub returns-then-not-end_ok : goal.returns-then-not-end_ok
returns-then-not-end_ok c =
    let l = c.args.edges.now in
    let g = edges-get l c.loop-i.i (omega arith) in
    sym
    (list-fails _ (edges_from l) c.loop-i.i (edge_at l 0) (rw (edges-count l) (omega arith))
    (rw g (sym c.end_ok.ensures ∙ c.if-not-end_ok.true)))

pub returns : goal.returns
returns c =
    let l = c.args.edges.now in
    list_done _ (edges_from l) c.loop-i.i (rw (edges-count l) (omega arith)) c.loop-i.invariant
