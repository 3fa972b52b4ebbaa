use mathlib.Core.Path.{ap, ◌∙◌}
use Rattle.graph.specs.Node.{grown_node}
use Rattle.graph.specs.Layout.{state_of}
use Rattle.growth.proofs.laws.Moving.{node-movable, grown-small, grown-put, dual-then-top}
use Rattle.growth.proofs.move_node.Goals as goal

pub grown-x-requires : goal.grown-x-requires
grown-x-requires c =
    rw c.node.ensures.0 (node-movable (state_of c.args.b.now) c.args.n c.args.d c.args.l c.requires.2)

pub set_dual-requires : goal.set_dual-requires
set_dual-requires c =
    let e = c.grown-x.ensures ∙ ap (grown_node c.args.d c.args.l) c.node.ensures.0 in
    (c.requires.0, c.requires.1, grown-small (state_of c.args.b.now) c.args.n c.args.d c.args.l c.requires.2 e)

pub put_top-requires : goal.put_top-requires
put_top-requires c =
    let e =
    c.grown-x.ensures
    ∙ ap (grown_node c.args.d c.args.l) c.node.ensures.0 in
    let p = c.set_dual.ensures in (
      p.formed,
      rw p.nodes c.requires.1,
      rw p.state
          (grown-put (state_of c.args.b.now) c.args.n c.args.d c.args.l c.requires.2 e
          (rw c.node.ensures.0
          at c.node.ensures.1)),
    )

pub returns : goal.returns
returns c =
    let e =
    c.grown-x.ensures
    ∙ ap (grown_node c.args.d c.args.l)
    c.node.ensures.0 in
    dual-then-top (state_of c.args.b.now) c.args.n c.args.d c.args.l c.requires.2 e
    c.set_dual.ensures c.put_top.ensures
