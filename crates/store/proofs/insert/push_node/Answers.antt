use native.Mathlib.Omega.{arith}
use Rattle.graph.specs.State.{vertex_count}
use Rattle.graph.specs.Layout.{state_of, class_from}
use Rattle.graph.specs.Word.{numbers_at}
use Rattle.graph.specs.laws.Number.{numbers-none}
use Rattle.graph.specs.laws.Form.{formed-shape}
use Rattle.store.specs.laws.Insert.{new-room, pushed-lists}
use Rattle.store.proofs.insert.push_node.Goals as goal

pub replace_lists-requires : goal.replace_lists-requires
replace_lists-requires c =
    let i = c.push_empty.ensures in
    let e = c.node_count-n.ensures.0 in (
      i.formed,
      omega (arith, i.nodes, e),
      c.requires.4,
      omega arith,
      omega arith,
      new-room (class_from (vertex_count (state_of c.args.b.now)) c.args.class) c.args.x
          c.node_count-n.result c.args.k (formed-shape _ c.requires.0) e i c.requires.5,
    )

pub returns : goal.returns
returns c =
    let i = c.push_empty.ensures in
    let e = c.node_count-n.ensures.0 in
    pushed-lists (class_from (vertex_count (state_of c.args.b.now)) c.args.class) c.args.x
    c.node_count-n.result (numbers_at c.args.t.now 0 c.args.k)
    (formed-shape _ c.requires.0) e i (rw (numbers-none c.args.t.now 0) at c.replace_lists.ensures)
