use native.Mathlib.Omega.{arith}
use mathlib.Core.Path.{◌∙◌}
use Rattle.graph.specs.Form.{Laid}
use Rattle.graph.specs.inner.Insert.{tail_put}
use Rattle.graph.specs.laws.Used.{entries-total}
use Rattle.store.specs.laws.Insert.{rewritten-then, pushed-empty, head-limit, tail-limit}
use Rattle.store.proofs.insert.push_empty.Goals as goal

pub put_tail-requires : goal.put_tail-requires
unfolding Laid
put_tail-requires c =
    let p = c.put_head.ensures in (
      p.kept.laid,
      omega (
        arith,
        head-limit c.node_count-n.result
            c.new_node-d.result p,
        c.requires.1,
        c.node_count-n.ensures.0,
      ),
      omega (arith, c.requires.0.laid.sized, c.requires.0.laid.counted, c.entry_count-a.ensures.1),
    )

pub put_node_count-requires : goal.put_node_count-requires
put_node_count-requires c =
    let q = c.put_tail.ensures in
    let p = c.put_head.ensures in (
      q.kept.laid,
      omega (
        arith,
        tail-limit _ _ q,
        head-limit c.node_count-n.result
            c.new_node-d.result p,
        c.requires.1,
        c.node_count-n.ensures.0,
      ),
    )

pub returns : goal.returns
returns c =
    let k = c.node_count-n in
    let e = c.entry_count-a in
    let d = c.new_node-d in
    let p = rw d.ensures at c.put_head.ensures in
    let q = c.put_tail.ensures in
    pushed-empty _ _ _ k.result c.args.class c.args.x e.result c.requires.0 k.ensures.0 (omega (arith, c.requires.1, k.ensures.0))
    (rewritten-then (tail_put k.result e.result) p q) c.put_node_count.ensures
    (e.ensures.0 ∙ entries-total _ c.requires.0.laid c.requires.0.listed k.result k.ensures.0)
