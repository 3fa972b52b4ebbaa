use Rattle.remove.specs.laws.Opened.{entries_fit, node-removed}
use native.Mathlib.Omega.{arith}
use Rattle.remove.proofs.opened.remove_node.Goals as goal

pub replace_lists-requires : goal.replace_lists-requires
replace_lists-requires c =
    let q = c.set_grow_state.ensures in (
      q.formed,
      omega (arith, q.nodes, c.set_removed.ensures.nodes, c.requires.1),
      omega arith,
      omega arith,
      omega arith,
      entries_fit q.formed c.args.n,
    )

pub returns : goal.returns
returns c =
    node-removed c.args.t.now c.args.n
    c.set_removed.ensures
    c.set_grow_state.ensures c.replace_lists.ensures
